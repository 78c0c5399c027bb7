-- Reading rows.
use Rattle.std.specs.Prelude.{ℕ, List, length, Bool, true, false, Result, Ok, Err, ◌==◌, if◌then◌else◌}
use Rattle.std.specs.List.{list_any}
use Rattle.misp_ids.specs.declared.label.Label.{Label}
use Rattle.misp_ids.specs.Labels.{label_kind}
use Rattle.misp_elem.specs.declared.row.RowForm.{RowForm}
use Rattle.misp_elem.specs.declared.row.RowForm.TheVariants.{First, Second}
use Rattle.misp_elem.specs.declared.row.RowFields.{RowFields}
use Rattle.misp_elem.specs.Row.{barred_labels}
use Rattle.misp_elem.specs.Reading.{Reading, ◌>>=◌, ended, byte_at, uid_at, org_at, stamp_at}
use Rattle.misp_elem.specs.KeyReading.{key_at}
use Rattle.misp_elem.specs.ContentReading.{content_at}

unfoldable pub group_at : List ℕ → Reading Label
group_at bytes = do
  creator ← org_at bytes
  uuid ← uid_at creator.1
  Ok (Label.Group (record { creator = creator.0; uuid = uuid.0 }), uuid.1)

abbrev pub label_of : List ℕ → ℕ → List ℕ → Reading Label
label_of bytes kind rest =
    if kind == 0 then Ok (Label.Own, rest)
    else if kind == 1 then Ok (Label.Community, rest)
    else if kind == 2 then Ok (Label.Connected, rest)
    else if kind == 3 then Ok (Label.All, rest)
    else if kind == 4 then group_at rest
    else if kind == 5 then Ok (Label.Inherit, rest)
    else Err (length bytes)

-- a label of none of the barred kinds
unfoldable pub label_at : List ℕ → List ℕ → Reading Label
label_at barred bytes = do
  kind ← byte_at bytes
  if list_any (λ b. b == kind.0) barred then Err (length bytes) else label_of bytes kind.0 kind.1

abbrev pub flags_of : List ℕ → ℕ → List ℕ → Reading (Bool × Bool)
flags_of bytes b rest =
    if b == 0 then Ok ((false, false), rest)
    else if b == 1 then Ok ((true, false), rest)
    else if b == 2 then Ok ((false, true), rest)
    else if b == 3 then Ok ((true, true), rest)
    else Err (length bytes)

unfoldable pub flags_at : List ℕ → Reading (Bool × Bool)
flags_at bytes = byte_at bytes >>= λ b. flags_of bytes b.0 b.1

unfoldable pub fields_at : RowForm → List ℕ → Reading RowFields
fields_at form bytes = do
  owner ← org_at bytes
  key ← key_at owner.1
  stamp ← stamp_at key.1
  label ← label_at (barred_labels key.0) stamp.1
  flags ← flags_at label.1
  content ← content_at form key.0 (label_kind label.0) flags.0 flags.1
  Ok (
    record {
      owner = owner.0;
      key = key.0;
      stamp = stamp.0;
      label = label.0;
      held = flags.0.0;
      carried = flags.0.1;
      content = content.0;
    },
    content.1,
  )

-- the byte of a form
abbrev pub form_of : List ℕ → ℕ → List ℕ → Reading RowForm
form_of bytes b rest =
    if b == 1 then Ok (First, rest)
    else if b == 2 then Ok (Second, rest)
    else Err (length bytes)

unfoldable pub form_at : List ℕ → Reading RowForm
form_at bytes = byte_at bytes >>= λ b. form_of bytes b.0 b.1

unfoldable pub row_at : List ℕ → Reading RowFields
row_at bytes = do
  form ← form_at bytes
  fields_at form.0 form.1

unfoldable pub row_of : List ℕ → Result RowFields ℕ
row_of bytes = row_at bytes >>= λ r. ended r
