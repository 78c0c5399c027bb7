-- THE TABLE of labels: each by its number, and the group that one of them names.
--     MEMBER ← row it NAME READER WHERE-ABSENT
use Rattle.std.specs.Prelude.{ℕ, ◌==◌, List, codes, Ok, if◌then◌else◌}
use Rattle.serde_json.specs.Data.{Data}
use Rattle.misp_ids.specs.declared.uid.GroupId.{GroupId}
use Rattle.misp_ids.specs.declared.label.Label.{Label}
use Rattle.misp_fields.specs.Fields.{uuid_of}
use Rattle.misp_format.specs.Body.{Body}
use Rattle.misp_format.specs.Path.{member_path}
use Rattle.misp_format.specs.Readers.{any_of, number_within}
use Rattle.misp_format.specs.Rows.{Reading, ◌>>=◌, row, must_be, body_at}

-- GROUP: the organisation that created it, and its own identifier
unfoldable pub group_at : List ℕ → Data → Reading GroupId
group_at path d = do
  it ← body_at path d
  creator ← row it (codes "organisation_uuid") uuid_of must_be
  uuid ← row it (codes "uuid") uuid_of must_be
  Ok (record { creator = record { 0 = creator }; uuid = uuid })

-- the group of a label
abbrev pub named_group_at : Body → Reading GroupId
named_group_at it = do
  group ← row it (codes "SharingGroup") any_of must_be
  group_at (member_path it.path (codes "SharingGroup")) group

-- the label of this number, that of a group with its group, which is read for no other
abbrev pub numbered_at : Body → ℕ → Reading Label
numbered_at it n =
    if n == 0 then Ok Label.Own
    else if n == 1 then Ok Label.Community
    else if n == 2 then Ok Label.Connected
    else if n == 3 then Ok Label.All
    else if n == 4 then (named_group_at it >>= λ group. Ok (Label.Group group))
    else Ok Label.Inherit

-- LABEL: by its number, which is at most the first, and is the second where it is absent
unfoldable pub label_at : Body → ℕ → ℕ → Reading Label
label_at it most absent = do
  number ← row it (codes "distribution") (number_within 0 most) (Ok absent)
  numbered_at it number
