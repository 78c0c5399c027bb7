-- How what is read is seen: the entry of a list, the field of a line, and what reading gives.
use Rattle.std.specs.Prelude.{Ok, ◌≡◌, option_map, Err}
use Rattle.toml.specs.View.{view}
use Rattle.misp_script.specs.declared.listed.Listed.{Listed}
use Rattle.misp_script.specs.Faults.{Reading, Fails}
use Rattle.misp_script.specs.declared.field.Field.{Field}
use Rattle.misp_script.specs.Entries.{entry_path, Body}
use Rattle.misp_script.specs.Fields.{FieldData}

-- the entry that is read
abbrev pub body_of : Listed → Body
body_of it = record { path = entry_path it.list.now it.index; value = view it.value.now }

-- the field that is read
abbrev pub field_of : Field → FieldData
field_of field =
    record {
      place = field.place;
      text = field.text.now;
      rest = option_map (λ rest. rest.now) field.rest;
    }

-- the same of what it returned as view shows it
abbrev pub Shows : {X A : Type 0} → (X → A) → Reading X → Reading A → Type 0
Shows view (Ok x) read = read ≡ Ok (view x)
Shows view (Err fault) read = Fails fault read
