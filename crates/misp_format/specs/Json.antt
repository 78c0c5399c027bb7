-- What a text is as JSON.
use Rattle.std.specs.Prelude.{ℕ, List, Option, Some, None, Ok, Err, if◌then◌else◌}
use Rattle.std.specs.Str.{is_utf8}
use Rattle.serde_json.specs.Data.{Data}
use Rattle.serde_json.specs.Read.{read}
use Rattle.misp_format.specs.declared.fault.FormatFault.{FormatFault}
use Rattle.misp_format.specs.Rows.{Reading}

abbrev pub json_or_fault : Option Data → Reading Data
json_or_fault None = Err FormatFault.NoJson
json_or_fault (Some d) = Ok d

-- JSON IN A TEXT: the value of a text, which is UTF-8
unfoldable pub json_in : List ℕ → Reading Data
json_in text = json_or_fault (if is_utf8 text then read text else None)
