-- The words for what a value was needed to be.
use Rattle.std.specs.Prelude.{ℕ, List, ◌++◌, codes, decimal}
use Rattle.misp_fields.specs.declared.need.Need.{Need}

-- as replies show it
unfoldable pub need_words : Need → List ℕ
need_words Need.Text = codes "text"
need_words Need.Number = codes "number"
need_words Need.Flag = codes "flag"
need_words Need.Stamp = codes "stamp"
need_words Need.List = codes "list"
need_words Need.Uuid = codes "uuid"
need_words Need.Date = codes "date"
need_words Need.Moment = codes "moment"
need_words Need.Colour = codes "colour"
need_words Need.Present = codes "present"
need_words Need.Object = codes "object"
need_words Need.Range = codes "range"
need_words Need.Key = codes "key"
need_words Need.Short = codes "short"
need_words Need.Length = codes "length"
need_words (Need.Digit place) = codes "digit " ++ decimal place
need_words (Need.Part number) = codes "part " ++ decimal number
need_words Need.Row = codes "row"
