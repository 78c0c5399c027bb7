-- What readers of fields answer.
use Rattle.std.specs.Prelude.{◌≡◌, ℕ, List, Result, Ok, Err, Option, None, Some}
use Rattle.std.specs.Result.{result_ok}
use Rattle.misp_elem.specs.Reading.{Reading}
use Rattle.misp_admins.specs.declared.item.Item.{Item}
use Rattle.misp_admin_rows.specs.declared.fault.BadField.{BadField}
use Rattle.misp_admin_rows.specs.declared.fault.Stop.{Stop}

-- nothing is read
abbrev pub IsUnread : {A : Type 0} → Result A ℕ → Type 0
IsUnread read = result_ok read ≡ None

-- A function that returned this, and left these bytes, read what reading gives.
abbrev pub Reads : {A : Type 0} → Result A BadField → List ℕ → Reading A → Type 0
Reads (Ok x) rest read = read ≡ Ok (x, rest)
Reads (Err bad) rest read = IsUnread read

-- the same of all the bytes
abbrev pub ReadsAll : {A : Type 0} → Result A BadField → Result A ℕ → Type 0
ReadsAll (Ok x) read = read ≡ Ok x
ReadsAll (Err bad) read = IsUnread read

-- the same where memory may run out
abbrev pub Fails : {A : Type 0} → Stop → Result A ℕ → Type 0
Fails Stop.NoMemory read = Unit {0}
Fails Stop.BadField read = IsUnread read

abbrev pub Gives : {A : Type 0} → Result A Stop → List ℕ → Reading A → Type 0
Gives (Ok x) rest read = read ≡ Ok (x, rest)
Gives (Err stop) rest read = Fails stop read

abbrev pub GivesAll : {A : Type 0} → Result A Stop → Result A ℕ → Type 0
GivesAll (Ok x) read = read ≡ Ok x
GivesAll (Err stop) read = Fails stop read

-- the item, or none
abbrev pub GivesItem : Result Item Stop → Option Item → Type 0
GivesItem (Ok item) read = read ≡ Some item
GivesItem (Err Stop.NoMemory) read = Unit {0}
GivesItem (Err Stop.BadField) read = read ≡ None
