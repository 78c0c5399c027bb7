-- Packages, in which a synchronisation carries rows.
use Rattle.std.specs.Prelude.{◌≡◌, ◌<◌, ◌^◌, ◌&&◌, not, eqb, Bool, true, List, [], ◌∷◌, length, map}
use Rattle.std.specs.List.Sorted.{IsStrictlySortedBy}
use Rattle.misp_ids.specs.Uid.{IsUid}
use Rattle.misp_lists.specs.Prelude.{nat_cmp}
use Rattle.misp_elem.specs.declared.key.Place.{Place}
use Rattle.misp_elem.specs.declared.row.RowFields.{RowFields as Row}
use Rattle.misp_elem.specs.Fields.{IsBetween}
use Rattle.misp_elem.specs.declared.key.KeyForm.TheVariants.{Element}
use Rattle.misp_elem.specs.Prelude.{EventId, OrgId, event_of, list_all, slice_cmp}
use Rattle.misp_elem.specs.Row.{AreRows}
use Rattle.misp_model.specs.declared.package.PackageFields.{PackageFields}
use Rattle.misp_elem.specs.Spelling as spelling

-- whose the rows of a package are
abbrev pub nobody : OrgId
nobody = record { 0 = record { 0 = 0 } }

-- the row is of this event, nobody's, carried and not held
abbrev pub is_packed : EventId → Row → Bool
is_packed e row =
    eqb (event_of row.key).0.0 e.0.0 && eqb row.owner.0.0 0 && row.carried && not row.held

-- the first is the event's own row
abbrev pub BeginsWith : EventId → List Row → Type 0
BeginsWith e [] = ⊥
BeginsWith e (row ∷ rows) = row.key ≡ Element e Place.Event

-- 1 to 65 rows, of which the first is the event's own and which ascend by the bytes of their keys
pub record IsPackage (p : PackageFields) : Type 0 where
  pub event : IsUid p.event.0
  pub part : p.part < p.parts
  pub parts : p.parts < 2 ^ 32
  pub count : IsBetween 1 65 (length p.rows)
  pub first : BeginsWith p.event p.rows
  pub packed : list_all (is_packed p.event) p.rows ≡ true
  pub ascend : IsStrictlySortedBy (slice_cmp nat_cmp) (map (λ row. spelling.key row.key) p.rows)
  pub rows : AreRows p.rows
