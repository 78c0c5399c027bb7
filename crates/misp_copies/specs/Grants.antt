-- What is granted, by sets that are found once for all rows.
use Rattle.std.specs.Prelude.{◌≡◌, ℕ, Bool, true, ◌&&◌, ◌||◌, List}
use Rattle.misp_model.specs.Prelude.{BTreeSet, Element, EventId, Group, Inst, Key, OrgId, Place, Proposal, Reference, Row, Sighting, Verdict, event_of, is_row_of, is_statement, list_all, list_any, parents, row_is_open, same_key, same_org}
use Rattle.misp_copies.specs.declared.grants.Grants.{Grants}
use Rattle.misp_copies.specs.Kinds.{is_upper, is_link}
use Rattle.misp_copies.specs.Table.{has_pair, IsCopies}
use Rattle.misp_copies.specs.ElementSet.{Numbers, has_element, key_is}

-- the set has the elements of those rows that pass a test, each for the row's owner
abbrev pub IsElementSet : BTreeSet Numbers → (Row → Bool) → List Row → Type 0
IsElementSet elements test rows =
    (w : OrgId) (e : EventId) (p : Place) → has_element elements w e p
    ≡ list_any (λ row. is_row_of w (Element e p) row && test row) rows

-- the set has what is open to the organisation, and of attributes only where there are links
abbrev pub IsOpenings : BTreeSet Numbers → List Group → Inst → OrgId → Bool → List Row → Type 0
IsOpenings elements groups i o linked rows =
    IsElementSet elements (λ row. row_is_open groups i o row && (linked || is_upper row.key)) rows

-- an element or reference row is granted, by the sets of copies and of what is open
unfoldable pub element_in : BTreeSet (ℕ × ℕ) → BTreeSet Numbers → List Group
    → Inst → OrgId → Row → Bool
element_in copied opened groups i o row =
    has_pair copied (event_of row.key) row.owner && row_is_open groups i o row
    && list_all (key_is opened row.owner true) (parents row.key)

-- the set has the elements that are granted so, for the organisation, where there are statements
abbrev pub IsGranted : BTreeSet Numbers → BTreeSet (ℕ × ℕ) → BTreeSet Numbers
    → List Group → Inst → OrgId → Bool → List Row → Type 0
IsGranted elements copied opened groups i o told rows =
    (w : OrgId) (e : EventId) (p : Place) → has_element elements w e p
    ≡ list_any (λ row. (same_org o w && same_key row.key (Element e p))
    && (told && element_in copied opened groups i o row)) rows

-- whether a row of this key is granted, by the sets; element says it for an element or a reference
unfoldable pub granted_as : Grants → OrgId → OrgId → Bool → Key → Bool
granted_as g o w element (Element e p) = element
granted_as g o w element (Reference e x t u) = element
granted_as g o w element (Proposal e n) = same_org o w || has_element g.granted o e n.target
granted_as g o w element (Verdict e n j v) = same_org o w || has_element g.granted o e n.target
granted_as g o w element (Sighting e t j v u) =
    same_org o w || has_pair g.copied e o && has_element g.granted o e t

unfoldable pub granted_in : Grants → List Group → Inst → OrgId → Row → Bool
granted_in g groups i o row =
    granted_as g o row.owner (element_in g.copied g.opened groups i o row) row.key

-- the sets are those of the rows
pub record IsGrants (g : Grants) (groups : List Group) (i : Inst) (o : OrgId)
    (rows : List Row) : Type 0 where
  pub copies : IsCopies g.copied rows
  pub opens : IsOpenings g.opened groups i o (list_any (λ row. is_link row.key) rows) rows
  pub grants :
      IsGranted g.granted g.copied g.opened groups i o
      (list_any (λ row. is_statement row.key) rows) rows
