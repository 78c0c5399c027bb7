-- What an organisation is granted at an instance, and the form in which it sees an event.
use Rattle.std.specs.Prelude.{Bool, ◌&&◌, List, not, ◌||◌, filter, cond, ltb, eqb, Option, find}
use Rattle.std.specs.List.{IsDistinct}
use Rattle.misp_groups.specs.declared.group.GroupFields.{GroupFields as Group}
use Rattle.misp_groups.specs.Audience.{is_open}
use Rattle.misp_elem.specs.declared.row.RowFields.{RowFields as Row}
use Rattle.misp_elem.specs.Prelude.{EventId, Inst, OrgId, event_key, event_of, list_all, list_any, parents, same_key, same_org}
use Rattle.misp_elem.specs.declared.key.KeyForm.{KeyForm as Key}
use Rattle.misp_elem.specs.RowFacts.{is_tombstone, is_deleted}
use Rattle.misp_elem.specs.declared.key.KeyForm.TheVariants.{Element, Reference, Proposal, Verdict, Sighting}

-- the two are of one owner and one key
unfoldable pub in_one_cell : Row → Row → Bool
in_one_cell a b = same_org a.owner b.owner && same_key a.key b.key

-- no two of these rows are of one owner and one key
abbrev pub IsTable : List Row → Type 0
IsTable rows = IsDistinct in_one_cell rows

-- the row is the owner's row of the key
unfoldable pub is_row_of : OrgId → Key → Row → Bool
is_row_of w k row = same_org row.owner w && same_key row.key k

-- the owner's copy of the event is Home or Carried
unfoldable pub has_copy : List Row → OrgId → EventId → Bool
has_copy rows w e = list_any (λ row. is_row_of w (event_key e) row && not (is_tombstone row)) rows

-- the owner's copy is Home, Gone
unfoldable pub has_home : List Row → OrgId → EventId → Bool
has_home rows w e =
    list_any (λ row. is_row_of w (event_key e) row && (not (is_tombstone row) && not row.carried)) rows

unfoldable pub has_gone : List Row → OrgId → EventId → Bool
has_gone rows w e = list_any (λ row. is_row_of w (event_key e) row && is_tombstone row) rows

-- the row is open to the organisation
unfoldable pub row_is_open : List Group → Inst → OrgId → Row → Bool
row_is_open groups i o row = is_open groups i o row.owner row.label

-- the owner has a row of this key that is open to the organisation
unfoldable pub has_open : List Row → List Group → Inst → OrgId → OrgId → Key → Bool
has_open rows groups i o w k =
    list_any (λ row. is_row_of w k row && row_is_open groups i o row) rows

-- an element or reference row is granted: its copy is there, and it and all its parents in that
-- copy are open
unfoldable pub element_granted : List Row → List Group → Inst → OrgId → Row → Bool
element_granted rows groups i o row =
    has_copy rows row.owner (event_of row.key) && row_is_open groups i o row
    && list_all (has_open rows groups i o row.owner) (parents row.key)

-- the element of this key is granted in some copy
unfoldable pub granted_somewhere : List Row → List Group → Inst → OrgId → Key → Bool
granted_somewhere rows groups i o k =
    list_any (λ row. same_key row.key k && element_granted rows groups i o row) rows

-- whether a row of this key is granted; element says it for an element or a reference
unfoldable pub granted_by : List Row → List Group → Inst → OrgId → OrgId → Bool → Key → Bool
granted_by rows groups i o w element (Element e p) = element
granted_by rows groups i o w element (Reference e x t u) = element
granted_by rows groups i o w element (Proposal e n) =
    same_org o w || granted_somewhere rows groups i o (Element e n.target)
granted_by rows groups i o w element (Verdict e n j v) =
    same_org o w || granted_somewhere rows groups i o (Element e n.target)
granted_by rows groups i o w element (Sighting e t j v u) =
    same_org o w || has_copy rows o e && granted_somewhere rows groups i o (Element e t)

-- the row is granted to the organisation
unfoldable pub granted : List Row → List Group → Inst → OrgId → Row → Bool
granted rows groups i o row =
    granted_by rows groups i o row.owner (element_granted rows groups i o row) row.key

-- what the organisation knows: what is granted to it, and all that is its own
unfoldable pub is_known : List Row → List Group → Inst → OrgId → Row → Bool
is_known rows groups i o row = same_org row.owner o || granted rows groups i o row

unfoldable pub known : List Row → List Group → Inst → OrgId → List Row
known rows groups i o = filter (is_known rows groups i o) rows

-- neither the row nor a parent of it is deleted, and its copy is not Gone
unfoldable pub is_live : List Row → Row → Bool
is_live rows row =
    not (is_deleted row) && not (has_gone rows row.owner (event_of row.key))
    && list_all (λ k. not (list_any (λ r. is_row_of row.owner k r && is_deleted r) rows))
    (parents row.key)

-- of two event rows the first is chosen: the greater stamp, of equals Home before Carried, of
-- equals the least owner
unfoldable pub is_before : Row → Row → Bool
is_before a b =
    ltb b.stamp a.stamp
    || eqb b.stamp a.stamp
    && (b.carried && not a.carried
    || cond b.carried a.carried (not a.carried) && ltb a.owner.0.0 b.owner.0.0)

-- of these rows the one that none goes before
unfoldable pub first_of_all : List Row → Option Row
first_of_all rows = find (λ row. not (list_any (λ other. is_before other row) rows)) rows

-- the event row of the chosen copy
unfoldable pub chosen : List Row → List Group → Inst → OrgId → EventId → Option Row
chosen rows groups i o e =
    first_of_all
    (filter (λ row. same_key row.key (event_key e) && granted rows groups i o row) rows)

-- no lesser owner has a granted row of the row's key
unfoldable pub is_least : List Row → List Group → Inst → OrgId → Row → Bool
is_least rows groups i o row =
    granted rows groups i o row
    && not (list_any (λ r.
    same_key r.key row.key && ltb r.owner.0.0 row.owner.0.0 && granted rows groups i o r) rows)
