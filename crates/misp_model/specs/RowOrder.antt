-- How a key is spelled by numbers, and the order in which a keeper has its rows.
use Rattle.std.specs.Prelude.{ℕ, List, [], ◌∷◌, length, ◌++◌, Bool}
use Rattle.misp_elem.specs.declared.key.Place.{Place}
use Rattle.misp_elem.specs.Prelude.{Inst, event_of, is_less}
use Rattle.misp_elem.specs.declared.key.ProposalName.{ProposalName}
use Rattle.misp_elem.specs.declared.key.KeyForm.{KeyForm as Key}
use Rattle.misp_elem.specs.declared.key.KeyForm.TheVariants.{Element, Reference, Proposal, Verdict, Sighting}
use Rattle.misp_elem.specs.declared.row.RowFields.{RowFields as Row}

-- how a place is spelled, a key, and a row's name with its event in front: the order in which a
-- keeper tells its rows
unfoldable pub spell_place : Place → List ℕ
spell_place Place.Event = 0 ∷ []
spell_place (Place.Object x) = 1 ∷ x.0.0 ∷ []
spell_place (Place.Attribute a) = 2 ∷ a.0.0 ∷ []
spell_place (Place.ObjectAttribute x a) = 3 ∷ x.0.0 ∷ a.0.0 ∷ []

unfoldable pub spell_inst : Inst → List ℕ
spell_inst i = length i ∷ i

unfoldable pub spell_name : ProposalName → List ℕ
spell_name n = spell_place n.target ++ (spell_inst n.at ++ n.by.0.0 ∷ n.uuid.0.0 ∷ [])

unfoldable pub spell : Key → List ℕ
spell (Element e p) = 0 ∷ e.0.0 ∷ spell_place p
spell (Reference e x t u) = 1 ∷ e.0.0 ∷ x.0.0 ∷ (spell_place t ++ u.0.0 ∷ [])
spell (Proposal e n) = 2 ∷ e.0.0 ∷ spell_name n
spell (Verdict e n i o) = 3 ∷ e.0.0 ∷ (spell_name n ++ (spell_inst i ++ o.0.0 ∷ []))
spell (Sighting e t i o u) = 4 ∷ e.0.0 ∷ (spell_place t ++ (spell_inst i ++ o.0.0 ∷ u.0.0 ∷ []))

unfoldable pub stands_before : Row → Row → Bool
stands_before a b =
    is_less ((event_of a.key).0.0 ∷ a.owner.0.0 ∷ spell a.key)
    ((event_of b.key).0.0 ∷ b.owner.0.0 ∷ spell b.key)
