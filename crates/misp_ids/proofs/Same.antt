-- Names that are the same are equal, and each is the same as itself.
use Rattle.std.proofs.Common.{◌≡◌, true, refl, ap, eq-eqb, eqb-true}
use Rattle.std.proofs.lemmas.Slice.Eq.{bytes_eq-Decides}
use Rattle.misp_ids.specs.Same.{Inst, same_inst, same_org, same_event, same_elem}
use Rattle.misp_ids.specs.declared.uid.OrgId.{OrgId}
use Rattle.misp_ids.specs.declared.uid.EventId.{EventId}
use Rattle.misp_ids.specs.declared.uid.ElemId.{ElemId}

pub same_org-sound : (a b : OrgId) → same_org a b ≡ true → a ≡ b
unfolding same_org
same_org-sound a b h = ap {B = OrgId} (λ n. record { 0 = record { 0 = n } }) (eqb-true a.0.0 b.0.0 h)

pub same_event-sound : (a b : EventId) → same_event a b ≡ true → a ≡ b
unfolding same_event
same_event-sound a b h = ap {B = EventId} (λ n. record { 0 = record { 0 = n } }) (eqb-true a.0.0 b.0.0 h)

pub same_elem-sound : (a b : ElemId) → same_elem a b ≡ true → a ≡ b
unfolding same_elem
same_elem-sound a b h = ap {B = ElemId} (λ n. record { 0 = record { 0 = n } }) (eqb-true a.0.0 b.0.0 h)

pub same_inst-sound : (a b : Inst) → same_inst a b ≡ true → a ≡ b
unfolding same_inst
same_inst-sound a b h = (bytes_eq-Decides a b).0 h

-- each name is the same as itself
pub same_inst-refl : (a : Inst) → same_inst a a ≡ true
unfolding same_inst
same_inst-refl a = (bytes_eq-Decides a a).1 refl

pub same_org-refl : (a : OrgId) → same_org a a ≡ true
unfolding same_org
same_org-refl a = eq-eqb _ _ refl

pub same_event-refl : (a : EventId) → same_event a a ≡ true
unfolding same_event
same_event-refl a = eq-eqb _ _ refl

pub same_elem-refl : (a : ElemId) → same_elem a a ≡ true
unfolding same_elem
same_elem-refl a = eq-eqb _ _ refl
