-- Of which form a statement is, by its key.
use Rattle.std.proofs.Common.{◌≡◌, Bool, true, false, refl, ap, ◌∙◌, eqb, ◌&&◌}
use Rattle.misp_model.proofs.Prelude.{Element, Key, OrgId, Proposal, Reference, Row, Sighting, Verdict, false≢true, is_statement, is_verdict_on, same_key, same_key-sound}
use Rattle.misp_model.specs.Shown.{is_proposal_on, is_sighting_on}
use Rattle.misp_copies.specs.Keys.{target_of, is_about}
use Rattle.misp_view.specs.Order.{class_of}
use Rattle.misp_view.specs.Statements.{is_proposal, is_sighting, is_verdict_of}

-- nothing is both
none : (b : Bool) → (b && false) ≡ false
none true = refl
none false = refl

-- two statements of one key
pub lesser_told : (a b : Row) → same_key b.key a.key ≡ true → is_statement a.key ≡ true → is_statement b.key ≡ true
lesser_told a b h k = ap is_statement (same_key-sound b.key a.key h) ∙ k

pub proposal_told : (k : Key) → is_proposal k ≡ true → is_statement k ≡ true
unfolding is_proposal is_statement
proposal_told (Proposal e n) h = refl
proposal_told (Element e p) h = absurd (false≢true h)
proposal_told (Reference e x t u) h = absurd (false≢true h)
proposal_told (Verdict e n i o) h = absurd (false≢true h)
proposal_told (Sighting e t i o u) h = absurd (false≢true h)

pub sighting_told : (k : Key) → is_sighting k ≡ true → is_statement k ≡ true
unfolding is_sighting is_statement
sighting_told (Sighting e t i o u) h = refl
sighting_told (Element e p) h = absurd (false≢true h)
sighting_told (Reference e x t u) h = absurd (false≢true h)
sighting_told (Verdict e n i o) h = absurd (false≢true h)
sighting_told (Proposal e n) h = absurd (false≢true h)

pub verdict_told : (k j : Key) (w : OrgId) (b : Bool) → (is_verdict_on k w j && (is_statement j && b)) ≡ (is_verdict_on k w j && b)
unfolding is_verdict_on is_statement
verdict_told k (Verdict e n i o) w b = refl
verdict_told k (Element e p) w b = refl
verdict_told k (Reference e x t u) w b = refl
verdict_told k (Proposal e n) w b = refl
verdict_told k (Sighting e t i o u) w b = refl

pub proposal_class : (k : Key) → is_proposal k ≡ true → eqb 1 (class_of k) ≡ true
unfolding is_proposal class_of
proposal_class (Proposal e n) h = refl
proposal_class (Element e p) h = absurd (false≢true h)
proposal_class (Reference e x t u) h = absurd (false≢true h)
proposal_class (Verdict e n i o) h = absurd (false≢true h)
proposal_class (Sighting e t i o u) h = absurd (false≢true h)

pub sighting_class : (k : Key) → is_sighting k ≡ true → eqb 3 (class_of k) ≡ true
unfolding is_sighting class_of
sighting_class (Sighting e t i o u) h = refl
sighting_class (Element e p) h = absurd (false≢true h)
sighting_class (Reference e x t u) h = absurd (false≢true h)
sighting_class (Verdict e n i o) h = absurd (false≢true h)
sighting_class (Proposal e n) h = absurd (false≢true h)

-- what is on a key is a proposal about it, what is of a key a sighting, and a verdict is about a
-- proposal
pub on_is : (k j : Key) → is_proposal_on k j ≡ (is_proposal j && is_about k j)
unfolding is_proposal is_about target_of is_proposal_on
on_is k (Proposal e n) = refl
on_is k (Sighting e t i o u) = refl
on_is k (Element e p) = refl
on_is k (Reference e x t u) = refl
on_is k (Verdict e n i o) = refl

pub of_is : (k j : Key) → is_sighting_on k j ≡ (is_sighting j && is_about k j)
unfolding is_sighting is_about target_of is_sighting_on
of_is k (Sighting e t i o u) = refl
of_is k (Proposal e n) = refl
of_is k (Element e p) = refl
of_is k (Reference e x t u) = refl
of_is k (Verdict e n i o) = refl

pub by_is : (k j : Key) (w : OrgId) → (is_about k j && is_verdict_of w j) ≡ is_verdict_on k w j
unfolding is_verdict_of is_about target_of is_verdict_on
by_is k (Verdict e n i o) w = refl
by_is k (Element e p) w = none (same_key (Element e p) k)
by_is k (Reference e x t u) w = none (same_key (Reference e x t u) k)
by_is k (Proposal e n) w = none (same_key (Element e n.target) k)
by_is k (Sighting e t i o u) w = none (same_key (Element e t) k)
