-- A set of pairs after one more.
use Rattle.std.proofs.Common.{◌≡◌, ℕ, Bool, true, false, refl, ap, ◌∙◌, eqb, arith, cond, ◌&&◌, ◌||◌, is_eq, BTreeSet}
use Rattle.std.specs.BTreeSet.{IsEmpty}
use Rattle.std.specs.BTreeMap.{is_at}
use Rattle.misp_model.proofs.Prelude.{EventId, OrgId, contains, list_any, nat_tests, same_event, same_org}
use Rattle.misp_copies.specs.Table.{pair_cmp, has_pair}

-- two pairs are equal where both parts are
pub pair_is : (a b c d : ℕ) → is_eq (pair_cmp (a, b) (c, d)) ≡ (eqb a c && eqb b d)
pair_is a b c d = grind (arith, nat_tests)

-- what a test gives, or else this
pub with_test : (t z v : Bool) → t ≡ v → cond t true z ≡ (z || v)
with_test true true v k = refl
with_test true false v k = k
with_test false true v k = refl
with_test false false v k = k

-- the set with a pair more
pub pair_more : (old new : BTreeSet (ℕ × ℕ)) (a b c d : ℕ) → contains pair_cmp new (c, d) ≡ cond (is_at (pair_cmp (a, b)) (c, d)) true (contains pair_cmp old (c, d)) →
    contains pair_cmp new (c, d) ≡ (contains pair_cmp old (c, d) || eqb a c && eqb b d)
pair_more old new a b c d h = h ∙ with_test (is_at (pair_cmp (a, b)) (c, d)) (contains pair_cmp old (c, d)) (eqb a c && eqb b d) (pair_is a b c d)

pub has_more : (old new : BTreeSet (ℕ × ℕ)) (f e : EventId) (o w : OrgId) →
    contains pair_cmp new (e.0.0, w.0.0) ≡ cond (is_at (pair_cmp (f.0.0, o.0.0)) (e.0.0, w.0.0)) true (contains pair_cmp old (e.0.0, w.0.0)) →
    has_pair new e w ≡ (has_pair old e w || same_event f e && same_org o w)
unfolding has_pair same_event same_org
has_more old new f e o w h = pair_more old new f.0.0 o.0.0 e.0.0 w.0.0 h

-- no pair is in the empty set
pub none_in : (pairs : BTreeSet (ℕ × ℕ)) (a b : ℕ) → IsEmpty pairs → contains pair_cmp pairs (a, b) ≡ false
none_in pairs a b h = ap (λ ks. list_any (is_at (pair_cmp (a, b))) ks) h

pub empty_has : (pairs : BTreeSet (ℕ × ℕ)) (e : EventId) (w : OrgId) → IsEmpty pairs → has_pair pairs e w ≡ false
unfolding has_pair
empty_has pairs e w h = none_in pairs e.0.0 w.0.0 h
