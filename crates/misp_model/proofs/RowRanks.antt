-- The order of event rows: which of two goes before the other.
use Rattle.std.proofs.Common.{◌≡◌, ℕ, Bool, true, false, cond, arith, ◌&&◌, ◌||◌, not, ltb, eqb}
use Rattle.std.proofs.lemmas.Bool.Decides.{nat_tests}
use Rattle.misp_elem.specs.declared.row.RowFields.{RowFields as Row}
use Rattle.misp_model.specs.View.{is_before}

-- ---- by stamps, and by whether they were carried, and by owners

ranks_on : (s t u : ℕ) (a b c : Bool) (x y z : ℕ) →
    (ltb t s || eqb t s && (b && not a || cond b a (not a) && ltb x y)) ≡ true → (ltb u t || eqb u t && (c && not b || cond c b (not b) && ltb y z)) ≡ true →
    (ltb u s || eqb u s && (c && not a || cond c a (not a) && ltb x z)) ≡ true
ranks_on s t u true true true x y z h k = grind (arith, nat_tests)
ranks_on s t u true true false x y z h k = grind (arith, nat_tests)
ranks_on s t u true false true x y z h k = grind (arith, nat_tests)
ranks_on s t u true false false x y z h k = grind (arith, nat_tests)
ranks_on s t u false true true x y z h k = grind (arith, nat_tests)
ranks_on s t u false true false x y z h k = grind (arith, nat_tests)
ranks_on s t u false false true x y z h k = grind (arith, nat_tests)
ranks_on s t u false false false x y z h k = grind (arith, nat_tests)

ranks_past : (s t u : ℕ) (a b c : Bool) (x y z : ℕ) →
    (ltb u s || eqb u s && (c && not a || cond c a (not a) && ltb x z)) ≡ true → (ltb u t || eqb u t && (c && not b || cond c b (not b) && ltb y z)) ≡ false →
    (ltb t s || eqb t s && (b && not a || cond b a (not a) && ltb x y)) ≡ true
ranks_past s t u true true true x y z h k = grind (arith, nat_tests)
ranks_past s t u true true false x y z h k = grind (arith, nat_tests)
ranks_past s t u true false true x y z h k = grind (arith, nat_tests)
ranks_past s t u true false false x y z h k = grind (arith, nat_tests)
ranks_past s t u false true true x y z h k = grind (arith, nat_tests)
ranks_past s t u false true false x y z h k = grind (arith, nat_tests)
ranks_past s t u false false true x y z h k = grind (arith, nat_tests)
ranks_past s t u false false false x y z h k = grind (arith, nat_tests)

ranks_not : (s : ℕ) (a : Bool) (x : ℕ) → (ltb s s || eqb s s && (a && not a || cond a a (not a) && ltb x x)) ≡ false
ranks_not s true x = grind (arith, nat_tests)
ranks_not s false x = grind (arith, nat_tests)

pub before_on : (a b c : Row) → is_before a b ≡ true → is_before b c ≡ true → is_before a c ≡ true
unfolding is_before
before_on a b c h k = ranks_on a.stamp b.stamp c.stamp a.carried b.carried c.carried a.owner.0.0 b.owner.0.0 c.owner.0.0 h k

pub before_past : (a b c : Row) → is_before a c ≡ true → is_before b c ≡ false → is_before a b ≡ true
unfolding is_before
before_past a b c h k = ranks_past a.stamp b.stamp c.stamp a.carried b.carried c.carried a.owner.0.0 b.owner.0.0 c.owner.0.0 h k

pub before_not : (a : Row) → is_before a a ≡ false
unfolding is_before
before_not a = ranks_not a.stamp a.carried a.owner.0.0
