-- Names of groups, of organisations and of instances, their order, and the test whether two are the same.
use Rattle.std.proofs.lemmas.Cmp.{then_total}
use Rattle.std.proofs.Common.{◌≡◌, refl, ◌∙◌, true, ap, sym, false, arith, is_eq, nat_cmp, is_lt, ◌==◌, eqb-true, Equal, Less}
use Rattle.misp_lists.proofs.Prelude.{IsTotalOrder, and_parts, is_eq-slice_cmp, nat_cmp_total, nat_tests, numbers_equal, on_total, ordering_reverse, slice_cmp}
use Rattle.misp_lists.proofs.Orders.{is_eq-then, numbers_less, is_lt-then}
use Rattle.misp_ids.specs.Same.{Inst, same_inst, group_before}
use Rattle.misp_ids.proofs.Same.{same_org-sound, same_org-refl}
use Rattle.misp_groups.specs.Prelude.{GroupId, OrgId, by_id, same_group, same_org}

pub by_id_total : IsTotalOrder by_id
by_id_total = then_total (on_total (λ (a : GroupId). a.creator.0.0) nat_cmp_total) (on_total (λ (a : GroupId). a.uuid.0) nat_cmp_total)

-- names are the same where their order tells no difference
pub same_by_number : (a b : OrgId) → is_eq (nat_cmp a.0.0 b.0.0) ≡ same_org a b
unfolding same_org
same_by_number a b = numbers_equal a.0.0 b.0.0

pub same_by_bytes : (a b : Inst) → is_eq (slice_cmp nat_cmp a b) ≡ same_inst a b
unfolding same_inst
same_by_bytes a b = is_eq-slice_cmp a b

pub same_by_id : (a b : GroupId) → is_eq (by_id a b) ≡ same_group a b
unfolding same_group same_org
same_by_id a b =
    is_eq-then (nat_cmp a.creator.0.0 b.creator.0.0) (nat_cmp a.uuid.0 b.uuid.0)
    ∙ rw (numbers_equal a.creator.0.0 b.creator.0.0, numbers_equal a.uuid.0 b.uuid.0) refl

pub same_group-sound : (a b : GroupId) → same_group a b ≡ true → a ≡ b
unfolding same_group
same_group-sound a b h =
    let both : (same_org a.creator b.creator ≡ true) × (a.uuid.0 == b.uuid.0 ≡ true) = and_parts _ _ h in
    let e : a.creator ≡ b.creator = same_org-sound a.creator b.creator both.0 in
    let f : a.uuid.0 ≡ b.uuid.0 = eqb-true a.uuid.0 b.uuid.0 both.1 in
    ap {B = GroupId} (λ o. record { creator = o; uuid = a.uuid }) e
    ∙ ap {B = GroupId} (λ n. record { creator = b.creator; uuid = record { 0 = n } }) f

pub equal_id : (a b : GroupId) → by_id a b ≡ Equal → a ≡ b
equal_id a b h = same_group-sound a b (sym (same_by_id a b) ∙ ap is_eq h)

-- a name that is less is another
pub less_apart : (a b : GroupId) → by_id a b ≡ Less → same_group a b ≡ false
less_apart a b h = sym (same_by_id a b) ∙ ap is_eq h

pub greater_apart : (a b : GroupId) → by_id b a ≡ Less → same_group a b ≡ false
greater_apart a b h = sym (same_by_id a b) ∙ ap is_eq (by_id_total.antisymm a b ∙ ap ordering_reverse h)

pub same_group-refl : (a : GroupId) → same_group a a ≡ true
unfolding same_group
same_group-refl a = rw (same_org-refl a.creator) (grind (arith, nat_tests))

-- a name stands before another where it is less
pub before_is : (a b : GroupId) → is_lt (by_id a b) ≡ group_before a b
unfolding group_before same_org
before_is a b =
    is_lt-then (nat_cmp a.creator.0.0 b.creator.0.0) (nat_cmp a.uuid.0 b.uuid.0)
    ∙ rw (numbers_less a.creator.0.0 b.creator.0.0, numbers_equal a.creator.0.0 b.creator.0.0, numbers_less a.uuid.0 b.uuid.0) refl

pub less_before : (a b : GroupId) → by_id a b ≡ Less → group_before a b ≡ true
less_before a b h = sym (before_is a b) ∙ ap is_lt h

pub greater_behind : (a b : GroupId) → by_id b a ≡ Less → group_before a b ≡ false
greater_behind a b h = sym (before_is a b) ∙ ap is_lt (by_id_total.antisymm a b ∙ ap ordering_reverse h)
