-- A map into which a list of names was put from its end has the list's first name of each group.
use Rattle.std.proofs.Common.{◌≡◌, ℕ, suc, ◌-◌, ◌<◌, ◌≤◌, ◌&&◌, List, [], ◌∷◌, length, drop, get_or, cond, Some, refl, sym, ap, ◌∙◌, arith, ◌==◌, unwrap_or, Ordering, is_eq, nat_cmp}
use Rattle.std.proofs.Math.Seq.{drop-cons}
use Rattle.misp_lists.proofs.Prelude.{lookup, nat_tests, ordering_then}
use Rattle.misp_ids.specs.declared.uid.GroupId.{GroupId}
use Rattle.misp_format.specs.Fields.{is_same_group, group_names}
use Rattle.misp_ids.specs.contracts.uid.GroupIdOrd.TheImpl as group_order

abbrev pub Listed : Type 0
Listed = List (GroupId × List ℕ)

equal_turned : (a b : ℕ) → (a == b) ≡ (b == a)
equal_turned a b = grind (arith, nat_tests)

same_turned : (a b : GroupId) → is_same_group a b ≡ is_same_group b a
same_turned a b = rw (equal_turned a.creator.0.0 b.creator.0.0, equal_turned a.uuid.0 b.uuid.0) refl

both_equal : (a b c d : ℕ) → is_eq (ordering_then (nat_cmp a b) (nat_cmp c d)) ≡ ((a == b) && (c == d))
both_equal a b c d = grind (arith, nat_tests)

-- the order of groups tells the same ones
pub same_by_order : (a b : GroupId) → is_eq (group_order.cmp-value.it a b) ≡ is_same_group a b
same_by_order a b = both_equal a.creator.0.0 b.creator.0.0 a.uuid.0 b.uuid.0

-- one more name
pub one_more : (cmp : GroupId → GroupId → Ordering) → ((a b : GroupId) → is_eq (cmp a b) ≡ is_same_group a b)
    → (before after listed : Listed) (i : ℕ) (e : GroupId × List ℕ) → 0 < i → i ≤ length listed → e ≡ get_or listed (i - 1) e
    → ((q : GroupId) → lookup (λ k. is_eq (cmp q k)) after ≡ cond (is_eq (cmp e.0 q)) (Some e.1) (lookup (λ k. is_eq (cmp q k)) before))
    → ((group : GroupId) → lookup (is_same_group group) before ≡ lookup (is_same_group group) (drop i listed))
    → (group : GroupId) → lookup (is_same_group group) after ≡ lookup (is_same_group group) (drop (i - 1) listed)
one_more cmp same before after listed i e some inside here put_in behind group =
    let test : (λ k. is_eq (cmp group k)) ≡ is_same_group group = λ j k. same group k j in
    let head : is_eq (cmp e.0 group) ≡ is_same_group group e.0 = same e.0 group ∙ same_turned e.0 group in
    let next : suc (i - 1) ≡ i = omega arith in
    let split : drop (i - 1) listed ≡ e ∷ drop i listed = drop-cons listed (i - 1) e (omega arith) ∙ ap (λ x. x ∷ drop (suc (i - 1)) listed) (sym here) ∙ ap (λ n. e ∷ drop n listed) next in
    ap (λ t. lookup t after) (sym test)
    ∙ put_in group
    ∙ ap (λ b. cond b (Some e.1) (lookup (λ k. is_eq (cmp group k)) before)) head
    ∙ ap (λ t. cond (is_same_group group e.0) (Some e.1) (lookup t before)) test
    ∙ ap (λ o. cond (is_same_group group e.0) (Some e.1) o) (behind group)
    ∙ ap (λ es. lookup (is_same_group group) es) (sym split)

-- all names
pub all_names : (entries listed : Listed) (i : ℕ) → i ≤ 0
    → ((group : GroupId) → lookup (is_same_group group) entries ≡ lookup (is_same_group group) (drop i listed))
    → (λ (group : GroupId). unwrap_or (lookup (is_same_group group) entries) []) ≡ group_names listed
unfolding group_names
all_names entries listed i none behind =
    let start : i ≡ 0 = omega arith in
    λ j group. unwrap_or ((behind group ∙ ap (λ n. lookup (is_same_group group) (drop n listed)) start) j) []
