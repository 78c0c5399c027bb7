-- Sets of names.
use Rattle.std.proofs.Common.{◌≡◌, ℕ, ◌+◌, ◌<◌, List, [], Bool, true, false, Option, Some, None, refl, ap, sym, ◌∙◌, cond, ◌||◌, get_or, length, take, bytes_eq, nat_cmp, is_eq, BTreeSet}
use Rattle.std.specs.BTreeSet.{IsEmpty}
use Rattle.std.specs.Cmp.Lexicographic.{slice_cmp}
use Rattle.std.specs.List.{list_any}
use Rattle.std.specs.BTreeMap.{is_at}
use denote.Ref.{Bor}
use Rattle.misp_lists.proofs.Prelude.{is_eq-slice_cmp, list_any_more}
use Rattle.misp_elem.specs.declared.content.Tag.{Tag}
use Rattle.misp_search.specs.Fitting.{is_among, wants_tags}
use Rattle.misp_search.specs.Names.{AreNames, AreWanted, has_name}

or_cond : (b x : Bool) → cond b true x ≡ (x || b)
or_cond true true = refl
or_cond true false = refl
or_cond false true = refl
or_cond false false = refl

-- a name as a key
abbrev pub key_of : List ℕ → Bor (List ℕ)
key_of name = record { ref_ptr = (0, 0); now = name }

pub none : (set : BTreeSet (Bor (List ℕ))) → IsEmpty set → AreNames set []
unfolding is_among
none set empty name = ap (λ ks. list_any (is_at (λ k. slice_cmp nat_cmp name k.now)) ks) empty

-- with one more
pub one_more : (old new : BTreeSet (Bor (List ℕ))) (names : List (List ℕ)) (i : ℕ) (key other : List ℕ) → i < length names → key ≡ other → other ≡ get_or names i other
    → ((name : List ℕ) → has_name new name ≡ cond (is_eq (slice_cmp nat_cmp key name)) true (has_name old name))
    → AreNames old (take i names) → AreNames new (take (i + 1) names)
unfolding is_among
one_more old new names i key other below is at update so name =
    update name
    ∙ or_cond (is_eq (slice_cmp nat_cmp key name)) (has_name old name)
    ∙ (λ j. so name j || (is_eq-slice_cmp key name ∙ ap (λ k. bytes_eq k name) (is ∙ at)) j)
    ∙ sym (list_any_more (λ wanted. bytes_eq wanted name) names i other below)

-- tests by the set are those by the names
pub by_set : (set : BTreeSet (Bor (List ℕ))) (tags : List Tag) (wanted : Option (List (List ℕ))) → AreWanted (Some set) wanted → list_any (λ (t : Tag). has_name set t.name) tags ≡ wants_tags wanted tags
unfolding wants_tags
by_set set tags (Some names) are = λ i. list_any (λ (t : Tag). are t.name i) tags
by_set set tags None are = absurd are

pub by_none : (tags : List Tag) (wanted : Option (List (List ℕ))) → AreWanted None wanted → true ≡ wants_tags wanted tags
unfolding wants_tags
by_none tags None are = refl
by_none tags (Some names) are = absurd are
