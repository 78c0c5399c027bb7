-- Keys in a set.
use Rattle.std.proofs.Common.{◌≡◌, Bool, true, false, cond, refl, ap, sym, ◌∙◌, ◌||◌, List, filter, BTreeSet, is_eq}
use Rattle.std.specs.BTreeSet.{IsEmpty}
use Rattle.misp_elem.specs.contracts.key.KeyOrd.TheImpl as key_order
use Rattle.misp_package.proofs.SameKeys.{key_is}
use Rattle.misp_model.proofs.Prelude.{EventId, Key, Row, alike, event_key, list_any, same_key, same_key-refl, same_key-sound}
use Rattle.misp_model.specs.Manifests.{is_asked_for}
use Rattle.misp_wanted.specs.Wanting.{has_key, is_kept_by}

-- what the order of keys finds
pub found_by_order : (set : BTreeSet Key) (k : Key) → list_any (λ j. is_eq (key_order.cmp-value.it k j)) set.keys ≡ has_key set k
unfolding has_key
found_by_order set k = λ i. list_any (λ j. key_is k j i) set.keys

turned : (a b : Key) → same_key a b ≡ true → same_key b a ≡ true
turned a b h = ap (λ k. same_key b k) (same_key-sound a b h) ∙ same_key-refl b

one_way : (a b : Key) → same_key a b ≡ same_key b a
one_way a b = alike _ _ (turned a b) (turned b a)

either : (b o : Bool) → cond b true o ≡ (o || b)
either true true = refl
either true false = refl
either false true = refl
either false false = refl

-- the set with a key more
pub has_more : (old new : BTreeSet Key) (key : Key) →
    ((j : Key) → list_any (λ m. is_eq (key_order.cmp-value.it j m)) new.keys ≡ cond (is_eq (key_order.cmp-value.it key j)) true (list_any (λ m. is_eq (key_order.cmp-value.it j m)) old.keys))
    → (k : Key) → has_key new k ≡ (has_key old k || same_key k key)
has_more old new key put k =
    sym (found_by_order new k) ∙ put k ∙ (λ i. cond (key_is key k i) true (found_by_order old k i)) ∙ either (same_key key k) (has_key old k)
    ∙ ap (λ b. has_key old k || b) (one_way key k)

-- no key is in the empty set
pub none_has : (set : BTreeSet Key) (k : Key) → IsEmpty set → has_key set k ≡ false
unfolding has_key
none_has set k h = ap (list_any (same_key k)) h

-- the rows that are kept by a set of keys
pub kept_are : (set : BTreeSet Key) (keys : List Key) (e : EventId) (rows : List Row) → ((k : Key) → has_key set k ≡ list_any (same_key k) keys)
    → filter (is_kept_by set e) rows ≡ filter (is_asked_for e keys) rows
unfolding is_kept_by is_asked_for
kept_are set keys e rows h = λ i. filter (λ row. same_key row.key (event_key e) || h row.key i) rows
