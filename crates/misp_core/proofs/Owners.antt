-- Keys of organisations, one key after another, and who asks with one of them.
use Rattle.std.proofs.Common.{◌≡◌, ◌+◌, ◌<◌, ◌≤◌, ℕ, Bool, true, false, List, Option, None, Some, get_or, length, sym, subst, take, take_all, bytes_eq, find, refl}
use Rattle.std.proofs.lemmas.List.{take_more}
use Rattle.std.specs.List.{AllByRecursion}
use Rattle.std.specs.Option.{option_map_or}
use Rattle.misp_ids.specs.Uid.{IsUid}
use Rattle.misp_lists.proofs.All.{all_found, all_last}
use Rattle.misp_orgs.specs.Admin.{AdminFields, who_of}
use Rattle.misp_orgs.specs.Keys.{CallerFields, KeyFields, caller_where}
use Rattle.misp_core.specs.Callers.{IsOwned}

pub keys_more : (keys : List KeyFields) (i : ℕ) (k : KeyFields) → i < length keys → k ≡ get_or keys i k → AllByRecursion IsOwned (take i keys) → IsOwned k
    → AllByRecursion IsOwned (take (i + 1) keys)
keys_more keys i k lt e h is =
    subst (AllByRecursion IsOwned) (sym (take_more keys i k lt))
    (all_last IsOwned (take i keys) (get_or keys i k) h (subst IsOwned e is))

pub keys_all : (keys : List KeyFields) (i : ℕ) → length keys ≤ i → AllByRecursion IsOwned (take i keys) → AllByRecursion IsOwned keys
keys_all keys i le h = subst (AllByRecursion IsOwned) (take_all i keys le) h

-- who asks with a key of these is of its organisation
same_caller : (k : KeyFields) (revoked : Bool) (caller : CallerFields) → IsOwned k → caller_where k revoked ≡ Some caller → IsUid caller.org.0
same_caller k true caller is h = absurd cc
same_caller k false caller is h = let e : k.org ≡ caller.org = cc in subst (λ o. IsUid o.0) e is

found : (r : Option KeyFields) (caller : CallerFields) → ((k : KeyFields) → r ≡ Some k → IsOwned k) → option_map_or (λ k. caller_where k k.revoked) r None ≡ Some caller → IsUid caller.org.0
found None caller owned h = absurd cc
found (Some k) caller owned h = same_caller k k.revoked caller (owned k refl) h

pub owner_of : (admin : AdminFields) → AllByRecursion IsOwned admin.keys → (key : List ℕ) (caller : CallerFields) → who_of admin key ≡ Some caller → IsUid caller.org.0
owner_of admin owned key caller h =
    found (find (λ k. bytes_eq k.key key) admin.keys) caller (λ k is. all_found IsOwned (λ k. bytes_eq k.key key) admin.keys k owned is) h
