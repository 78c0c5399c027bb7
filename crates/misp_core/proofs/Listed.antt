-- Things of events, in the order of the numbers of their events.
use Rattle.std.proofs.Common.{◌≡◌, ℕ, zero, suc, ◌+◌, ◌<◌, ◌≤◌, List, [], ◌∷◌, ◌++◌, Option, Some, None, IfSome, Less, append-nil, ap, ◌∙◌, arith, get_or, length, nat_cmp, nat_lt, option_to_list, refl, subst, sym, true}
use Rattle.misp_ids.specs.Uid.{IsUid}
use Rattle.misp_lists.specs.Prelude.{Ordering}
use Rattle.misp_lists.proofs.All.{all_at, all_implied, all_last}
use Rattle.misp_manifest.specs.Manifest.{IsManifestEvent}
use Rattle.misp_manifest.specs.declared.manifest.ManifestFields.{ManifestFields}
use Rattle.misp_model.proofs.Prelude.{EventId, nat_tests}
use Rattle.misp_store.specs.Prelude.{AllByRecursion}
use Rattle.misp_wanted.specs.ManifestReading.{stands_after}
use Rattle.misp_wanted.specs.Manifests.{AreEventsAfter}
use Rattle.misp_core.specs.Prelude.{IsStrictlySortedBy}
use Rattle.misp_core.specs.Pulling.{IsCountOf, IsSaidOf, event_at}
use Rattle.misp_core.specs.Sound.{IsListed}
use Rattle.misp_core.specs.declared.reply.EventParts.{EventParts}

-- in a list that ascends
less_at : (ns : List ℕ) → IsStrictlySortedBy nat_cmp ns → (i j : ℕ) → i < j → j < length ns → nat_cmp (get_or ns i 0) (get_or ns j 0) ≡ Less
unfolding IsStrictlySortedBy
less_at [] up i j lt below = absurd (omega (arith, below))
less_at (n ∷ ns) up i zero lt below = absurd (omega (arith, lt))
less_at (n ∷ ns) up zero (suc j) lt below = all_at (λ m. nat_cmp n m ≡ Less) ns j 0 (omega (arith, below)) up.0
less_at (n ∷ ns) up (suc i) (suc j) lt below = less_at ns up.1 i j (omega (arith, lt)) (omega (arith, below))

-- by the number of each
abbrev pub by_number : {X : Type 0} → (X → ℕ) → X → X → Ordering
by_number number a b = nat_cmp (number a) (number b)

-- it has a lesser number than all that come from this place on
abbrev pub IsBefore : {X : Type 0} → (X → ℕ) → List ℕ → ℕ → X → Type 0
IsBefore number ns i x = (j : ℕ) → i ≤ j → j < length ns → nat_cmp (number x) (get_or ns j 0) ≡ Less

-- they ascend, and have lesser numbers than all that come from this place on
pub record AscendTo {X : Type 0} (number : X → ℕ) (ns : List ℕ) (i : ℕ) (xs : List X) : Type 0 where
  pub ascend : IsStrictlySortedBy (by_number number) xs
  pub before : AllByRecursion (IsBefore number ns i) xs

module _ {X : Type 0} (number : X → ℕ) where
  -- one more that is greater than all
  ascend_last : (xs : List X) (y : X) → IsStrictlySortedBy (by_number number) xs → AllByRecursion (λ x. by_number number x y ≡ Less) xs → IsStrictlySortedBy (by_number number) (xs ++ y ∷ [])
  unfolding IsStrictlySortedBy
  ascend_last [] y up all = (tt, tt)
  ascend_last (x ∷ xs) y up all = (all_last (λ z. by_number number x z ≡ Less) xs y up.0 all.0, ascend_last xs y up.1 all.1)

  pub none_yet : (ns : List ℕ) (xs : List X) → xs ≡ [] → AscendTo number ns 0 xs
  unfolding IsStrictlySortedBy
  none_yet ns xs is = subst (AscendTo number ns 0) (sym is) (record { ascend = tt; before = tt })

  -- ---- one number more

  module _ (ns : List ℕ) (i : ℕ) (below : i < length ns) (up : IsStrictlySortedBy nat_cmp ns) where
    next_before : (xs : List X) → AllByRecursion (IsBefore number ns i) xs → AllByRecursion (IsBefore number ns (i + 1)) xs
    next_before xs all = all_implied (IsBefore number ns i) (IsBefore number ns (i + 1)) (λ x h j from to. h j (omega (arith, from)) to) xs all

    one_to : (found : Option X) → IfSome found (λ x. number x ≡ get_or ns i 0) → (xs : List X) → AscendTo number ns i xs → AscendTo number ns (i + 1) (xs ++ option_to_list found)
    one_to None at xs so = subst (AscendTo number ns (i + 1)) (sym (append-nil xs)) (record { ascend = so.ascend; before = next_before xs so.before })
    one_to (Some y) at xs so = record {
      ascend = ascend_last xs y so.ascend (all_implied (IsBefore number ns i) (λ x. by_number number x y ≡ Less) (λ x h. subst (λ n. nat_cmp (number x) n ≡ Less) (sym at) (h i (omega arith) below)) xs so.before);
      before = all_last (IsBefore number ns (i + 1)) xs y (next_before xs so.before) (λ j from to. subst (λ n. nat_cmp n (get_or ns j 0) ≡ Less) (sym at) (less_at ns up i j (omega (arith, from)) to));
    }

  pub next_to : (ns : List ℕ) (i : ℕ) → i < length ns → (found : Option X) → IfSome found (λ x. number x ≡ get_or ns i 0)
      → (xs : List X) → (IsStrictlySortedBy nat_cmp ns → AscendTo number ns i xs) → IsStrictlySortedBy nat_cmp ns → AscendTo number ns (i + 1) (xs ++ option_to_list found)
  next_to ns i below found at xs so up = one_to ns i below up found at xs (so up)

-- ---- events with the number of their packages

abbrev pub number_listed : EventParts → ℕ
number_listed p = p.event.0.0

pub listed_number : (e : EventId) (n : ℕ) → e ≡ event_at n → (found : Option EventParts) → IfSome found (IsCountOf e) → IfSome found (λ p. number_listed p ≡ n)
listed_number e n at None count = tt
listed_number e n at (Some p) count = ap (λ (id : EventId). id.0.0) (count.event ∙ at)

-- each is listed
pub next_listed : (e : EventId) → IsUid e.0 → (found : Option EventParts) → IfSome found (IsCountOf e) → (es : List EventParts) → AllByRecursion IsListed es → AllByRecursion IsListed (es ++ option_to_list found)
next_listed e fits None count es all = subst (AllByRecursion IsListed) (sym (append-nil es)) all
next_listed e fits (Some p) count es all =
    all_last IsListed es p all (record { event = subst (λ (id : EventId). IsUid id.0) (sym count.event) fits; parts = count.parts })

-- ---- what a manifest says of events

abbrev pub number_said : ManifestFields → ℕ
number_said m = m.event.0.0

pub said_number : (e : EventId) (n : ℕ) → e ≡ event_at n → (said : Option ManifestFields) → IfSome said (IsSaidOf e) → IfSome said (λ m. number_said m ≡ n)
said_number e n at None is = tt
said_number e n at (Some m) is = ap (λ (id : EventId). id.0.0) (is.event ∙ at)

-- each is of its form
pub next_said : (e : EventId) (said : Option ManifestFields) → IfSome said (IsSaidOf e) → (ms : List ManifestFields) → AllByRecursion IsManifestEvent ms → AllByRecursion IsManifestEvent (ms ++ option_to_list said)
next_said e None is ms all = subst (AllByRecursion IsManifestEvent) (sym (append-nil ms)) all
next_said e (Some m) is ms all = all_last IsManifestEvent ms m all is.fits

less_lt : (a b : ℕ) → nat_cmp a b ≡ Less → nat_lt a b ≡ true
less_lt a b h = grind (arith, nat_tests)

-- those that ascend stand one after another
pub said_in_order : (ms : List ManifestFields) → AllByRecursion IsManifestEvent ms → IsStrictlySortedBy (by_number number_said) ms → AreEventsAfter None ms
unfolding IsStrictlySortedBy
said_in_order ms all up = from None ms (free ms) all up
  where
    After : Option EventId → List ManifestFields → Type 0
    After before [] = Unit {0}
    After before (m ∷ ms) = stands_after before m.event ≡ true

    free : (ms : List ManifestFields) → After None ms
    free [] = tt
    free (m ∷ ms) = refl

    later : (m : ManifestFields) (ms : List ManifestFields) → AllByRecursion (λ x. by_number number_said m x ≡ Less) ms → After (Some m.event) ms
    later m [] all = tt
    later m (x ∷ ms) all = less_lt (number_said m) (number_said x) all.0

    from : (before : Option EventId) (ms : List ManifestFields) → After before ms → AllByRecursion IsManifestEvent ms → IsStrictlySortedBy (by_number number_said) ms → AreEventsAfter before ms
    from before [] after all up = tt
    from before (m ∷ ms) after all up = ((all.0, after), from (Some m.event) ms (later m ms up.0) all.1 up.1)
