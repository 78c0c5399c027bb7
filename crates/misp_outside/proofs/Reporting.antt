-- What is reported of what is held, one call after another.
use Rattle.std.proofs.Common.{◌≡◌, Option, None, Some, IfSome, refl, sym, subst, ◌∙◌}
use Rattle.misp_outside.specs.Reporting.{StaysHeld, WhereReported}

module _ {A : Type 0} where
  -- ---- one call after another

  -- what holds of one call and what holds of the next
  pub reported_then : (old mid new : Option A) (P Q S : A → A → Type 0) → ((a b c : A) → P a b → Q b c → S a c)
      → WhereReported old mid P → WhereReported mid new Q → WhereReported old new S
  reported_then None None None P Q S f p q = tt
  reported_then None None (Some c) P Q S f p q = absurd q
  reported_then None (Some b) new P Q S f p q = absurd p
  reported_then (Some a) None None P Q S f p q = tt
  reported_then (Some a) None (Some c) P Q S f p q = absurd q
  reported_then (Some a) (Some b) None P Q S f p q = tt
  reported_then (Some a) (Some b) (Some c) P Q S f p q = f a b c p q

  -- what holds from the same to the same holds where the report is the same
  pub reported_same : (old new : Option A) (P : A → A → Type 0) → new ≡ old → ((a : A) → P a a) → WhereReported old new P
  reported_same None None P is f = tt
  reported_same None (Some b) P is f = absurd cc
  reported_same (Some a) None P is f = tt
  reported_same (Some a) (Some b) P is f = let same : a ≡ b = cc in subst (P a) same (f a)

  -- what follows, where both are reported
  pub reported_so : (old new : Option A) (P Q : A → A → Type 0) → ((a b : A) → P a b → Q a b) → WhereReported old new P → WhereReported old new Q
  reported_so None None P Q f p = tt
  reported_so None (Some b) P Q f p = absurd p
  reported_so (Some a) None P Q f p = tt
  reported_so (Some a) (Some b) P Q f p = f a b p

  -- two facts, where both are reported
  pub reported_both : (old new : Option A) (P Q : A → A → Type 0) → WhereReported old new P → WhereReported old new Q → WhereReported old new (λ a b. P a b × Q a b)
  reported_both None None P Q p q = tt
  reported_both None (Some b) P Q p q = absurd p
  reported_both (Some a) None P Q p q = tt
  reported_both (Some a) (Some b) P Q p q = (p, q)

  -- it holds of what is reported before and after
  pub reported_at : (old new : Option A) (P : A → A → Type 0) (a b : A) → old ≡ Some a → new ≡ Some b → WhereReported old new P → P a b
  reported_at None new P a b is now p = absurd cc
  reported_at (Some x) None P a b is now p = absurd cc
  reported_at (Some x) (Some y) P a b is now p = let one : x ≡ a = cc in let two : y ≡ b = cc in subst (λ z. P z b) one (subst (P x) two p)

  -- it is so, where what is reported afterwards was reported before, and then it holds
  pub reported_if : (old new : Option A) (P : A → A → Type 0) → ((b : A) → new ≡ Some b → (a : A) × (old ≡ Some a) × P a b) → WhereReported old new P
  reported_if None None P f = tt
  reported_if None (Some b) P f = let is = (f b refl).1 in absurd cc
  reported_if (Some a) None P f = tt
  reported_if (Some a) (Some b) P f =
      let it = f b refl in
      let same : it.0 ≡ a = cc in
      subst (λ z. P z b) same it.2

  -- ---- who is silent

  -- who reported nothing reports nothing
  pub silent_still : (old new : Option A) (P : A → A → Type 0) → WhereReported old new P → old ≡ None → new ≡ None
  silent_still None None P p is = refl
  silent_still None (Some b) P p is = absurd p
  silent_still (Some a) new P p is = absurd cc

  -- what is reported afterwards was reported before, and then it holds
  pub reported_before : (old new : Option A) (P : A → A → Type 0) (b : A) → WhereReported old new P → new ≡ Some b → (a : A) × (old ≡ Some a) × P a b
  reported_before None None P b p now = absurd cc
  reported_before None (Some y) P b p now = absurd p
  reported_before (Some a) None P b p now = absurd cc
  reported_before (Some a) (Some y) P b p now = let same : y ≡ b = cc in (a, refl, subst (P a) same p)

  -- ---- what stays

  pub stays_same : (old new : Option A) → new ≡ old → StaysHeld old new
  stays_same old new is = reported_same old new (λ a b. b ≡ a) is (λ a. refl)

  pub stays_then : (old mid new : Option A) → StaysHeld old mid → StaysHeld mid new → StaysHeld old new
  stays_then old mid new p q = reported_then old mid new (λ a b. b ≡ a) (λ a b. b ≡ a) (λ a b. b ≡ a) (λ a b c first next. next ∙ first) p q

  -- it stays, and then this holds
  pub reported_later : (old mid new : Option A) (P : A → A → Type 0) → StaysHeld old mid → WhereReported mid new P → WhereReported old new P
  reported_later old mid new P p q = reported_then old mid new (λ a b. b ≡ a) P P (λ a b c same holds. subst (λ z. P z c) same holds) p q

  -- this holds, and then it stays
  pub reported_still : (old mid new : Option A) (P : A → A → Type 0) → WhereReported old mid P → StaysHeld mid new → WhereReported old new P
  reported_still old mid new P p q = reported_then old mid new P (λ a b. b ≡ a) P (λ a b c holds same. subst (P a) (sym same) holds) p q

  -- ---- what is known of what is reported

  -- what was known of it is known still
  pub known_still : (old new : Option A) (P : A → Type 0) → StaysHeld old new → IfSome old P → IfSome new P
  known_still None None P same p = tt
  known_still None (Some b) P same p = absurd same
  known_still (Some a) None P same p = tt
  known_still (Some a) (Some b) P same p = subst P (sym same) p

  -- what is known now of what stayed
  pub known_of : (old new : Option A) (P : A → Type 0) → StaysHeld old new → IfSome new P → WhereReported old new (λ a b. P a)
  known_of None None P same p = tt
  known_of None (Some b) P same p = absurd same
  known_of (Some a) None P same p = tt
  known_of (Some a) (Some b) P same p = subst P same p

  -- what was known before, where both are reported
  pub known_with : (old new : Option A) (P : A → A → Type 0) (Q : A → Type 0) → WhereReported old new P → IfSome old Q → WhereReported old new (λ a b. P a b × Q a)
  known_with None None P Q p q = tt
  known_with None (Some b) P Q p q = absurd p
  known_with (Some a) None P Q p q = tt
  known_with (Some a) (Some b) P Q p q = (p, q)

  -- what is known afterwards, by what was known before
  pub known_then : (old new : Option A) (P : A → A → Type 0) (Q S : A → Type 0) → ((a b : A) → P a b → Q a → S b) → WhereReported old new P → IfSome old Q → IfSome new S
  known_then None None P Q S f p q = tt
  known_then None (Some b) P Q S f p q = absurd p
  known_then (Some a) None P Q S f p q = tt
  known_then (Some a) (Some b) P Q S f p q = f a b p q

  -- what follows from what is known
  pub known_so : (held : Option A) (P Q : A → Type 0) → ((a : A) → P a → Q a) → IfSome held P → IfSome held Q
  known_so None P Q f p = tt
  known_so (Some a) P Q f p = f a p

  -- two facts that are known
  pub known_both : (held : Option A) (P Q : A → Type 0) → IfSome held P → IfSome held Q → IfSome held (λ a. P a × Q a)
  known_both None P Q p q = tt
  known_both (Some a) P Q p q = (p, q)
