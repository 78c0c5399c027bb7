-- What comes of a party that is asked several times.
use Rattle.std.proofs.Common.{◌≡◌, ◌≤◌, ◌∙◌, ℕ, List, [], ◌∷◌, ◌++◌, Option, None, Some, Ok, Err, refl, sym, ap, subst, append_assoc, append-nil, arith}
use Rattle.misp_outside.specs.Causes.{HasCause}
use Rattle.misp_outside.proofs.Reporting.{reported_same, reported_then}
use Rattle.misp_dialogue.specs.Parties.{Conduct, Exchanged, GrowsBy, IsTrail, PartyState}
use Rattle.misp_dialogue.specs.Shares.{Exchange, Failure, Goes, Keeps, Share}

-- ---- one after another

grows_then : {A : Type 0} (old mid new : Option (List A)) (P Q S : List A → Type 0)
    → ((x y : List A) → P x → Q y → S (x ++ y))
    → GrowsBy old mid P → GrowsBy mid new Q → GrowsBy old new S
grows_then None mid new P Q S f p q = tt
grows_then (Some a) None new P Q S f p q = absurd p
grows_then (Some a) (Some b) None P Q S f p q = absurd q
grows_then (Some a) (Some b) (Some c) P Q S f p q =
    (p.0 ++ q.0, q.1 ∙ (ap (λ y. y ++ q.0) p.1 ∙ append_assoc a p.0 q.0), f p.0 q.0 p.2 q.2)

grows_none : {A : Type 0} (old new : Option (List A)) (P : List A → Type 0) → new ≡ old → P []
    → GrowsBy old new P
grows_none None new P is p = tt
grows_none (Some a) None P is p = absurd cc
grows_none (Some a) (Some b) P is p =
    let same : b ≡ a = cc in ([], same ∙ sym (append-nil a), p)

cause_then : (old mid new : ℕ) (P : Type 0) → old ≤ mid → HasCause mid new P → HasCause old new P
cause_then old mid new P le c =
    record { later = (let a = c.later in omega (arith, le, a)); rose = λ p. (let b = c.rose p in omega (arith, le, b)) }

-- ---- the shares of a party

module _ {H Q R C : Type 0} (k : Conduct H Q R C) where
  -- what was asked was replied to so
  abbrev pub Chain : List (Exchange Q R) → PartyState H → PartyState H → Type 0
  Chain [] old new = new ≡ old
  Chain (x ∷ xs) old new =
      (mid : PartyState H) × Exchanged k old x.request (Ok x.reply) mid × Chain xs mid new

  -- and then this was refused or stopped, or nothing more was asked
  abbrev pub Lasts : Option (Failure Q C) → PartyState H → PartyState H → Type 0
  Lasts None old new = new ≡ old
  Lasts (Some f) old new = Exchanged k old f.request (Err f.cause) new

  share_none : (s : PartyState H) → Share k [] None s s
  share_none s = record {
    fits = tt;
    askable = tt;
    held = reported_same s.held s.held (Keeps k [] None) refl (λ a. refl);
    trail = grows_none s.trail s.trail (Goes k [] None) refl refl;
    why = tt;
    cause = record { later = omega arith; rose = λ p. absurd p };
    stays = λ no. refl;
    peer = record { later = omega arith; rose = λ p. absurd p };
  }

  share_last : (last : Option (Failure Q C)) (old new : PartyState H) → Lasts last old new
      → Share k [] last old new
  share_last None old new is = subst (λ w. Share k [] None old w) (sym is) (share_none old)
  share_last (Some f) old new x =
      record { fits = tt; askable = x.askable; held = x.held; trail = x.trail; why = x.why f.cause refl; cause = x.cause; stays = x.stays; peer = x.peer }

  goes_on : (x : Exchange Q R) (xs : List (Exchange Q R)) (last : Option (Failure Q C))
      (a b : List (List ℕ)) → IsTrail k x.request (Ok x.reply) a → Goes k xs last b
      → Goes k (x ∷ xs) last (a ++ b)
  goes_on x xs last a b t g = (t.0, b, ap (λ y. y ++ b) t.1, t.2, g)

  share_then : (x : Exchange Q R) (xs : List (Exchange Q R)) (last : Option (Failure Q C))
      (old mid new : PartyState H) → Exchanged k old x.request (Ok x.reply) mid
      → Share k xs last mid new → Share k (x ∷ xs) last old new
  share_then x xs last old mid new e s = record {
    fits = ((e.askable, e.sound), s.fits);
    askable = s.askable;
    held = reported_then old.held mid.held new.held _ _ _ (λ a b c is more. (b, is.0, is.1, more)) e.held s.held;
    trail = grows_then old.trail mid.trail new.trail _ _ _ (goes_on x xs last) e.trail s.trail;
    why = s.why;
    cause = cause_then _ _ _ _ e.cause.later s.cause;
    stays = λ no. s.stays no ∙ e.stays (λ p. p);
    peer = cause_then _ _ _ _ e.peer.later s.peer;
  }

  pub shared : (xs : List (Exchange Q R)) (last : Option (Failure Q C)) (old mid new : PartyState H)
      → Chain xs old mid → Lasts last mid new → Share k xs last old new
  shared [] last old mid new is l = share_last last old new (subst (λ w. Lasts last w new) is l)
  shared (x ∷ xs) last old mid new is l =
      share_then x xs last old is.0 new is.1 (shared xs last is.0 mid new is.2 l)
