-- The keys of a part that are wanted are those of a wanted list.
use Rattle.std.proofs.Common.{◌≡◌, ◌⊎◌, ◌≤◌, ◌∙◌, ◌==◌, ℕ, suc, Bool, true, false, cond, List, [], ◌∷◌, filter, length, map, None, Some, leb, leb-true, le-leb, refl, sym, ap, subst, inl, inr, arith}
use Rattle.misp_lists.proofs.Orders.{bytes_on}
use Rattle.misp_elem.specs.Fields.{IsBetween, is_after}
use Rattle.misp_elem.specs.Spelling.{key}
use Rattle.misp_manifest.specs.Manifest.{AreStampedAfter}
use Rattle.misp_manifest.specs.Wanted.{AreOwnAfter, IsWanted}
use Rattle.misp_manifest.specs.declared.manifest.KeyStamp.{KeyStamp}
use Rattle.misp_model.proofs.Prelude.{EventId, Inst, Key, OrgId, Row, and_from, and_parts, event_key, event_of}
use Rattle.misp_wanted.specs.Wanting.{is_wanted, wanted_keys}
use Rattle.misp_core.specs.Wanting.{IsSomeWanted}
use Rattle.misp_protocol.specs.Parts.{IsPartKeys}
use Rattle.misp_protocol.specs.declared.part_keys.PartKeysFields.{PartKeysFields as PartKeys}

-- ---- keys that ascend

-- the key is this one, or stands before it
abbrev IsUpTo : Key → Key → Type 0
IsUpTo b c = (b ≡ c) ⊎ (is_after (key b) (key c) ≡ true)

then_after : (b c d : Key) → IsUpTo b c → is_after (key c) (key d) ≡ true → is_after (key b) (key d) ≡ true
then_after b c d (inl same) up = subst (λ x. is_after (key x) (key d) ≡ true) (sym same) up
then_after b c d (inr first) up = bytes_on (key b) (key c) (key d) first up

-- ---- those of a part that pass a test

module _ (e : EventId) (test : KeyStamp → Bool) where
  abbrev kept : List KeyStamp → List Key
  kept ks = map (λ k. k.key) (filter test ks)

  few : (ks : List KeyStamp) → length (kept ks) ≤ length ks
  few [] = omega arith
  few (k ∷ ks) = one (test k) (few ks)
    where
      one : (t : Bool) → length (kept ks) ≤ length ks → length (map (λ k. k.key) (cond t (k ∷ filter test ks) (filter test ks))) ≤ suc (length ks)
      one true h = omega (arith, h)
      one false h = omega (arith, h)

  kept_later : (b c : Key) (ks : List KeyStamp) → IsUpTo b c → AreStampedAfter e (Some c) ks → AreOwnAfter e (Some b) (kept ks)
  kept_later b c [] up are = tt
  kept_later b c (k ∷ ks) up are =
      let up_k = then_after b c k.key up are.0.0.1.1 in
      one (test k) (kept_later k.key k.key ks (inl refl) are.1) (kept_later b k.key ks (inr up_k) are.1)
    where
      one : (t : Bool) → AreOwnAfter e (Some k.key) (kept ks) → AreOwnAfter e (Some b) (kept ks)
          → AreOwnAfter e (Some b) (map (λ k. k.key) (cond t (k ∷ filter test ks) (filter test ks)))
      one true with_k without = ((are.0.0.0, (are.0.0.1.0, then_after b c k.key up are.0.0.1.1)), with_k)
      one false with_k without = without

  kept_after : (c : Key) (ks : List KeyStamp) → AreStampedAfter e (Some c) ks → AreOwnAfter e None (kept ks)
  kept_after c [] are = tt
  kept_after c (k ∷ ks) are = one (test k) (kept_later k.key k.key ks (inl refl) are.1) (kept_after k.key ks are.1)
    where
      one : (t : Bool) → AreOwnAfter e (Some k.key) (kept ks) → AreOwnAfter e None (kept ks)
          → AreOwnAfter e None (map (λ k. k.key) (cond t (k ∷ filter test ks) (filter test ks)))
      one true with_k without = ((are.0.0.0, are.0.0.1.0), with_k)
      one false with_k without = without

  own_of : (k : Key) → k ≡ event_key e → event_of k ≡ e
  unfolding event_key event_of
  own_of k is = ap event_of is

  kept_all : (ks : List KeyStamp) → AreStampedAfter e None ks → AreOwnAfter e None (kept ks)
  kept_all [] are = tt
  kept_all (k ∷ ks) are = one (test k)
    where
      one : (t : Bool) → AreOwnAfter e None (map (λ k. k.key) (cond t (k ∷ filter test ks) (filter test ks)))
      one true = ((are.0.0.0, own_of k.key are.0.0.1), kept_later k.key k.key ks (inl refl) are.1)
      one false = kept_after k.key ks are.1

-- ---- a wanted list

between : (n m : ℕ) → 1 ≤ n → n ≤ m → IsBetween 1 65 m → IsBetween 1 65 n
between n m some le h = and_from _ _ (le-leb 1 n some) (le-leb n 65 (omega (arith, le, leb-true m 65 (and_parts (leb 1 m) (leb m 65) h).1)))

module _ (k : PartKeys) (is : IsPartKeys k) (i : Inst) (w : OrgId) (rows : List Row) where
  pub wanted_fits : (keys : List Key) → keys ≡ wanted_keys i rows w k.event k.keys → 1 ≤ length keys
      → IsWanted (record { event = k.event; part = k.part; keys = keys })
  wanted_fits keys are some =
      let test = is_wanted i rows w k.event in
      record {
        event = is.event;
        part = is.part;
        count = between (length keys) (length k.keys) some (subst (λ xs. length xs ≤ length k.keys) (sym are) (few k.event test k.keys)) is.keys.count;
        keys = subst (AreOwnAfter k.event None) (sym are) (kept_all k.event test k.keys is.keys.stamped);
      }

some_of : (keys : List Key) → (length keys == 0) ≡ false → 1 ≤ length keys
some_of [] none = absurd cc
some_of (key ∷ keys) none = omega arith

-- of what a part tells
pub fits_here : (k f : PartKeys) (keys seen kept : List Key) → f ≡ k → IsPartKeys f → kept ≡ keys → (i : Inst) × (w : OrgId) × IsSomeWanted i w k.event k.keys keys
    → seen ≡ keys → (length seen == 0) ≡ false → IsWanted (record { event = f.event; part = f.part; keys = kept })
fits_here k f keys seen kept same is are told shown some =
    let wanted = told.2 in
    wanted_fits f is told.0 told.1 wanted.rows kept (are ∙ (wanted.are ∙ ap (λ g. wanted_keys told.0 wanted.rows told.1 g.event g.keys) (sym same)))
    (subst (λ xs. 1 ≤ length xs) (shown ∙ sym are) (some_of seen some))
