-- One arrival more: it takes the place of its cell's newest where it is newer, and nothing else changes.
use Rattle.std.proofs.Common.{◌≡◌, true, ap, ◌∙◌, sym, Bool, false, refl, List, ◌++◌, cond, ◌<◌, ◌≤◌, [], ◌∷◌, arith, leb, ltb, inl, inr, ℕ, ◌&&◌, ◌||◌, not, ltb-true, leb-true, lt-ltb, le-leb, filter}
use Rattle.std.proofs.lemmas.Bool.{cases_Bool}
use Rattle.misp_model.proofs.Prelude.{Inst, Version, alike, and_from, and_left, and_parts, and_right, any_implies, false≢true, list_any, list_any-append, nat_tests, not-false, not-true, or_cases, or_parts, same_inst, same_inst-refl}
use Rattle.misp_model.proofs.Prelude.{same_inst-sound, same_key, same_key-refl, same_key-sound, same_org, same_org-refl, same_org-sound}
use Rattle.misp_history.specs.History.{same_cell, is_newest, newest_from, newest}

-- of one cell: at one instance, of one owner, of one key
pub cell : (a b : Version) → same_cell a b ≡ true → (a.at ≡ b.at) × ((a.owner ≡ b.owner) × (a.key ≡ b.key))
unfolding same_cell
cell a b h = let two = and_parts _ _ h in let one = and_parts _ _ two.0 in (same_inst-sound _ _ one.0, (same_org-sound _ _ one.1, same_key-sound _ _ two.1))

cell_as : (a b : Version) → same_cell a b ≡ true → (d : Version) → same_cell a d ≡ same_cell b d
unfolding same_cell
cell_as a b h d = let c = cell a b h in λ i. same_inst (c.0 i) d.at && same_org (c.1.0 i) d.owner && same_key (c.1.1 i) d.key

pub cell_back : (a b : Version) → same_cell a b ≡ true → same_cell b a ≡ true
unfolding same_cell
cell_back a b h = sym (cell_as a b h a) ∙ and_from _ _ (and_from _ _ (same_inst-refl a.at) (same_org-refl a.owner)) (same_key-refl a.key)

pub cell_on : (a b d : Version) → same_cell a b ≡ true → same_cell b d ≡ true → same_cell a d ≡ true
cell_on a b d h k = cell_as a b h d ∙ k

bool_one : (s p x q : Bool) → (s && (not p && not (x || (q || false)))) ≡ ((s && (not p && not x)) && not q)
bool_one s p x q = grind arith

bool_two : (b : Bool) → (not b && true) ≡ not (b || false)
bool_two b = grind arith

bool_three : (b p a : Bool) → ((b || p) || a) ≡ (p || (b || a))
bool_three b p a = grind arith

not_older : (c : Bool) (m n : ℕ) → (c && leb n m) ≡ false → c ≡ (c && ltb m n)
not_older c m n h = grind (arith, nat_tests)

-- one in front of a list, and one at its end in the place of those that do not pass
in_front : {X : Type 0} (q : X → Bool) (u v : X) (us : List X) (b k d : Bool) → (b ≡ true → q u ≡ not d) → (b ≡ false → d ≡ true → k ≡ false) →
    cond (k && not d) (u ∷ cond b (filter q us ++ v ∷ []) us) (cond b (filter q us ++ v ∷ []) us) ≡ cond b (filter q (cond k (u ∷ us) us) ++ v ∷ []) (cond k (u ∷ us) us)
in_front q u v us true true true h g = rw (h refl) refl
in_front q u v us true true false h g = rw (h refl) refl
in_front q u v us false true true h g = absurd (false≢true (sym (g refl refl)))
in_front q u v us _ _ _ h g = refl

module _ (v : Version) where
  -- a version of the cell that is as new as v
  abbrev bars : Version → Bool
  bars a = same_cell a v && leb v.stamp a.stamp

  -- a version of another cell
  abbrev other : Version → Bool
  other u = not (same_cell u v)

  -- v at the end, in the place of its cell's, unless it is barred
  abbrev put_last : Inst → Bool → List Version → List Version
  put_last i barred us = cond (same_inst v.at i && not barred) (filter other us ++ v ∷ []) us

  module _ (before : List Version) (u : Version) (after : List Version) where
    abbrev barred : Bool
    barred = list_any bars before || (bars u || list_any bars after)

    -- v is newer in the cell of u
    abbrev newer : Bool
    newer = same_cell v u && ltb u.stamp v.stamp

    -- what is newest is newest with v after it, unless v is newer in its cell
    is_newest_more : (s : Bool) → (s && is_newest before u (after ++ v ∷ [])) ≡ ((s && is_newest before u after) && not newer)
    unfolding is_newest
    is_newest_more s =
        ap (λ x. s && (not (list_any (λ a. same_cell a u && leb u.stamp a.stamp) before) && not x)) (list_any-append (λ a. same_cell a u && ltb u.stamp a.stamp) after (v ∷ []))
        ∙ bool_one s (list_any (λ a. same_cell a u && leb u.stamp a.stamp) before) (list_any (λ a. same_cell a u && ltb u.stamp a.stamp) after) newer

    -- where some version is as new as v in its cell, no newest one is older than v
    not_newest : barred ≡ true → newer ≡ true → is_newest before u after ≡ false
    unfolding is_newest
    not_newest h n = elim (or_cases _ _ h) [
      | inl b ↦ and_left _ _ (ap not (any_implies bars (λ a. same_cell a u && leb u.stamp a.stamp) (λ a k. let le = later a k in and_from _ _ le.0 (le-leb u.stamp a.stamp (omega (arith, le.1)))) before b))
      | inr r ↦ elim (or_cases _ _ r) [
        | inl w ↦ (let le : v.stamp ≤ u.stamp = leb-true _ _ (and_parts _ _ w).1 in absurd (omega (arith, lt)))
        | inr a ↦ and_right _ _ (ap not (any_implies bars (λ a. same_cell a u && ltb u.stamp a.stamp) (λ a k. let le = later a k in and_from _ _ le.0 (lt-ltb u.stamp a.stamp le.1)) after a))
      ]
    ]
      where
        lt : u.stamp < v.stamp
        lt = ltb-true u.stamp v.stamp (and_parts (same_cell v u) (ltb u.stamp v.stamp) n).1

        later : (a : Version) → bars a ≡ true → (same_cell a u ≡ true) × (u.stamp < a.stamp)
        later a k = let two = and_parts (same_cell a v) (leb v.stamp a.stamp) k in let le : v.stamp ≤ a.stamp = leb-true v.stamp a.stamp two.1 in (cell_on a v u two.0 (and_parts (same_cell v u) (ltb u.stamp v.stamp) n).0, omega (arith, lt))

    one_more : (i : Inst) (us : List Version) → cond (same_inst u.at i && is_newest before u (after ++ v ∷ [])) (u ∷ put_last i barred us) (put_last i barred us)
        ≡ put_last i barred (cond (same_inst u.at i && is_newest before u after) (u ∷ us) us)
    one_more i us =
        ap (λ t. cond t (u ∷ put_last i barred us) (put_last i barred us)) (is_newest_more (same_inst u.at i))
        ∙ in_front other u v us (same_inst v.at i && not barred) (same_inst u.at i && is_newest before u after) newer apart old
      where
        apart : (same_inst v.at i && not barred) ≡ true → other u ≡ not newer
        apart h =
            ap not (not_older (same_cell u v) u.stamp v.stamp (or_parts (bars u) (list_any bars after) (or_parts (list_any bars before) (bars u || list_any bars after) (not-true barred (and_parts (same_inst v.at i) (not barred) h).1)).1).0
            ∙ ap (λ c. c && ltb u.stamp v.stamp) (alike (same_cell u v) (same_cell v u) (cell_back u v) (cell_back v u)))

        old : (same_inst v.at i && not barred) ≡ false → newer ≡ true → (same_inst u.at i && is_newest before u after) ≡ false
        old h n = elim (cases_Bool (same_inst u.at i)) [
          | inl f ↦ and_right (same_inst u.at i) (is_newest before u after)
              (not_newest (not-false barred (sym (ap (λ t. t && not barred) (ap (λ x. same_inst x i) (cell v u (and_parts (same_cell v u) (ltb u.stamp v.stamp) n).0).0 ∙ f)) ∙ h)) n)
          | inr f ↦ and_left (same_inst u.at i) (is_newest before u after) f
        ]

  newest_from_more : (i : Inst) (before after : List Version) → newest_from i before (after ++ v ∷ []) ≡ put_last i (list_any bars before || list_any bars after) (newest_from i before after)
  unfolding newest_from is_newest
  newest_from_more i before [] = ap (λ t. cond (same_inst v.at i && t) (v ∷ []) []) (bool_two (list_any bars before))
  newest_from_more i before (u ∷ after) =
      let rest : newest_from i (u ∷ before) (after ++ v ∷ []) ≡ put_last i (barred before u after) (newest_from i (u ∷ before) after) =
      newest_from_more i (u ∷ before) after ∙ ap (λ t. put_last i t (newest_from i (u ∷ before) after)) (bool_three (bars u) (list_any bars before) (list_any bars after)) in
      (λ j. cond (same_inst u.at i && is_newest before u (after ++ v ∷ [])) (u ∷ rest j) (rest j)) ∙ one_more before u after i (newest_from i (u ∷ before) after)

  -- the newest versions with one arrival more: it takes the place of its cell's, or nothing changes
  pub newest_more : (log : List Version) (i : Inst) →
      newest (log ++ v ∷ []) i ≡ cond (same_inst v.at i && not (list_any bars log)) (filter other (newest log i) ++ v ∷ []) (newest log i)
  unfolding newest
  newest_more log i = newest_from_more i [] log
