-- Items that come to a window, one after another.
use Rattle.std.proofs.Common.{◌≡◌, ℕ, ◌+◌, ◌-◌, ◌*◌, ◌≤◌, ◌<◌, List, [], ◌∷◌, ◌++◌, Bool, true, false, refl, ap, sym, subst, ◌∙◌, arith, append-nil, append_assoc, cond, drop, take, min, length, leb, filter, flat_map}
use Rattle.std.proofs.lemmas.List.{drop-append-le, drop_all, length-append, length-take, nil_from_length, take-append-le, take_all}
use Rattle.std.proofs.lemmas.Bool.{leb-false, leb-true}
use Rattle.misp_search.specs.Page.{PageNumbers, page_of}
use Rattle.misp_search.specs.Window.{HaveCome, PageWindow, window_of}

module _ {A : Type 0} where
  -- ---- none, and some behind others

  pub come_none : (w : PageWindow A) → HaveCome [] w w
  unfolding HaveCome
  come_none w = λ p all is. is ∙ ap (window_of p) (sym (append-nil all))

  pub come_both : (xs ys : List A) (a b c : PageWindow A) → HaveCome xs a b → HaveCome ys b c → HaveCome (xs ++ ys) a c
  unfolding HaveCome
  come_both xs ys a b c first second = λ p all is. second p (all ++ xs) (first p all is) ∙ ap (window_of p) (append_assoc all xs ys)

  -- what a window has of all that came
  pub page_come : (p : PageNumbers) (all : List A) (old new : PageWindow A) → old ≡ window_of p [] → HaveCome all old new → new.items ≡ page_of p all
  unfolding HaveCome window_of
  page_come p all old new began come = ap (λ (w : PageWindow A). w.items) (come p [] began)

  -- ---- before any

  pub window_none : (p : PageNumbers) (before : ℕ) (items : List A) → before ≡ (p.number - 1) * p.size → items ≡ [] → record { page = p; before = before; items = items } ≡ window_of p []
  unfolding window_of page_of
  window_none p before items start none =
      let d : drop {A = A} ((p.number - 1) * p.size) [] ≡ [] = drop_all ((p.number - 1) * p.size) [] (omega arith) in
      let t : take {A = A} p.size [] ≡ [] = take_all p.size [] (omega arith) in
      let b : (p.number - 1) * p.size ≡ (p.number - 1) * p.size - 0 = omega arith in
      (λ i. record { page = p; before = (start ∙ b) i; items = (none ∙ sym (ap (take p.size) d ∙ t)) i })

  -- ---- one page

  module _ (start size : ℕ) (all : List A) where
    -- what comes where items are still to come before the page
    counted_before : (x : A) → 0 < start - length all → start - length all - 1 ≡ start - length (all ++ x ∷ [])
    counted_before x some = let l : length (all ++ x ∷ []) ≡ length all + 1 = length-append all (x ∷ []) in omega arith

    counted_items : (x : A) → 0 < start - length all → take size (drop start all) ≡ take size (drop start (all ++ x ∷ []))
    counted_items x some =
        let l : length (all ++ x ∷ []) ≡ length all + 1 = length-append all (x ∷ []) in
        let before : length all ≤ start = omega arith in
        let after : length (all ++ x ∷ []) ≤ start = omega arith in
        ap (take size) (drop_all start all before ∙ sym (drop_all start (all ++ x ∷ []) after))

    -- what comes from there on
    module _ (none : start - length all ≡ 0) where
      past : start ≤ length all
      past = omega arith

      none_before : (more : List A) → start - length all ≡ start - length (all ++ more)
      none_before more = let l : length (all ++ more) ≡ length all + length more = length-append all more in omega arith

      taken_items : (x : A) → length (take size (drop start all)) < size → take size (drop start all) ++ x ∷ [] ≡ take size (drop start (all ++ x ∷ []))
      taken_items x room =
          let m : length (take size (drop start all)) ≡ min size (length (drop start all)) = length-take size (drop start all) in
          let few : length (drop start all) < size = grind arith in
          let l : length (drop start all ++ x ∷ []) ≡ length (drop start all) + 1 = length-append (drop start all) (x ∷ []) in
          let old : length (drop start all) ≤ size = omega arith in
          let new : length (drop start all ++ x ∷ []) ≤ size = omega arith in
          ap (λ l. l ++ x ∷ []) (take_all size (drop start all) old) ∙ sym (ap (take size) (drop-append-le start all (x ∷ []) past) ∙ take_all size (drop start all ++ x ∷ []) new)

      kept_items : (more : List A) → size ≤ length (take size (drop start all)) → take size (drop start all) ≡ take size (drop start (all ++ more))
      kept_items more full =
          let m : length (take size (drop start all)) ≡ min size (length (drop start all)) = length-take size (drop start all) in
          let many : size ≤ length (drop start all) = grind arith in
          sym (ap (take size) (drop-append-le start all more past) ∙ take-append-le size (drop start all) more many)

  -- ---- a window

  module _ (v w : PageWindow A) (same : v ≡ w) where
    -- an item before the page
    pub counted : (x : A) → 0 < v.before → HaveCome (x ∷ []) w (record { page = v.page; before = v.before - 1; items = v.items })
    unfolding HaveCome window_of page_of
    counted x some = λ p all is.
        let now : v ≡ window_of p all = same ∙ is in
        let n : 0 < (p.number - 1) * p.size - length all = subst (λ (u : PageWindow A). 0 < u.before) now some in
        (λ i. record { page = (now i).page; before = (now i).before - 1; items = (now i).items })
        ∙ (λ i. record { page = p; before = counted_before ((p.number - 1) * p.size) p.size all x n i; items = counted_items ((p.number - 1) * p.size) p.size all x n i })

    -- an item of the page
    pub taken : (filled : Bool) (x : A) → v.before ≤ 0 → filled ≡ leb w.page.size (length w.items) → filled ≡ false → HaveCome (x ∷ []) w (record { page = v.page; before = v.before; items = v.items ++ x ∷ [] })
    unfolding HaveCome window_of page_of
    taken filled x none test room = λ p all is.
        let now : v ≡ window_of p all = same ∙ is in
        let few : (p.number - 1) * p.size - length all ≤ 0 = subst (λ (u : PageWindow A). u.before ≤ 0) now none in
        let n : (p.number - 1) * p.size - length all ≡ 0 = omega arith in
        let r : length (page_of p all) < p.size = subst (λ (u : PageWindow A). length u.items < u.page.size) is (leb-false w.page.size (length w.items) (sym test ∙ room)) in
        (λ i. record { page = (now i).page; before = (now i).before; items = (now i).items ++ x ∷ [] })
        ∙ (λ i. record { page = p; before = none_before ((p.number - 1) * p.size) p.size all n (x ∷ []) i; items = taken_items ((p.number - 1) * p.size) p.size all n x r i })

    -- whatever comes behind the page
    pub kept : (filled : Bool) → v.before ≤ 0 → filled ≡ leb w.page.size (length w.items) → filled ≡ true → (more : List A) → HaveCome more w w
    unfolding HaveCome window_of page_of
    kept filled none test full more = λ p all is.
        let now : v ≡ window_of p all = same ∙ is in
        let few : (p.number - 1) * p.size - length all ≤ 0 = subst (λ (u : PageWindow A). u.before ≤ 0) now none in
        let n : (p.number - 1) * p.size - length all ≡ 0 = omega arith in
        let f : p.size ≤ length (page_of p all) = subst (λ (u : PageWindow A). u.page.size ≤ length u.items) is (leb-true w.page.size (length w.items) (sym test ∙ full)) in
        is ∙ (λ i. record { page = p; before = none_before ((p.number - 1) * p.size) p.size all n more i; items = kept_items ((p.number - 1) * p.size) p.size all n more f i })

-- ---- items that fit

module _ {X : Type 0} (p : X → Bool) where
  pub filter_with : (xs ys : List X) → filter p (xs ++ ys) ≡ filter p xs ++ filter p ys
  filter_with [] ys = refl
  filter_with (x ∷ xs) ys = grind (arith, filter_with xs ys)

  one_kept : (b : Bool) (x : X) (rest : List X) → b ≡ p x → cond b (x ∷ []) [] ++ filter p rest ≡ filter p (x ∷ rest)
  one_kept true x rest e = ap (λ c. cond c (x ∷ filter p rest) (filter p rest)) e
  one_kept false x rest e = ap (λ c. cond c (x ∷ filter p rest) (filter p rest)) e

  -- one item more, and then those that are left
  pub item_comes : (a b c : PageWindow X) (all rest : List X) (x : X) (fits : Bool) → all ≡ x ∷ rest → fits ≡ p x → HaveCome (cond fits (x ∷ []) []) a b → HaveCome (filter p rest) b c → HaveCome (filter p all) a c
  item_comes a b c all rest x fits is test come later =
      subst (λ l. HaveCome l a c) (one_kept fits x rest test ∙ ap (filter p) (sym is)) (come_both (cond fits (x ∷ []) []) (filter p rest) a b c come later)

  -- the items of one list more, and then those of the lists that are left
  pub list_comes : {Y : Type 0} (g : Y → List X) (a b c : PageWindow X) (all rest : List Y) (y : Y) (list : List X) → all ≡ y ∷ rest → list ≡ g y → HaveCome (filter p list) a b → HaveCome (filter p (flat_map g rest)) b c
      → HaveCome (filter p (flat_map g all)) a c
  list_comes g a b c all rest y list is from come later =
      subst (λ l. HaveCome l a c)
      (ap (λ l. filter p l ++ filter p (flat_map g rest)) from ∙ sym (filter_with (g y) (flat_map g rest)) ∙ ap (λ l. filter p (flat_map g l)) (sym is))
      (come_both (filter p list) (filter p (flat_map g rest)) a b c come later)

-- nothing is left
pub none_left : {X : Type 0} (xs : List X) (n : ℕ) → n ≡ length xs → n ≡ 0 → xs ≡ []
none_left xs n is none = nil_from_length xs (sym is ∙ none)

-- ---- where they are wanted

module _ {X : Type 0} where
  pub come_if : (b : Bool) (xs : List X) (old new : PageWindow X) → b ≡ true → HaveCome xs old new → HaveCome (cond b xs []) old new
  come_if b xs old new is come = subst (λ d. HaveCome (cond d xs []) old new) (sym is) come

  pub come_not : (b : Bool) (xs : List X) (w : PageWindow X) → b ≡ false → HaveCome (cond b xs []) w w
  come_not b xs w is = subst (λ d. HaveCome (cond d xs []) w w) (sym is) (come_none w)
