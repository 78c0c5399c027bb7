-- What the sets say is granted is granted.
use Rattle.std.proofs.Common.{◌≡◌, ℕ, Bool, true, false, refl, ap, ◌∙◌, arith, List, [], ◌∷◌, ◌&&◌, ◌||◌, not, filter, BTreeSet}
use Rattle.misp_lists.proofs.Lists.{any_by}
use Rattle.misp_model.proofs.Prelude.{Element, Event, EventId, Group, Inst, Key, OrgId, Place, Proposal, Reference, Row, Sighting, Verdict, above, all_same, and_parts, element_granted, event_of}
use Rattle.misp_model.proofs.Prelude.{false≢true, filter_agree, granted, granted_by, granted_somewhere, has_open, is_known, is_row_of, is_statement, known, list_all, list_any, parents, row_is_open, same_key, same_key-sound, same_org}
use Rattle.misp_model.proofs.Prelude.{same_org-refl, up_to}
use Rattle.misp_copies.specs.declared.grants.Grants.{Grants}
use Rattle.misp_copies.specs.Kinds.{is_upper, is_link}
use Rattle.misp_copies.specs.Table.{IsCopies}
use Rattle.misp_copies.specs.ElementSet.{Numbers, has_element, has_key, key_is}
use Rattle.misp_copies.specs.Grants.{IsOpenings, IsGranted, IsGrants, element_in, granted_as, granted_in}

module _ {X : Type 0} where
  -- where one of these passes, one of these passes
  pub passing_is_any : (t : X → Bool) (b : Bool) (xs : List X) → (list_any t xs ≡ true → b ≡ true) → list_all (λ x. b || not (t x)) xs ≡ true
  passing_is_any t b [] h = refl
  passing_is_any t b (x ∷ xs) h = one b (t x) h (passing_is_any t b xs)
    where
      one : (c d : Bool) → ((d || list_any t xs) ≡ true → c ≡ true) → ((list_any t xs ≡ true → c ≡ true) → list_all (λ y. c || not (t y)) xs ≡ true) → ((c || not d) && list_all (λ y. c || not (t y)) xs) ≡ true
      one true d k ih = ih (λ e. refl)
      one false true k ih = absurd (false≢true (k refl))
      one false false k ih = ih k

-- what stands above a key is an element, and an event or an object where there are no links
unfoldable pub reached : Bool → Key → Bool
reached linked (Element e p) = linked || is_upper (Element e p)
reached linked _ = false

above_reached : (linked : Bool) (e : EventId) (p : Place) → list_all (reached linked) (above e p) ≡ true
unfolding above is_upper reached
above_reached true e Event = refl
above_reached false e Event = refl
above_reached _ e _ = refl

up_to_reached : (e : EventId) (p : Place) → list_all (reached true) (up_to e p) ≡ true
unfolding up_to above reached
up_to_reached e Event = refl
up_to_reached e _ = refl

pub parents_reached : (linked : Bool) (k : Key) → (linked || not (is_link k)) ≡ true → list_all (reached linked) (parents k) ≡ true
unfolding parents is_link reached up_to
parents_reached linked (Element e p) h = above_reached linked e p
parents_reached true (Reference e x t u) h = up_to_reached e t
parents_reached true (Proposal e n) h = up_to_reached e n.target
parents_reached true (Verdict e n i o) h = up_to_reached e n.target
parents_reached true (Sighting e t i o u) h = up_to_reached e t
parents_reached false _ h = absurd (false≢true h)

module _ (groups : List Group) (i : Inst) (o : OrgId) (rows : List Row) (linked : Bool) (opened : BTreeSet Numbers) (opens : IsOpenings opened groups i o linked rows) where
  -- a row of an element that is reached
  open_row : (w : OrgId) (e : EventId) (p : Place) → (linked || is_upper (Element e p)) ≡ true → (row : Row) →
      (is_row_of w (Element e p) row && (row_is_open groups i o row && (linked || is_upper row.key))) ≡ (is_row_of w (Element e p) row && row_is_open groups i o row)
  unfolding is_row_of
  open_row w e p h row = one (same_org row.owner w) (same_key row.key (Element e p)) refl (row_is_open groups i o row)
    where
      one : (a b : Bool) → same_key row.key (Element e p) ≡ b → (t : Bool) → ((a && b) && (t && (linked || is_upper row.key))) ≡ ((a && b) && t)
      one a true k t = let is : (linked || is_upper row.key) ≡ true = ap (λ q. linked || is_upper q) (same_key-sound row.key (Element e p) k) ∙ h in rw is (two a t)
        where
          two : (a t : Bool) → ((a && true) && (t && true)) ≡ ((a && true) && t)
          two a t = grind arith
      one true false k t = refl
      one false false k t = refl

  opened_is : (w : OrgId) (k : Key) → reached linked k ≡ true → key_is opened w true k ≡ has_open rows groups i o w k
  unfolding has_open has_key reached
  opened_is w (Element e p) h = opens w e p ∙ any_by _ _ (open_row w e p h) rows
  opened_is w _ h = absurd (false≢true h)

  pub all_opened : (w : OrgId) (k : Key) → (linked || not (is_link k)) ≡ true → list_all (key_is opened w true) (parents k) ≡ list_all (has_open rows groups i o w) (parents k)
  all_opened w k h = all_same (key_is opened w true) (has_open rows groups i o w) (reached linked) (opened_is w) (parents k) (parents_reached linked k h)

  module _ (copied : BTreeSet (ℕ × ℕ)) (copies : IsCopies copied rows) where
    pub element_is : (row : Row) → (linked || not (is_link row.key)) ≡ true → element_in copied opened groups i o row ≡ element_granted rows groups i o row
    unfolding element_in element_granted
    element_is row h = rw (copies (event_of row.key) row.owner, all_opened row.owner row.key h) refl

    somewhere_row : (e : EventId) (p : Place) (row : Row) →
        ((same_org o o && same_key row.key (Element e p)) && (true && element_in copied opened groups i o row)) ≡ (same_key row.key (Element e p) && element_granted rows groups i o row)
    unfolding is_link
    somewhere_row e p row = rw (same_org-refl o) (one (same_key row.key (Element e p)) refl)
      where
        unlinked : same_key row.key (Element e p) ≡ true → (linked || not (is_link row.key)) ≡ true
        unlinked k = ap (λ q. linked || not (is_link q)) (same_key-sound row.key (Element e p) k) ∙ two linked
          where
            two : (b : Bool) → (b || true) ≡ true
            two true = refl
            two false = refl

        one : (b : Bool) → same_key row.key (Element e p) ≡ b → (b && element_in copied opened groups i o row) ≡ (b && element_granted rows groups i o row)
        one true k = element_is row (unlinked k)
        one false k = refl

    pub somewhere_is : (elements : BTreeSet Numbers) → IsGranted elements copied opened groups i o true rows → (e : EventId) (p : Place) → has_element elements o e p ≡ granted_somewhere rows groups i o (Element e p)
    unfolding granted_somewhere
    somewhere_is elements h e p = h o e p ∙ any_by _ _ (somewhere_row e p) rows

or_nothing : (b : Bool) → (b || false) ≡ true → b ≡ true
or_nothing true h = refl
or_nothing false h = h

-- the rows of these sets have what is asked of them
abbrev pub of_these : List Row → Row → Bool
of_these rows row = (list_any (λ r. is_link r.key) rows || not (is_link row.key)) && (list_any (λ r. is_statement r.key) rows || not (is_statement row.key))

both_all : {X : Type 0} (p q : X → Bool) (xs : List X) → list_all p xs ≡ true → list_all q xs ≡ true → list_all (λ x. p x && q x) xs ≡ true
both_all p q [] a b = refl
both_all p q (x ∷ xs) a b = grind (arith, both_all p q xs)

pub all_of_these : (rows : List Row) → list_all (of_these rows) rows ≡ true
all_of_these rows = both_all _ _ rows (passing_is_any (λ row. is_link row.key) _ rows (λ h. h)) (passing_is_any (λ row. is_statement row.key) _ rows (λ h. h))

module _ (groups : List Group) (i : Inst) (o : OrgId) (rows : List Row) (g : Grants) (h : IsGrants g groups i o rows) where
  told_is : list_any (λ r. is_statement r.key) rows ≡ true → (e : EventId) (p : Place) → has_element g.granted o e p ≡ granted_somewhere rows groups i o (Element e p)
  told_is told = somewhere_is groups i o rows (list_any (λ row. is_link row.key) rows) g.opened h.opens g.copied h.copies g.granted (one _ told h.grants)
    where
      one : (t : Bool) → t ≡ true → IsGranted g.granted g.copied g.opened groups i o t rows → IsGranted g.granted g.copied g.opened groups i o true rows
      one true e k = k
      one false e k = absurd (false≢true e)

  as_is : (w : OrgId) (a b : Bool) (k : Key) → a ≡ b → (list_any (λ r. is_statement r.key) rows || not (is_statement k)) ≡ true → granted_as g o w a k ≡ granted_by rows groups i o w b k
  unfolding granted_as granted_by is_statement
  as_is w a b (Element e p) s t = s
  as_is w a b (Reference e x u v) s t = s
  as_is w a b (Proposal e n) s t = ap (λ c. same_org o w || c) (told_is (or_nothing _ t) e n.target)
  as_is w a b (Verdict e n j v) s t = ap (λ c. same_org o w || c) (told_is (or_nothing _ t) e n.target)
  as_is w a b (Sighting e u j v n) s t = (λ k. same_org o w || (h.copies e o k && told_is (or_nothing _ t) e u k))

  pub granted_is : (row : Row) → of_these rows row ≡ true → granted_in g groups i o row ≡ granted rows groups i o row
  unfolding granted_in granted
  granted_is row k =
      let both : ((list_any (λ r. is_link r.key) rows || not (is_link row.key)) ≡ true) × ((list_any (λ r. is_statement r.key) rows || not (is_statement row.key)) ≡ true) = and_parts _ _ k in
      as_is row.owner _ _ row.key (element_is groups i o rows (list_any (λ r. is_link r.key) rows) g.opened h.opens g.copied h.copies row both.0) both.1

  pub known_is : filter (λ row. same_org row.owner o || granted_in g groups i o row) rows ≡ known rows groups i o
  unfolding known is_known
  known_is = filter_agree _ _ (of_these rows) (λ row k. ap (λ b. same_org row.owner o || b) (granted_is row k)) rows (all_of_these rows)
