-- A request is refused, answered and written from what it looks at as from all rows.
use Rattle.std.proofs.Common.{◌≡◌, ℕ, List, [], ◌∷◌, ◌++◌, Bool, true, arith, ap, sym, ◌∙◌, refl, subst, Some, eqb, map, find, ◌||◌}
use Rattle.std.proofs.lemmas.Bool.{and_from, or_left}
use Rattle.misp_lists.proofs.Lists.{none_not_some, some_same}
use Rattle.misp_lists.proofs.Ordering.{all_in_order}
use Rattle.misp_model.proofs.Prelude.{AllByRecursion, EventId, IsTable, Key, OrgId, Row, Rule, Scene, Submission, and_parts, in_order, is_taken, list_all, seeing, uuid_at}
use Rattle.misp_model.specs.declared.change.Change.{Change}
use Rattle.misp_model.specs.declared.change.Change.TheVariants.{AddParts}
use Rattle.misp_model.specs.declared.looks.Looks.{Looks}
use Rattle.misp_model.specs.Looking.{at_parts, change_looks, is_in_look, is_needed_for, last_looks, looks_at, looks_of, more_looks, over, rows_seen_by, uuids_in}
use Rattle.misp_model.proofs.Looked.{change_is_enough, first_within_last, looked_same, seeing_looked}
use Rattle.misp_model.proofs.LookedBodies.{taken_looked, targets_looked}
use Rattle.misp_model.proofs.LookedCopy.{HasThose}
use Rattle.misp_model.proofs.LookedKeys.{own_looks}
use Rattle.misp_model.proofs.LookedRows.{IsClosedFor}
use Rattle.misp_model.proofs.LookedScenes.{looked_scene}
use Rattle.misp_model.proofs.LookedUuids.{brought_among, is_in_body}
use Rattle.misp_history.proofs.Prelude.{Ask}
use Rattle.misp_edit.specs.Adding.{first_clash, first_unusable, is_read_before, labels_of, numbered_uuids, read_uuids}
use Rattle.misp_edit.specs.Uuids.{clash_in}
use Rattle.misp_edit.specs.Refusals.{named, added_place, refusal_of}
use Rattle.misp_edit.proofs.LateRules.{usable_is}
use Rattle.misp_edit.proofs.OwnCopy.{IsAlike}
use Rattle.misp_edit.proofs.RuleLemmas.{clash_is}
use Rattle.misp_edit.proofs.UuidLemmas.{unnumbered}

-- ---- tests that agree on what is tested

-- uuids of which the same are used clash alike
clash_where : (f g : ℕ → Bool) (ps : List (ℕ × ℕ)) → AllByRecursion (λ p. f p.1 ≡ g p.1) ps → clash_in f (map (λ p. p.1) ps) ≡ clash_in g (map (λ p. p.1) ps)
unfolding clash_in
clash_where f g [] a = refl
clash_where f g (p ∷ ps) a = grind (arith, a.0, clash_where (λ v. eqb p.1 v || f v) (λ v. eqb p.1 v || g v) ps (more ps a.1))
  where
    more : (ps : List (ℕ × ℕ)) → AllByRecursion (λ q. f q.1 ≡ g q.1) ps → AllByRecursion (λ q. (eqb p.1 q.1 || f q.1) ≡ (eqb p.1 q.1 || g q.1)) ps
    more [] a = tt
    more (q ∷ qs) a = (ap (λ x. eqb p.1 q.1 || x) a.0, more qs a.1)

-- where all pass a test by which two others agree
each_agrees : (f g q : ℕ → Bool) → ((u : ℕ) → q u ≡ true → f u ≡ g u) → (ps : List (ℕ × ℕ)) → list_all q (map (λ p. p.1) ps) ≡ true → AllByRecursion (λ p. f p.1 ≡ g p.1) ps
each_agrees f g q h [] a = tt
each_agrees f g q h (p ∷ ps) a = (h p.1 (and_parts _ _ a).0, each_agrees f g q h ps (and_parts _ _ a).1)

-- ---- what a refused addition names

module _ (keep : OrgId → Key → Bool) (s : Scene) (c : IsClosedFor s.by keep) (b : Submission) (has : HasThose keep s.by b.event (is_needed_for (uuids_in b))) where
  abbrev near : Scene
  near = looked_scene keep s

  abbrev pairs : List (ℕ × ℕ)
  pairs = in_order is_read_before (numbered_uuids s b)

  read_looked : read_uuids near b ≡ read_uuids s b
  unfolding read_uuids numbered_uuids
  read_looked = λ i.
      map (λ p. p.1) (in_order is_read_before (map (λ d. (d.number, uuid_at b.event d.place)) b.parts ++ map (λ r. (r.number, r.uuid.0.0)) (targets_looked keep s c b has i)))

  -- each uuid of the body is taken in both or in neither
  taken_alike : AllByRecursion (λ p. is_taken near b.event p.1 ≡ is_taken s b.event p.1) pairs
  taken_alike =
      all_in_order _ is_read_before (numbered_uuids s b)
      (each_agrees (is_taken near b.event) (is_taken s b.event) (is_in_body b) (taken_looked keep s c b has) (numbered_uuids s b)
      (ap (list_all (is_in_body b)) (unnumbered s b) ∙ brought_among b s))

  pub clash_looked : first_clash near b ≡ first_clash s b
  unfolding read_uuids
  clash_looked =
      clash_is near b ∙ ap (clash_in (is_taken near b.event)) read_looked ∙ clash_where (is_taken near b.event) (is_taken s b.event) pairs taken_alike ∙ sym (clash_is s b)

  pub unusable_looked : first_unusable near b ≡ first_unusable s b
  unfolding first_unusable looked_scene
  unusable_looked = λ i. find (λ l. (sym (usable_is near l) ∙ usable_is s l) i) (labels_of b)

-- ---- refusals

module _ (rows : List Row) (s : Scene) (rule : Rule) where
  -- what is seen of the rows that a request looks at at last
  abbrev there : Looks → Ask → Scene
  there l a = seeing s (rows_seen_by (last_looks l (more_looks (over s rows) a)) rows)

  module _ (e : EventId) (b : Submission) where
    abbrev add : Ask
    add = Ask.Change (AddParts e b)

    abbrev last : Looks
    last = last_looks (at_parts s.by b) (more_looks (over s rows) add)

    -- what has one of the body's uuids is looked at
    body_looked : HasThose (looks_at last) s.by b.event (is_needed_for (uuids_in b))
    unfolding is_in_look
    body_looked k here h = first_within_last (at_parts s.by b) (over s rows) add refl s.by k (own_looks (at_parts s.by b) k (or_left _ _ (and_from _ _ here h)))

    parts_refused : refusal_of (there (at_parts s.by b) add) add rule ≡ refusal_of (seeing s rows) add rule
    parts_refused =
        ap (λ (t : Scene). refusal_of t add rule) (seeing_looked last s rows closed)
        ∙ (λ i. record {
          name = named rule;
          place = added_place (clash_looked (looks_at last) (seeing s rows) closed b body_looked i) (unusable_looked (looks_at last) (seeing s rows) closed b body_looked i) rule;
        })
      where
        closed : IsClosedFor s.by (looks_at last)
        closed = (change_is_enough (at_parts s.by b) rows s (AddParts e b) refl).closed

  change_refused : (l : Looks) (c : Change) → change_looks s.by c ≡ Some l → refusal_of (there l (Ask.Change c)) (Ask.Change c) rule ≡ refusal_of (seeing s rows) (Ask.Change c) rule
  change_refused l (Change.AddEvent b) is = absurd (none_not_some is)
  change_refused l (AddParts e b) is =
      subst (λ (k : Looks). refusal_of (there k (Ask.Change (AddParts e b))) (Ask.Change (AddParts e b)) rule ≡ refusal_of (seeing s rows) (Ask.Change (AddParts e b)) rule)
      (some_same (at_parts s.by b) l is) (parts_refused e b)
  change_refused l c is = refl

  -- what a refusal names is the same
  refused_looked : (l : Looks) (ask : Ask) → looks_of s.at s.by ask ≡ Some l → refusal_of (there l ask) ask rule ≡ refusal_of (seeing s rows) ask rule
  refused_looked l (Ask.Change c) is = change_refused l c is
  refused_looked l ask is = refl

pub looked_alike : (l : Looks) (rows : List Row) (s : Scene) (ask : Ask) → IsTable rows → looks_of s.at s.by ask ≡ Some l →
    IsAlike (seeing s (rows_seen_by (last_looks l (more_looks (over s rows) ask)) rows)) (seeing s rows) ask
looked_alike l rows s ask table is = record {
  same = looked_same l rows s ask table is;
  refusals = λ rule. refused_looked rows s rule l ask is;
}
