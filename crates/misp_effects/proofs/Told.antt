-- What all keepers report before and afterwards.
use Rattle.std.proofs.Common.{◌≡◌, ◌≢◌, ℕ, zero, suc, ◌<◌, List, [], ◌∷◌, ◌++◌, length, map, get_or, set, Some, None, refl, sym, ◌∙◌, ap, subst, arith}
use Rattle.std.proofs.lemmas.List.{map-append}
use Rattle.misp_outside.specs.KeeperState.{state}
use Rattle.misp_outside.specs.Reporting.{WhereReported}
use Rattle.misp_outside.proofs.Reporting.{reported_before, reported_so}
use Rattle.misp_effects.specs.Prelude.{Held, KeeperState, Tables, Tell}
use Rattle.misp_effects.specs.KeeperStates.{held_at, told, AreKept, Lends, WhereTold}

-- ---- what the first reports, and what the others do

first_tells : (s : KeeperState) (old : List KeeperState) (held : Held) (tables : Tables) → Tell (s ∷ old) (held ∷ tables) → s.held ≡ Some held
first_tells s old held tables tell = cc

others_tell : (s : KeeperState) (old : List KeeperState) (held : Held) (tables : Tables) → Tell (s ∷ old) (held ∷ tables) → Tell old tables
others_tell s old held tables tell = cc

all_tell : (s : KeeperState) (old : List KeeperState) (held : Held) (tables : Tables) → s.held ≡ Some held → Tell old tables → Tell (s ∷ old) (held ∷ tables)
all_tell s old held tables first others = cc

never_none : (s : KeeperState) (old : List KeeperState) → Tell (s ∷ old) [] → ⊥
never_none s old tell = cc

-- a keeper held this, and of that this holds
record HeldSo (s : KeeperState) (P : Held → Type 0) : Type 0 where
  held : Held
  is : s.held ≡ Some held
  holds : P held

held_before : (s t : KeeperState) (P : Held → Held → Type 0) (now : Held) → WhereReported s.held t.held P → t.held ≡ Some now → HeldSo s (λ held. P held now)
held_before s t P now reports is =
    let was = reported_before s.held t.held P now reports is in record { held = was.0; is = was.1; holds = was.2 }

-- ---- one step after another

-- of keepers that are as they were
pub told_same : (old : List KeeperState) (P : Tables → Tables → Type 0) → ((tables : Tables) → P tables tables) → WhereTold old old P
told_same old P holds after tell = (after, tell, holds after)

-- what follows from it
pub told_so : (old new : List KeeperState) (P Q : Tables → Tables → Type 0) → ((before after : Tables) → P before after → Q before after) → WhereTold old new P → WhereTold old new Q
told_so old new P Q follows is after tell =
    let was = is after tell in (was.0, was.1, follows was.0 after was.2)

-- over two steps
pub told_then : (old mid new : List KeeperState) (P Q R : Tables → Tables → Type 0) → ((before between after : Tables) → P before between → Q between after → R before after)
    → WhereTold old mid P → WhereTold mid new Q → WhereTold old new R
told_then old mid new P Q R follows first then after tell =
    let step = then after tell in
    let was = first step.0 step.1 in
    (was.0, was.1, follows was.0 step.0 after was.2 step.2)

-- ---- some in front, and the others

tell_append : (old more : List KeeperState) (tables others : Tables) → Tell old tables → Tell more others → Tell (old ++ more) (tables ++ others)
tell_append old more tables others first rest =
    map-append (λ (s : KeeperState). s.held) old more
    ∙ ap (λ held. held ++ told more) first
    ∙ ap (λ held. map Some tables ++ held) rest
    ∙ sym (map-append Some tables others)

-- what both report, where all do
record AreParts (old more : List KeeperState) (tables : Tables) : Type 0 where
  front : Tables
  behind : Tables
  is : tables ≡ front ++ behind
  first : Tell old front
  rest : Tell more behind

parts_push : (s : KeeperState) (old more : List KeeperState) (held : Held) (tables : Tables) → s.held ≡ Some held → AreParts old more tables → AreParts (s ∷ old) more (held ∷ tables)
parts_push s old more held tables is parts = record {
  front = held ∷ parts.front;
  behind = parts.behind;
  is = ap (λ rest. held ∷ rest) parts.is;
  first = all_tell s old held parts.front is parts.first;
  rest = parts.rest;
}

tell_parts : (old more : List KeeperState) (tables : Tables) → Tell (old ++ more) tables → AreParts old more tables
tell_parts [] more tables tell = record { front = []; behind = tables; is = refl; first = refl; rest = tell }
tell_parts (s ∷ old) more [] tell = absurd (never_none s (old ++ more) tell)
tell_parts (s ∷ old) more (a ∷ tables) tell =
    parts_push s old more a tables (first_tells s (old ++ more) a tables tell) (tell_parts old more tables (others_tell s (old ++ more) a tables tell))

-- what holds of those in front, and what of the others
pub told_append : (old new more now : List KeeperState) (P Q R : Tables → Tables → Type 0)
    → ((before after later last : Tables) → P before after → Q later last → R (before ++ later) (after ++ last))
    → WhereTold old new P → WhereTold more now Q → WhereTold (old ++ more) (new ++ now) R
told_append old new more now P Q R follows first then tables tell =
    let parts = tell_parts new now tables tell in
    let was = first parts.front parts.first in
    let were = then parts.behind parts.rest in
    (was.0 ++ were.0, tell_append old more was.0 were.0 was.1 were.1, subst (R (was.0 ++ were.0)) (sym parts.is) (follows was.0 parts.front were.0 parts.behind was.2 were.2))

-- ---- keepers of which some are put in their places

-- where one is, and this holds of what it held and holds
pub told_set : (old : List KeeperState) (place : ℕ) (new none : KeeperState) (P : Held → Held → Type 0) (Q : Tables → Tables → Type 0) → place < length old
    → WhereReported (get_or old place none).held new.held P
    → ((before : Tables) (now : Held) → P (held_at place before) now → Q before (set before place now)) → WhereTold old (set old place new) Q
told_set [] place new none P Q lt is follows after tell = absurd (omega arith)
told_set (s ∷ old) zero new none P Q lt is follows [] tell = absurd (never_none new old tell)
told_set (s ∷ old) zero new none P Q lt is follows (a ∷ after) tell =
    let was = held_before s new P a is (first_tells new old a after tell) in
    (was.held ∷ after, all_tell s old was.held after was.is (others_tell new old a after tell), follows (was.held ∷ after) a was.holds)
told_set (s ∷ old) (suc place) new none P Q lt is follows [] tell = absurd (never_none s (set old place new) tell)
told_set (s ∷ old) (suc place) new none P Q lt is follows (a ∷ after) tell =
    let others : List KeeperState = set old place new in
    let was = told_set old place new none P (λ before after. Q (a ∷ before) (a ∷ after)) (omega arith) is (λ before now holds. follows (a ∷ before) now holds) after (others_tell s others a after tell) in
    (a ∷ was.0, all_tell s old a was.0 (first_tells s others a after tell) was.1, was.2)

-- where two are
pub told_both : (old : List KeeperState) (at peer : ℕ) (here there none : KeeperState) (P : Held → Held → Held → Held → Type 0) (Q : Tables → Tables → Type 0)
    → at < length old → peer < length old → at ≢ peer
    → WhereReported (get_or old at none).held here.held (λ own mine. WhereReported (get_or old peer none).held there.held (λ from left. P own mine from left))
    → ((before : Tables) (mine left : Held) → P (held_at at before) mine (held_at peer before) left → Q before (set (set before at mine) peer left))
    → WhereTold old (set (set old at here) peer there) Q
told_both [] at peer here there none P Q lt peer_lt apart is follows after tell = absurd (omega arith)
told_both (s ∷ old) zero zero here there none P Q lt peer_lt apart is follows after tell = absurd (apart refl)
told_both (s ∷ old) zero (suc peer) here there none P Q lt peer_lt apart is follows [] tell = absurd (never_none here (set old peer there) tell)
told_both (s ∷ old) zero (suc peer) here there none P Q lt peer_lt apart is follows (a ∷ after) tell =
    let others : List KeeperState = set old peer there in
    let own = held_before s here (λ own mine. WhereReported (get_or old peer none).held there.held (P own mine)) a is (first_tells here others a after tell) in
    let was = told_set old peer there none (P own.held a) (λ before after. Q (own.held ∷ before) (a ∷ after)) (omega arith) own.holds
    (λ before left holds. follows (own.held ∷ before) a left holds) after (others_tell here others a after tell) in
    (own.held ∷ was.0, all_tell s old own.held was.0 own.is was.1, was.2)
told_both (s ∷ old) (suc at) zero here there none P Q lt peer_lt apart is follows [] tell = absurd (never_none there (set old at here) tell)
told_both (s ∷ old) (suc at) zero here there none P Q lt peer_lt apart is follows (a ∷ after) tell =
    let others : List KeeperState = set old at here in
    let From : Held → Held → Type 0 = λ own mine. HeldSo s (λ from. P own mine from a) in
    let was = told_set old at here none From (λ before after. HeldSo s (λ from. Q (from ∷ before) (a ∷ after))) (omega arith)
    (reported_so (get_or old at none).held here.held (λ own mine. WhereReported s.held there.held (P own mine)) From
    (λ own mine both. held_before s there (P own mine) a both (first_tells there others a after tell)) is)
    (λ before mine from. record { held = from.held; is = from.is; holds = follows (from.held ∷ before) mine a from.holds }) after (others_tell there others a after tell) in
    (was.2.held ∷ was.0, all_tell s old was.2.held was.0 was.2.is was.1, was.2.holds)
told_both (s ∷ old) (suc at) (suc peer) here there none P Q lt peer_lt apart is follows [] tell = absurd (never_none s (set (set old at here) peer there) tell)
told_both (s ∷ old) (suc at) (suc peer) here there none P Q lt peer_lt apart is follows (a ∷ after) tell =
    let others : List KeeperState = set (set old at here) peer there in
    let was = told_both old at peer here there none P (λ before after. Q (a ∷ before) (a ∷ after)) (omega arith) (omega arith) (λ same. apart (ap suc same)) is
    (λ before mine left holds. follows (a ∷ before) mine left holds) after (others_tell s others a after tell) in
    (a ∷ was.0, all_tell s old a was.0 (first_tells s others a after tell) was.1, was.2)

-- the same of two keepers that met
pub told_lent : (old new : List KeeperState) (at peer : ℕ) (Meet : KeeperState → KeeperState → KeeperState → KeeperState → Type 0) (P : Held → Held → Held → Held → Type 0) (Q : Tables → Tables → Type 0)
    → at < length old → peer < length old → at ≢ peer → Lends at peer old new Meet
    → ((own here from there : KeeperState) → Meet own here from there → WhereReported own.held here.held (λ own mine. WhereReported from.held there.held (λ from left. P own mine from left)))
    → ((before : Tables) (mine left : Held) → P (held_at at before) mine (held_at peer before) left → Q before (set (set before at mine) peer left))
    → WhereTold old new Q
told_lent old new at peer Meet P Q lt peer_lt apart lends meets follows =
    subst (λ news. WhereTold old news Q) (sym lends.new_is)
    (told_both old at peer lends.here lends.there (state None 0) P Q lt peer_lt apart (meets _ _ _ _ lends.met) follows)

-- ---- what each holds stays

-- so what all report is what they reported
pub kept_told : (old new : List KeeperState) → AreKept old new → WhereTold old new (λ before after. after ≡ before)
kept_told [] [] kept after tell = (after, tell, refl)
kept_told [] (t ∷ new) kept after tell = absurd kept
kept_told (s ∷ old) [] kept after tell = absurd kept
kept_told (s ∷ old) (t ∷ new) kept [] tell = absurd (never_none t new tell)
kept_told (s ∷ old) (t ∷ new) kept (a ∷ after) tell =
    let first = held_before s t (λ held now. now ≡ held) a kept.0.held (first_tells t new a after tell) in
    let rest = kept_told old new kept.1 after (others_tell t new a after tell) in
    (first.held ∷ rest.0, all_tell s old first.held rest.0 first.is rest.1, ap (λ held. held ∷ after) first.holds ∙ ap (λ tables. first.held ∷ tables) rest.2)
