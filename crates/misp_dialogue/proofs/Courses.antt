-- What any dialogue that was held comes to.
use Rattle.std.proofs.Common.{◌≡◌, ◌∙◌, suc, List, [], ◌∷◌, Option, None, Some, Result, Err, refl, sym, ap, subst, inl, inr}
use Rattle.std.specs.List.{AllByRecursion}
use Rattle.misp_dialogue.specs.Conversed.{Conversed, Ends, Replied, after, between}
use Rattle.misp_dialogue.specs.Course.{ByStates, Course, EndsAt, Fits, IsAnswerBy, Hold, HoldAt, by_sink, by_source, gone}
use Rattle.misp_dialogue.specs.Dialogue.{Dialogue, Over, Ask}
use Rattle.misp_outside.proofs.Reporting.{reported_at}
use Rattle.misp_dialogue.specs.Parties.{Conduct, PartyState}
use Rattle.misp_dialogue.specs.Shares.{ByReplies, EndsBy, IfAsked, IsFit, Keeps, failure, share}
use Rattle.misp_dialogue.specs.declared.ending.Ending.{Ending}
use Rattle.misp_dialogue.specs.declared.side.Side.{Side}
use Rattle.misp_dialogue.proofs.Chains.{Chain, Lasts, shared}

holds : {HA HB : Type 0} (new : PartyState HA × PartyState HB) (s1 : HA) (t1 : HB) → new.0.held ≡ Some s1 → new.1.held ≡ Some t1
    → (s : HA) (t : HB) → s1 ≡ s → t1 ≡ t → Hold new s t
holds new s1 t1 source_is sink_is s t a b = (source_is ∙ ap (λ x. Some x) a, sink_is ∙ ap (λ x. Some x) b)

module _ {HA HB Q R N C : Type 0} (memory : C) (ka : Conduct HA Q R C) (kb : Conduct HB Q R C) where
  -- ---- party by party

  source_chain : (d : Dialogue Q R N C) (old mid : PartyState HA × PartyState HB) (rs : List R)
      → Replied (between ka kb) d old rs mid → Chain ka (share Side.Source d rs) old.0 mid.0
  source_chain d old mid [] is = ap (λ w. w.0) is
  source_chain (Over n why) old mid (r ∷ rs) is = absurd is
  source_chain (Ask n Side.Source q more) old mid (r ∷ rs) is =
      (is.0.0, is.1.0, source_chain (more r) is.0 mid rs is.2)
  source_chain (Ask n Side.Sink q more) old mid (r ∷ rs) is =
      subst (λ w. Chain ka (share Side.Source (more r) rs) w mid.0) is.1.1 (source_chain (more r) is.0 mid rs is.2)

  sink_chain : (d : Dialogue Q R N C) (old mid : PartyState HA × PartyState HB) (rs : List R)
      → Replied (between ka kb) d old rs mid → Chain kb (share Side.Sink d rs) old.1 mid.1
  sink_chain d old mid [] is = ap (λ w. w.1) is
  sink_chain (Over n why) old mid (r ∷ rs) is = absurd is
  sink_chain (Ask n Side.Sink q more) old mid (r ∷ rs) is =
      (is.0.1, is.1.0, sink_chain (more r) is.0 mid rs is.2)
  sink_chain (Ask n Side.Source q more) old mid (r ∷ rs) is =
      subst (λ w. Chain kb (share Side.Sink (more r) rs) w mid.1) is.1.1 (sink_chain (more r) is.0 mid rs is.2)

  -- the cause with which the last request was refused or stopped, and what that is of each party
  record Ended (d : Dialogue Q R N C) (mid new : PartyState HA × PartyState HB) (ending : Ending N C)
      : Type 0 where
    last : Option C
    source : Lasts ka (failure Side.Source d last) mid.0 new.0
    sink : Lasts kb (failure Side.Sink d last) mid.1 new.1
    ends : EndsBy memory d last ending

  lasts : (d : Dialogue Q R N C) (mid new : PartyState HA × PartyState HB) (ending : Ending N C)
      → Ends memory (between ka kb) d mid new ending → Ended d mid new ending
  lasts (Over n why) mid new ending e =
      record { last = None; source = ap (λ w. w.0) e.0; sink = ap (λ w. w.1) e.0; ends = e.1 }
  lasts (Ask n side q more) mid new ending (inr e) =
      record { last = None; source = ap (λ w. w.0) e.0; sink = ap (λ w. w.1) e.0; ends = e.1 }
  lasts (Ask n Side.Source q more) mid new ending (inl e) =
      record { last = Some e.0; source = e.1.0; sink = e.1.1; ends = e.2 }
  lasts (Ask n Side.Sink q more) mid new ending (inl e) =
      record { last = Some e.0; source = e.1.1; sink = e.1.0; ends = e.2 }

  pub by_replies : (d : Dialogue Q R N C) (old new : PartyState HA × PartyState HB) (ending : Ending N C)
      → Conversed memory (between ka kb) d old new ending → ByReplies memory ka kb d old new ending
  by_replies d old new ending held =
      let l = lasts (after d held.replies) held.mid new ending held.ends in
      record {
        replies = held.replies;
        last = l.last;
        source = shared ka _ _ old.0 held.mid.0 new.0 (source_chain d old held.mid held.replies held.replied) l.source;
        sink = shared kb _ _ old.1 held.mid.1 new.1 (sink_chain d old held.mid held.replies held.replied) l.sink;
        ends = l.ends;
      }

  -- ---- by what both hold

  -- what the shares say of requests and replies, from here on
  record Fitting (d : Dialogue Q R N C) (rs : List R) (last : Option C) : Type 0 where
    source : AllByRecursion (IsFit ka) (share Side.Source d rs)
    sink : AllByRecursion (IsFit kb) (share Side.Sink d rs)
    source_last : IfAsked ka.IsAskable (failure Side.Source (after d rs) last)
    sink_last : IfAsked kb.IsAskable (failure Side.Sink (after d rs) last)

  module _ (new : PartyState HA × PartyState HB) (s1 : HA) (t1 : HB)
      (source_is : new.0.held ≡ Some s1) (sink_is : new.1.held ≡ Some t1) where
    -- it ended where the dialogue is so far
    abbrev EndsIn : Ending N C → Course HA HB Q R N C → Type 0
    EndsIn ending c = EndsAt memory ka kb c.rest c.source c.sink new ending

    source_refused : (n : N) (q : Q) (more : R → Dialogue Q R N C) (cause : C) (s : HA) (t : HB) (ending : Ending N C)
        → ka.IsAskable q → ka.answer s q ≡ Err cause → s1 ≡ s → t1 ≡ t → ending ≡ Ending.Stopped n cause
        → ByStates memory ka kb (Ask n Side.Source q more) s t new ending
    source_refused n q more cause s t ending fit is a b e = record {
      count = 1;
      fits = ((fit, subst (IsAnswerBy (λ r. ka.IsHeld s × ka.IsSound r)) (sym is) tt), tt);
      ends = subst (λ x. EndsIn ending (by_source n more s t x)) (sym is) (e, holds new s1 t1 source_is sink_is s t a b);
    }

    sink_refused : (n : N) (q : Q) (more : R → Dialogue Q R N C) (cause : C) (s : HA) (t : HB) (ending : Ending N C)
        → kb.IsAskable q → kb.answer t q ≡ Err cause → s1 ≡ s → t1 ≡ t → ending ≡ Ending.Stopped n cause
        → ByStates memory ka kb (Ask n Side.Sink q more) s t new ending
    sink_refused n q more cause s t ending fit is a b e = record {
      count = 1;
      fits = ((fit, subst (IsAnswerBy (λ r. kb.IsHeld t × kb.IsSound r)) (sym is) tt), tt);
      ends = subst (λ x. EndsIn ending (by_sink n more s t x)) (sym is) (e, holds new s1 t1 source_is sink_is s t a b);
    }

    at_end : (d : Dialogue Q R N C) (last : Option C) (s : HA) (t : HB) (ending : Ending N C)
        → Keeps ka [] (failure Side.Source d last) s s1 → Keeps kb [] (failure Side.Sink d last) t t1
        → Fitting d [] last → EndsBy memory d last ending → ByStates memory ka kb d s t new ending
    at_end (Over n why) None s t ending a b f e =
        record { count = 0; fits = tt; ends = (e, holds new s1 t1 source_is sink_is s t a b) }
    at_end (Over n why) (Some cause) s t ending a b f e = absurd e
    at_end (Ask n side q more) None s t ending a b f e =
        record { count = 0; fits = tt; ends = (memory, e, inl (inl refl, holds new s1 t1 source_is sink_is s t a b)) }
    at_end (Ask n Side.Source q more) (Some cause) s t ending (inl a) b f e =
        elim a.1 [
          | inl is ↦ source_refused n q more cause s t ending f.source_last is a.0 b e
          | inr stop ↦ record { count = 0; fits = tt; ends = (cause, e, inl (inr stop, holds new s1 t1 source_is sink_is s t a.0 b)) }
        ]
    at_end (Ask n Side.Source q more) (Some cause) s t ending (inr lost) b f e =
        let P : Result (R × HA) C → Type 0 = λ x. HoldAt new (by_source n more s t x) in
        record { count = 0; fits = tt; ends = (cause, e, inr (lost.0, f.source_last, subst P (sym lost.1.1) (holds new s1 t1 source_is sink_is s1 t refl b))) }
    at_end (Ask n Side.Sink q more) (Some cause) s t ending a (inl b) f e =
        elim b.1 [
          | inl is ↦ sink_refused n q more cause s t ending f.sink_last is a b.0 e
          | inr stop ↦ record { count = 0; fits = tt; ends = (cause, e, inl (inr stop, holds new s1 t1 source_is sink_is s t a b.0)) }
        ]
    at_end (Ask n Side.Sink q more) (Some cause) s t ending a (inr lost) f e =
        let P : Result (R × HB) C → Type 0 = λ x. HoldAt new (by_sink n more s t x) in
        record { count = 0; fits = tt; ends = (cause, e, inr (lost.0, f.sink_last, subst P (sym lost.1.1) (holds new s1 t1 source_is sink_is s t1 a refl))) }

    going : (d : Dialogue Q R N C) (rs : List R) (last : Option C) (s : HA) (t : HB) (ending : Ending N C)
        → Keeps ka (share Side.Source d rs) (failure Side.Source (after d rs) last) s s1
        → Keeps kb (share Side.Sink d rs) (failure Side.Sink (after d rs) last) t t1
        → Fitting d rs last → EndsBy memory (after d rs) last ending → ByStates memory ka kb d s t new ending
    going d [] last s t ending a b f e = at_end d last s t ending a b f e
    going (Over n why) (r ∷ []) last s t ending a b f e =
        at_end (Over n why) last s t ending a b
        (record { source = tt; sink = tt; source_last = f.source_last; sink_last = f.sink_last }) e
    going (Over n why) (r ∷ x ∷ rs) last s t ending a b f e =
        going (Over n why) (x ∷ rs) last s t ending a b
        (record { source = tt; sink = tt; source_last = f.source_last; sink_last = f.sink_last }) e
    going (Ask n Side.Source q more) (r ∷ rs) last s t ending a b f e =
        let rest : Fitting (more r) rs last =
        record { source = f.source.1; sink = f.sink; source_last = f.source_last; sink_last = f.sink_last } in
        let w = going (more r) rs last a.0 t ending a.3 b rest e in
        let P : Result (R × HA) C → Type 0 = λ x. EndsIn ending (gone ka kb w.count (by_source n more s t x)) in
        let F : Result (R × HA) C → Type 0 = λ x. Fits ka kb w.count (by_source n more s t x) in
        record {
          count = suc w.count;
          fits = ((f.source.0.0, subst (IsAnswerBy (λ r. ka.IsHeld s × ka.IsSound r)) (sym a.2) (a.1, f.source.0.1)), subst F (sym a.2) w.fits);
          ends = subst P (sym a.2) w.ends;
        }
    going (Ask n Side.Sink q more) (r ∷ rs) last s t ending a b f e =
        let rest : Fitting (more r) rs last =
        record { source = f.source; sink = f.sink.1; source_last = f.source_last; sink_last = f.sink_last } in
        let w = going (more r) rs last s b.0 ending a b.3 rest e in
        let P : Result (R × HB) C → Type 0 = λ x. EndsIn ending (gone ka kb w.count (by_sink n more s t x)) in
        let F : Result (R × HB) C → Type 0 = λ x. Fits ka kb w.count (by_sink n more s t x) in
        record {
          count = suc w.count;
          fits = ((f.sink.0.0, subst (IsAnswerBy (λ r. kb.IsHeld t × kb.IsSound r)) (sym b.2) (b.1, f.sink.0.1)), subst F (sym b.2) w.fits);
          ends = subst P (sym b.2) w.ends;
        }

  pub by_states : (d : Dialogue Q R N C) (old new : PartyState HA × PartyState HB) (ending : Ending N C)
      (s s1 : HA) (t t1 : HB) → ByReplies memory ka kb d old new ending
      → old.0.held ≡ Some s → old.1.held ≡ Some t → new.0.held ≡ Some s1 → new.1.held ≡ Some t1
      → ByStates memory ka kb d s t new ending
  by_states d old new ending s s1 t t1 by a b a1 b1 =
      going new s1 t1 a1 b1 d by.replies by.last s t ending
      (reported_at old.0.held new.0.held _ s s1 a a1 by.source.held)
      (reported_at old.1.held new.1.held _ t t1 b b1 by.sink.held)
      (record { source = by.source.fits; sink = by.sink.fits; source_last = by.source.askable; sink_last = by.sink.askable }) by.ends
