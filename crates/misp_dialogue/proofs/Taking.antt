-- What a sink takes of a dialogue, request by request.
use Rattle.std.proofs.Common.{◌≡◌, ◌⊎◌, ◌∙◌, zero, suc, List, [], ◌∷◌, Option, Some, Result, Ok, Err, refl, sym, ap, subst, inl, inr}
use Rattle.misp_dialogue.specs.Conversed.{ended}
use Rattle.misp_dialogue.specs.Course.{ByStates, Course, EndsAt, Fits, IsAnswerBy, NextFits, by_sink, by_source, course, gone, stepped}
use Rattle.misp_dialogue.specs.Dialogue.{Dialogue, Over, Ask}
use Rattle.misp_dialogue.specs.Parties.{Conduct, PartyState}
use Rattle.misp_dialogue.specs.Taking.{At, Batching, OneMore, Takes, TookFirst, tally_all}
use Rattle.misp_dialogue.specs.declared.ending.Ending.{Ending}
use Rattle.misp_dialogue.specs.declared.side.Side.{Side}

module _ {HA HB Q R N C B : Type 0} (ka : Conduct HA Q R C) (kb : Conduct HB Q R C) (b : Batching HB N B) where
  -- ---- one request

  pub over : (n : N) (why : Option C) (s : HA) (t : HB) → Takes ka kb b (Over n why) s t n [] why
  over n why s t zero fit = record {
    first = [];
    later = [];
    all_is = refl;
    fits = tt;
    source = refl;
    sink = refl;
    count = refl;
    whole = λ end is. (refl, is);
    next_source = refl;
    next_sink = λ next. inl refl;
  }
  over n why s t (suc k) fit = over n why s t k fit.1

  -- nothing is taken yet, where a request is made
  asking : (n : N) (side : Side) (q : Q) (more : R → Dialogue Q R N C) (s : HA) (t : HB) (all : List B) (why : Option C)
      → (stepped ka kb (Ask n side q more) s t).source ≡ s
      → (NextFits ka kb (Ask n side q more) → ((stepped ka kb (Ask n side q more) s t).sink ≡ t)
      ⊎ OneMore b t all (stepped ka kb (Ask n side q more) s t).sink)
      → At ka kb b s t n all why (course (Ask n side q more) s t)
  asking n side q more s t all why a c = record {
    first = [];
    later = all;
    all_is = refl;
    fits = tt;
    source = refl;
    sink = refl;
    count = refl;
    whole = λ end is. absurd is;
    next_source = a;
    next_sink = c;
  }

  -- what the answer of the source, or of the sink, leads to
  module _ (n : N) (more : R → Dialogue Q R N C) (s : HA) (t : HB) where
    source_still : (x : Result (R × HA) C) → (by_source {HB = HB} n more s t x).sink ≡ t
    source_still (Ok x) = refl
    source_still (Err cause) = refl

    sink_still : (x : Result (R × HB) C) → (by_sink {HA = HA} n more s t x).source ≡ s
    sink_still (Ok x) = refl
    sink_still (Err cause) = refl

    pub source_kept : (x : Result (R × HA) C) (reply : R) → x ≡ Ok (reply, s) → (by_source {HB = HB} n more s t x).source ≡ s
    source_kept x reply is = subst (λ x. (by_source {HB = HB} n more s t x).source ≡ s) (sym is) refl

    sink_to : (x : Result (R × HB) C) (reply : R) (t1 : HB) → x ≡ Ok (reply, t1) → (by_sink {HA = HA} n more s t x).sink ≡ t1
    sink_to x reply t1 is = subst (λ x. (by_sink {HA = HA} n more s t x).sink ≡ t1) (sym is) refl

  -- the source replies, and nothing is taken
  pub asked : (n : N) (q : Q) (more : R → Dialogue Q R N C) (reply : R) (s : HA) (t : HB) (all : List B) (why : Option C)
      → ka.answer s q ≡ Ok (reply, s) → (ka.IsAskable q → ka.IsHeld s → ka.IsSound reply → Takes ka kb b (more reply) s t n all why)
      → Takes ka kb b (Ask n Side.Source q more) s t n all why
  asked n q more reply s t all why is takes zero fit =
      asking n Side.Source q more s t all why (source_kept n more s t _ reply is) (λ next. inl (source_still n more s t _))
  asked n q more reply s t all why is takes (suc k) fit =
      let there : Fits ka kb k (course (more reply) s t) = subst (λ x. Fits ka kb k (by_source n more s t x)) is fit.1 in
      let sound : ka.IsHeld s × ka.IsSound reply = subst (IsAnswerBy (λ r. ka.IsHeld s × ka.IsSound r)) is fit.0.1 in
      subst (λ x. At ka kb b s t n all why (gone ka kb k (by_source n more s t x))) (sym is) (takes fit.0.0 sound.0 sound.1 k there)

  -- the sink replies, and nothing is taken
  pub looked : (n : N) (q : Q) (more : R → Dialogue Q R N C) (reply : R) (s : HA) (t : HB) (all : List B) (why : Option C)
      → kb.answer t q ≡ Ok (reply, t) → (kb.IsAskable q → kb.IsHeld t → kb.IsSound reply → Takes ka kb b (more reply) s t n all why)
      → Takes ka kb b (Ask n Side.Sink q more) s t n all why
  looked n q more reply s t all why is takes zero fit =
      asking n Side.Sink q more s t all why (sink_still n more s t _) (λ next. inl (sink_to n more s t _ reply t is))
  looked n q more reply s t all why is takes (suc k) fit =
      let there : Fits ka kb k (course (more reply) s t) = subst (λ x. Fits ka kb k (by_sink n more s t x)) is fit.1 in
      let sound : kb.IsHeld t × kb.IsSound reply = subst (IsAnswerBy (λ r. kb.IsHeld t × kb.IsSound r)) is fit.0.1 in
      subst (λ x. At ka kb b s t n all why (gone ka kb k (by_sink n more s t x))) (sym is) (takes fit.0.0 sound.0 sound.1 k there)

  -- a party refuses, and that ends it
  pub source_refused : (n : N) (q : Q) (more : R → Dialogue Q R N C) (cause : C) (s : HA) (t : HB)
      → ka.answer s q ≡ Err cause → Takes ka kb b (Ask n Side.Source q more) s t n [] (Some cause)
  source_refused n q more cause s t is zero fit =
      let P : Result (R × HA) C → Type 0 = λ x. (by_source {HB = HB} n more s t x).source ≡ s in
      asking n Side.Source q more s t [] (Some cause) (subst P (sym is) refl) (λ next. inl (source_still n more s t _))
  source_refused n q more cause s t is (suc k) fit =
      let there : Fits ka kb k (course (Over n (Some cause)) s t) = subst (λ x. Fits ka kb k (by_source n more s t x)) is fit.1 in
      subst (λ x. At ka kb b s t n [] (Some cause) (gone ka kb k (by_source n more s t x))) (sym is) (over n (Some cause) s t k there)

  pub sink_refused : (n : N) (q : Q) (more : R → Dialogue Q R N C) (cause : C) (s : HA) (t : HB)
      → kb.answer t q ≡ Err cause → Takes ka kb b (Ask n Side.Sink q more) s t n [] (Some cause)
  sink_refused n q more cause s t is zero fit =
      let P : Result (R × HB) C → Type 0 = λ x. (by_sink {HA = HA} n more s t x).sink ≡ t in
      asking n Side.Sink q more s t [] (Some cause) (sink_still n more s t _) (λ next. inl (subst P (sym is) refl))
  sink_refused n q more cause s t is (suc k) fit =
      let there : Fits ka kb k (course (Over n (Some cause)) s t) = subst (λ x. Fits ka kb k (by_sink n more s t x)) is fit.1 in
      subst (λ x. At ka kb b s t n [] (Some cause) (gone ka kb k (by_sink n more s t x))) (sym is) (over n (Some cause) s t k there)

  -- with a batch before
  pub behind : (s : HA) (t : HB) (one : B) (n : N) (all : List B) (why : Option C) (c : Course HA HB Q R N C) → b.IsBatch one
      → At ka kb b s (b.put one t) (b.tally n one) all why c → At ka kb b s t n (one ∷ all) why c
  behind s t one n all why c fit a = record {
    first = one ∷ a.first;
    later = a.later;
    all_is = ap (λ xs. one ∷ xs) a.all_is;
    fits = (fit, a.fits);
    source = a.source;
    sink = a.sink;
    count = a.count;
    whole = a.whole;
    next_source = a.next_source;
    next_sink = a.next_sink;
  }

  -- the sink takes a batch
  pub took : (n : N) (q : Q) (more : R → Dialogue Q R N C) (reply : R) (one : B) (s : HA) (t : HB) (all : List B) (why : Option C)
      → kb.answer t q ≡ Ok (reply, b.put one t) → (kb.IsAskable q → b.IsBatch one)
      → (kb.IsAskable q → kb.IsHeld t → kb.IsSound reply → Takes ka kb b (more reply) s (b.put one t) (b.tally n one) all why)
      → Takes ka kb b (Ask n Side.Sink q more) s t n (one ∷ all) why
  took n q more reply one s t all why is fits takes zero fit =
      asking n Side.Sink q more s t (one ∷ all) why (sink_still n more s t _)
      (λ next. inr (record { one = one; rest = all; later_is = refl; new_is = sink_to n more s t _ reply _ is; fits = fits next }))
  took n q more reply one s t all why is fits takes (suc k) fit =
      let there : Fits ka kb k (course (more reply) s (b.put one t)) = subst (λ x. Fits ka kb k (by_sink n more s t x)) is fit.1 in
      let sound : kb.IsHeld t × kb.IsSound reply = subst (IsAnswerBy (λ r. kb.IsHeld t × kb.IsSound r)) is fit.0.1 in
      subst (λ x. At ka kb b s t n (one ∷ all) why (gone ka kb k (by_sink n more s t x))) (sym is)
      (behind s t one n all why _ (fits fit.0.0) (takes fit.0.0 sound.0 sound.1 k there))

  -- ---- the whole

  same_told : {H : Type 0} (x : Option H) (a c : H) → x ≡ Some a → a ≡ c → x ≡ Some c
  same_told x a c is same = is ∙ ap (λ y. Some y) same

  module _ (memory : C) (s : HA) (t : HB) (n : N) (all : List B) (why : Option C) (new : PartyState HA × PartyState HB)
      (ending : Ending N C) where
    took_at : (d : Dialogue Q R N C) (s1 : HA) (t1 : HB) → At ka kb b s t n all why (course d s1 t1)
        → EndsAt memory ka kb d s1 t1 new ending → TookFirst memory ka kb b s t n all why new ending
    took_at (Over m end) s1 t1 a e =
        let w = a.whole end refl in record {
          first = a.first;
          later = a.later;
          all_is = a.all_is;
          fits = a.fits;
          source = same_told _ s1 s e.1.0 a.source;
          ends = inl (
            w.0,
            e.0 ∙ (ap (λ m. ended m end) a.count ∙ ap (λ x. ended (tally_all b n a.first) x) w.1),
            same_told _ t1 _ e.1.1 a.sink,
          );
        }
    took_at (Ask m Side.Source q more) s1 t1 a (cause, told, inl e) = record {
      first = a.first;
      later = a.later;
      all_is = a.all_is;
      fits = a.fits;
      source = same_told _ s1 s e.1.0 a.source;
      ends = inr (
        cause,
        told ∙ ap (λ m. Ending.Stopped m cause) a.count,
        inl (elim e.0 [ inl x ↦ inl x | inr x ↦ inr (inl x) ], same_told _ t1 _ e.1.1 a.sink),
      );
    }
    took_at (Ask m Side.Source q more) s1 t1 a (cause, told, inr e) = record {
      first = a.first;
      later = a.later;
      all_is = a.all_is;
      fits = a.fits;
      source = same_told _ _ s e.2.0 a.next_source;
      ends = inr (
        cause,
        told ∙ ap (λ m. Ending.Stopped m cause) a.count,
        inl (inr (inr (inr e.0)), same_told _ _ _ e.2.1 (source_still m more s1 t1 (ka.answer s1 q) ∙ a.sink)),
      );
    }
    took_at (Ask m Side.Sink q more) s1 t1 a (cause, told, inl e) = record {
      first = a.first;
      later = a.later;
      all_is = a.all_is;
      fits = a.fits;
      source = same_told _ s1 s e.1.0 a.source;
      ends = inr (
        cause,
        told ∙ ap (λ m. Ending.Stopped m cause) a.count,
        inl (elim e.0 [ inl x ↦ inl x | inr x ↦ inr (inr (inl x)) ], same_told _ t1 _ e.1.1 a.sink),
      );
    }
    took_at (Ask m Side.Sink q more) s1 t1 a (cause, told, inr e) = record {
      first = a.first;
      later = a.later;
      all_is = a.all_is;
      fits = a.fits;
      source = same_told _ _ s e.2.0 a.next_source;
      ends = inr (
        cause,
        told ∙ ap (λ m. Ending.Stopped m cause) a.count,
        inr (
          e.0,
          (
            (stepped ka kb (Ask m Side.Sink q more) s1 t1).sink,
            e.2.1,
            elim (a.next_sink e.1) [
              | inl same ↦ inl (same ∙ a.sink)
              | inr one ↦ inr (subst (λ x. OneMore b x a.later (stepped ka kb (Ask m Side.Sink q more) s1 t1).sink) a.sink one)
            ],
          ),
        ),
      );
    }

    pub took_first : (d : Dialogue Q R N C) → Takes ka kb b d s t n all why → ByStates memory ka kb d s t new ending
        → TookFirst memory ka kb b s t n all why new ending
    took_first d takes by =
        let c = gone ka kb by.count (course d s t) in
        took_at c.rest c.source c.sink (takes by.count by.fits) by.ends
