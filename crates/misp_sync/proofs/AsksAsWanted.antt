-- A pull that is done has asked for what was wanted of each part of the manifest.
use Rattle.std.proofs.Common.{◌≡◌, ℕ, List, [], ◌∷◌, Option, Some, None, Result, Ok, Err, ap, length, refl, subst, sym, ◌∙◌}
use Rattle.misp_ids.specs.declared.label.Direction.{Direction}
use Rattle.misp_manifest.specs.declared.wanted.WantedFields.{WantedFields as Wanted}
use Rattle.misp_orgs.specs.declared.link.Link.{Link}
use Rattle.misp_model.specs.declared.package.PackageFields.{PackageFields as Package}
use Rattle.misp_store.specs.declared.reach.Reach.{Reach}
use Rattle.misp_core.specs.Prelude.{Group, Held, Host, Row, Standing, host_of, seen_in}
use Rattle.misp_dialogue.specs.Conversed.{after}
use Rattle.misp_dialogue.specs.Dialogue.{Ask, Over}
use Rattle.misp_outside.specs.Reporting.{WhereReported}
use Rattle.misp_dialogue.specs.Shares.{EndsBy, Keeps, failure, share}
use Rattle.misp_dialogue.specs.declared.ending.Ending.{Ending}
use Rattle.misp_dialogue.specs.declared.side.Side.{Side}
use Rattle.misp_protocol.specs.Counts.{no_tally, with_groups, with_taken}
use Rattle.misp_protocol.specs.Text.{Text, asking, counting, fetching, grouped, groups_in, lacking, listed, listing, manifest_in, packed, part_in, reads, synchronising, taken_in, taking, taking_groups, through}
use Rattle.misp_protocol.specs.declared.cause.Body.{Body}
use Rattle.misp_protocol.specs.declared.cause.Cause.{Cause}
use Rattle.misp_protocol.specs.declared.count.SyncCount.{SyncCount}
use Rattle.misp_protocol.specs.declared.count.Tally.{Tally}
use Rattle.misp_protocol.specs.declared.part_keys.PartKeysFields.{PartKeysFields as PartKeys}
use Rattle.misp_protocol.specs.declared.request.Answer.{Answer}
use Rattle.misp_protocol.specs.declared.request.Request.{Request}
use Rattle.misp_wanted.specs.Wanting.{wanted_keys}
use Rattle.misp_sync.specs.Laws.{AsksAsWanted, AsksInTurn, AsksThen, Asked}
use Rattle.misp_sync.specs.OwnAnswers.{over_rows, own_answer, own_conduct, wanted_list}
use Rattle.misp_sync.specs.Synchronised.{IsCourse, reply_of_ending}
use Rattle.misp_sync.specs.declared.reply.SyncReply.{SyncReply}

-- ---- what is read

groups_are : (a : Answer) (groups : List Group) → groups_in a ≡ Some groups → a ≡ Answer.Groups groups
groups_are (Answer.Groups gs) groups is = let same : gs ≡ groups = cc in λ i. Answer.Groups (same i)
groups_are a groups is = absurd cc

parts_are : (a : Answer) (ks : List PartKeys) → manifest_in a ≡ Some ks → a ≡ Answer.Manifest ks
parts_are (Answer.Manifest parts) ks is = let same : parts ≡ ks = cc in λ i. Answer.Manifest (same i)
parts_are a ks is = absurd cc

package_is : (a : Answer) (p : Package) → part_in a ≡ Some p → a ≡ Answer.Part p
package_is (Answer.Part q) p is = let same : q ≡ p = cc in λ i. Answer.Part (same i)
package_is a p is = absurd cc

-- ---- texts that are over

abbrev end_of : Tally → Option Cause → Text
end_of n why = Over n why

share_over : (side : Side) (n : Tally) (why : Option Cause) (rs : List Answer) → share side (end_of n why) rs ≡ []
share_over side n why [] = refl
share_over side n why (a ∷ rs) = refl

after_over : (n : Tally) (why : Option Cause) (rs : List Answer) → after (end_of n why) rs ≡ end_of n why
after_over n why [] = refl
after_over n why (a ∷ rs) = after_over n why rs

-- what there is where it is there
abbrev ok_of : {A E : Type 0} → A → Result A E → A
ok_of d (Ok x) = x
ok_of d (Err e) = d

-- ---- a text that is done, and how it went on

module _ (here : Host) (link : Link) (last : Option Cause) (new : Held) where
  -- it is done
  abbrev Ends : Text → Type 0
  Ends d = (m : Tally) × EndsBy Cause.NoMemory d last (Ending.Done m)

  -- these answers bring what the sink holds to what it holds in the end, and it is done
  pub record Runs (t : Text) (rs : List Answer) (held : Held) : Type 0 where
    pub keeps : Keeps (own_conduct (here, link)) (share Side.Sink t rs) (failure Side.Sink (after t rs) last) held new
    pub ends : Ends (after t rs)

  asks_more : (l : Option Cause) (n m : Tally) (side : Side) (q : Request) (more : Answer → Text) → EndsBy Cause.NoMemory (Ask n side q more) l (Ending.Done m) → ⊥
  asks_more None n m side q more e = absurd cc
  asks_more (Some c) n m side q more e = absurd cc

  over_so : (l : Option Cause) (n m : Tally) (why : Option Cause) (held : Held) → Keeps (own_conduct (here, link)) [] (failure Side.Sink (end_of n why) l) held new → EndsBy Cause.NoMemory (end_of n why) l (Ending.Done m)
      → (why ≡ None) × (new ≡ held)
  over_so None n m None held keeps e = (refl, keeps)
  over_so None n m (Some c) held keeps e = absurd cc
  over_so (Some c) n m why held keeps e = absurd e

  run_over : (n : Tally) (why : Option Cause) (rs : List Answer) (held : Held) → Runs (end_of n why) rs held → (why ≡ None) × (new ≡ held)
  run_over n why rs held run =
      let ends : Ends (end_of n why) = subst Ends (after_over n why rs) run.ends in
      over_so last n ends.0 why held
      (subst (λ d. Keeps (own_conduct (here, link)) [] (failure Side.Sink d last) held new) (after_over n why rs)
      (subst (λ xs. Keeps (own_conduct (here, link)) xs (failure Side.Sink (after (end_of n why) rs) last) held new) (share_over Side.Sink n why rs) run.keeps))
      ends.1

  -- of the sink a request was asked and answered, and it went on
  pub record RunsBySink (q : Request) (more : Answer → Text) (rs : List Answer) (held : Held) : Type 0 where
    pub reply : Answer
    pub later : List Answer
    pub next : Held
    pub first : rs ≡ reply ∷ later
    pub answered : own_answer here link held q ≡ Ok (reply, next)
    pub runs : Runs (more reply) later next

  run_sink : (n : Tally) (q : Request) (more : Answer → Text) (rs : List Answer) (held : Held) → Runs (Ask n Side.Sink q more) rs held → RunsBySink q more rs held
  run_sink n q more [] held run = absurd (asks_more last n run.ends.0 Side.Sink q more run.ends.1)
  run_sink n q more (a ∷ rs) held run = record { reply = a; later = rs; next = run.keeps.0; first = refl; answered = run.keeps.2; runs = record { keeps = run.keeps.3; ends = run.ends } }

  -- and of the source
  pub record RunsBySource (more : Answer → Text) (rs : List Answer) (held : Held) : Type 0 where
    pub reply : Answer
    pub later : List Answer
    pub first : rs ≡ reply ∷ later
    pub runs : Runs (more reply) later held

  run_source : (n : Tally) (q : Request) (more : Answer → Text) (rs : List Answer) (held : Held) → Runs (Ask n Side.Source q more) rs held → RunsBySource more rs held
  run_source n q more [] held run = absurd (asks_more last n run.ends.0 Side.Source q more run.ends.1)
  run_source n q more (a ∷ rs) held run = record { reply = a; later = rs; first = refl; runs = record { keeps = run.keeps; ends = run.ends } }

  -- what was to be read was there
  pub record RunsOn {A : Type 0} (x : Option A) (more : A → Text) (rs : List Answer) (held : Held) : Type 0 where
    pub value : A
    pub is : x ≡ Some value
    pub runs : Runs (more value) rs held

  run_reads : {A : Type 0} (n : Tally) (kind : Body) (x : Option A) (more : A → Text) (rs : List Answer) (held : Held) → Runs (reads n kind x more) rs held → RunsOn x more rs held
  run_reads n kind None more rs held run = let over : Some (Cause.Garbled kind) ≡ None = (run_over n (Some (Cause.Garbled kind)) rs held run).0 in absurd cc
  run_reads n kind (Some y) more rs held run = record { value = y; is = refl; runs = run }

  -- what the source was asked
  abbrev asked_of : Text → List Answer → List Asked
  asked_of t rs = share Side.Source t rs

  -- ---- a part

  module _ (k : PartKeys) (ks : List PartKeys) (ih : (n : Tally) (rs : List Answer) (held : Held) → Runs (through ks n) rs held → AsksInTurn here link ks held (asked_of (through ks n) rs) new) where
    fetched_so : (n : Tally) (w : Option Wanted) (rs : List Answer) (held : Held) → Runs (fetching n w (through ks)) rs held
        → AsksThen here link w held (λ next more. AsksInTurn here link ks next more new) (asked_of (fetching n w (through ks)) rs)
    fetched_so n None rs held run = ih n rs held run
    fetched_so n (Some w) rs held run =
        let b = run_source n (Request.Rows w) (packed n (through ks)) rs held run in
        let p = run_reads n Body.Package (part_in b.reply) (λ p. taking n p (through ks)) b.later held b.runs in
        let t = run_sink n (Request.TakePart p.value) (counting n p.value.event (length p.value.rows) (through ks)) b.later held p.runs in
        let c = run_reads n Body.Taken (taken_in (length p.value.rows) t.reply) (λ m. through ks (with_taken n p.value.event m)) t.later t.next t.runs in
        let then_ : Tally = with_taken n p.value.event c.value in
        let wants : Answer → List Asked → List Asked = λ a xs. record { request = Request.Rows w; reply = a } ∷ xs in (
          p.value,
          t.reply,
          t.next,
          asked_of (through ks then_) t.later,
          ap (asked_of (fetching n (Some w) (through ks))) b.first
              ∙ (λ i. wants (package_is b.reply p.value p.is i) (asked_of (reads n Body.Package (p.is i) (λ p. taking n p (through ks))) b.later))
              ∙ ap (λ rs. wants (Answer.Part p.value) (asked_of (taking n p.value (through ks)) rs)) t.first
              ∙ ap (λ o. wants (Answer.Part p.value) (asked_of (reads n Body.Taken o (λ m. through ks (with_taken n p.value.event m))) t.later)) c.is,
          t.answered,
          ih then_ t.later t.next c.runs,
        )

    missing_so : (n : Tally) (rs : List Answer) (held : Held) → Runs (through (k ∷ ks) n) rs held → AsksInTurn here link (k ∷ ks) held (asked_of (through (k ∷ ks) n) rs) new
    missing_so n rs held run =
        let s = run_sink n (Request.Missing k) (lacking n (through ks)) rs held run in
        subst (λ asked. AsksInTurn here link (k ∷ ks) held asked new) (sym (ap (asked_of (through (k ∷ ks) n)) s.first))
        (by_rows ((seen_in held).rows (Reach.Own link.holder k.event)) refl s.reply s.later s.next s.answered s.runs)
      where
        answers : List Row → Answer × Held
        answers rows = (Answer.Wanted (wanted_list k (wanted_keys here.name rows link.holder k.event k.keys)), held)

        by_rows : (found : Result (List Row) (List ℕ)) → (seen_in held).rows (Reach.Own link.holder k.event) ≡ found → (a : Answer) (later : List Answer) (next : Held) → own_answer here link held (Request.Missing k) ≡ Ok (a, next)
            → Runs (lacking n (through ks) a) later next → AsksInTurn here link (k ∷ ks) held (asked_of (lacking n (through ks) a) later) new
        by_rows (Err name) is a later next answered run = let bad : over_rows (Err name) answers ≡ Ok (a, next) = ap (λ o. over_rows o answers) (sym is) ∙ answered in absurd cc
        by_rows (Ok rows) is a later next answered run =
            let same : over_rows (Ok rows) answers ≡ Ok (a, next) = ap (λ o. over_rows o answers) (sym is) ∙ answered in
            subst (λ (x : Answer × Held). Runs (lacking n (through ks) x.0) later x.1 → AsksInTurn here link (k ∷ ks) held (asked_of (lacking n (through ks) x.0) later) new) (ap (ok_of (a, next)) same)
            (λ run. (rows, is, fetched_so n (wanted_list k (wanted_keys here.name rows link.holder k.event k.keys)) later held run)) run

  through_asks : (ks : List PartKeys) (n : Tally) (rs : List Answer) (held : Held) → Runs (through ks n) rs held → AsksInTurn here link ks held (asked_of (through ks n) rs) new
  through_asks [] n rs held run = (share_over Side.Source n None rs, (run_over n None rs held run).1)
  through_asks (k ∷ ks) n rs held run = missing_so k ks (through_asks ks) n rs held run

  -- ---- the pull

  pub pull_asks : (n : Tally) (rs : List Answer) (held : Held) → Runs (synchronising Direction.Pull n) rs held → AsksAsWanted here link held new (share Side.Source (synchronising Direction.Pull n) rs)
  pull_asks n rs held run =
      let g = run_source n Request.Groups (asking Direction.Pull n) rs held run in
      let gs = run_reads n Body.Groups (groups_in g.reply) (taking_groups Direction.Pull n) g.later held g.runs in
      let t = run_sink n (Request.TakeGroups gs.value) (grouped Direction.Pull n (length gs.value)) g.later held gs.runs in
      let c = run_reads n Body.Taken (taken_in (length gs.value) t.reply) (λ m. listing Direction.Pull (with_groups n m)) t.later t.next t.runs in
      let then_ : Tally = with_groups n c.value in
      let l = run_source then_ Request.Manifest (listed Direction.Pull then_) t.later t.next c.runs in
      let ks = run_reads then_ Body.Manifest (manifest_in l.reply) (λ ks. through ks then_) l.later t.next l.runs in
      let asked : Answer → List Asked → List Asked = λ a xs. record { request = Request.Groups; reply = a } ∷ xs in
      let said : Answer → List Asked → List Asked = λ a xs. record { request = Request.Manifest; reply = a } ∷ xs in
      record {
        groups = gs.value;
        parts = ks.value;
        later = share Side.Source (through ks.value then_) l.later;
        first = ap (share Side.Source (synchronising Direction.Pull n)) g.first
            ∙ (λ i. asked (groups_are g.reply gs.value gs.is i) (share Side.Source (reads n Body.Groups (gs.is i) (taking_groups Direction.Pull n)) g.later))
            ∙ ap (λ rs. asked (Answer.Groups gs.value) (share Side.Source (taking_groups Direction.Pull n gs.value) rs)) t.first
            ∙ ap (λ o. asked (Answer.Groups gs.value) (share Side.Source (reads n Body.Taken o (λ m. listing Direction.Pull (with_groups n m))) t.later)) c.is
            ∙ ap (λ rs. asked (Answer.Groups gs.value) (share Side.Source (listing Direction.Pull then_) rs)) l.first
            ∙ (λ i. asked (Answer.Groups gs.value) (said (parts_are l.reply ks.value ks.is i) (share Side.Source (reads then_ Body.Manifest (ks.is i) (λ ks. through ks then_)) l.later)));
        wanted = subst (λ h. AsksInTurn here link ks.value h (asked_of (through ks.value then_) l.later) new) (sym (ap (λ x. (ok_of {A = Answer × Held} (t.reply, t.next) x).1) t.answered)) (through_asks ks.value then_ l.later t.next ks.runs);
      }

-- ---- its course

done_by : (m : SyncCount) (e : Ending Tally Cause) → SyncReply.Done m ≡ reply_of_ending e → (n : Tally) × (e ≡ Ending.Done n)
done_by m (Ending.Done n) is = (n, refl)
done_by m (Ending.Stopped n cause) is = absurd cc

pub course_asks : (link : Link) (here : Standing) (own new : Held) (peer left : Option (Host × Held)) (count : SyncCount) (trail : List (List ℕ)) (c : IsCourse Direction.Pull link here (Some new) peer left (SyncReply.Done count) trail)
    → here.held ≡ Some own → AsksAsWanted (host_of here) link own new (share Side.Source (synchronising Direction.Pull no_tally) c.answers)
course_asks link here own new peer left count trail c told =
    let done = done_by count c.ending c.reply_is in
    let text : Text = synchronising Direction.Pull no_tally in
    pull_asks (host_of here) link c.last new no_tally c.answers own (record {
      keeps = subst (λ held. WhereReported held (Some new) (Keeps (own_conduct (host_of here, link)) (share Side.Sink text c.answers) (failure Side.Sink (after text c.answers) c.last))) told c.own;
      ends = (done.0, subst (EndsBy Cause.NoMemory (after text c.answers) c.last) done.1 c.ends);
    })
