-- A push takes its packages, one after another.
use Rattle.std.proofs.Common.{◌≡◌, ◌≤◌, ◌∙◌, ℕ, List, [], ◌∷◌, ◌++◌, length, Option, None, Some, Ok, Err, sym, ap, subst, inl, inr, arith}
use Rattle.std.proofs.lemmas.Bool.Decides.{nat_tests}
use Rattle.misp_ids.specs.declared.label.Direction.{Direction}
use Rattle.misp_dialogue.specs.Dialogue.{Over}
use Rattle.misp_dialogue.specs.Parties.{Conduct}
use Rattle.misp_dialogue.specs.Taking.{Batching, Takes}
use Rattle.misp_dialogue.proofs.Taking.{asked, looked, over, sink_refused, source_refused, took}
use Rattle.misp_protocol.specs.Counts.{IsTally, with_groups, with_taken}
use Rattle.misp_protocol.specs.TextTakes.{AllTaken, GroupsCome, IsTaken, PackagesCome, PushComes}
use Rattle.misp_protocol.specs.Text.{Text, asking, counting, grouped, handing, listed, listing, reads, synchronising, taken_in, taking}
use Rattle.misp_protocol.specs.declared.cause.Cause.{Cause}
use Rattle.misp_protocol.specs.declared.cause.Body.{Body}
use Rattle.misp_protocol.specs.declared.request.Answer.{Answer}
use Rattle.misp_protocol.specs.declared.request.Request.{Request}
use Rattle.misp_groups.specs.declared.group.GroupFields.{GroupFields as Group}
use Rattle.misp_model.specs.declared.package.PackageFields.{PackageFields as Package}
use Rattle.misp_protocol.specs.declared.count.Tally.{Tally}
use Rattle.misp_protocol.proofs.Tallies.{grouped_tally, taken_tally}

pub fits : (most count : ℕ) → count ≤ most → taken_in most (Answer.Taken count) ≡ Some count
fits most count few = grind (arith, nat_tests, few)

module _ {HA HB B : Type 0} (ka : Conduct HA Request Answer Cause) (kb : Conduct HB Request Answer Cause)
    (b : Batching HB Tally B) where
  -- a package is taken, and counted
  pub part_taken : (n : Tally) (p : Package) (more : Tally → Text) (s : HA) (t next : HB) (count : ℕ) (done all : List B)
      (why : Option Cause) → IsTally n → IsTaken kb b t p count done next
      → (kb.IsAskable (Request.TakePart p) → (m : Tally) → IsTally m → Takes ka kb b (more m) s next m all why)
      → Takes ka kb b (taking n p more) s t n (done ++ all) why
  part_taken n p more s t next count done all why fine is takes =
      let q = Request.TakePart p in
      let go : Answer → Text = counting n p.event (length p.rows) more in
      let P : List B → Type 0 = λ done. Takes ka kb b (taking n p more) s t n (done ++ all) why in
      let e : go (Answer.Taken count) ≡ more (with_taken n p.event count) =
      ap (λ x. reads n Body.Taken x (λ k. more (with_taken n p.event k))) (fits (length p.rows) count is.few) in
      elim is.batches [
        | inl none ↦
            let stays : kb.answer t q ≡ Ok (Answer.Taken count, t) = is.answer ∙ ap (λ x. Ok (Answer.Taken count, x)) none.1 in
            let same : more (with_taken n p.event count) ≡ more n = ap more (none.2 n) in
            subst P (sym none.0) (looked ka kb b n q go (Answer.Taken count) s t all why stays
            (λ ask held sound. subst (λ d. Takes ka kb b d s t n all why) (sym (e ∙ same))
            (subst (λ x. Takes ka kb b (more n) s x n all why) none.1 (takes ask n fine))))
        | inr one ↦
            let puts : kb.answer t q ≡ Ok (Answer.Taken count, b.put one.0 t) = is.answer ∙ ap (λ x. Ok (Answer.Taken count, x)) one.2 in
            let m = b.tally n one.0 in
            subst P (sym one.1) (took ka kb b n q go (Answer.Taken count) one.0 s t all why puts (λ ask. (one.3 ask).0)
            (λ ask held sound. subst (λ d. Takes ka kb b d s (b.put one.0 t) m all why) (sym (e ∙ ap more ((one.3 ask).1 n fine)))
            (subst (λ x. Takes ka kb b (more m) s x m all why) one.2 (takes ask m (subst IsTally ((one.3 ask).1 n fine) (taken_tally n p.event count fine))))))
      ]

  -- each of these packages is, one after another, unless one is refused
  pub handing_takes : (ps : List Package) (n : Tally) (s : HA) (t : HB) (done : List B) (why : Option Cause) → IsTally n
      → AllTaken kb b t ps done why → Takes ka kb b (handing ps n) s t n done why
  handing_takes [] n s t done why fine all =
      subst (λ why. Takes ka kb b (Over n None) s t n done why) (sym all.1)
      (subst (λ done. Takes ka kb b (Over n None) s t n done None) (sym all.0) (over ka kb b n None s t))
  handing_takes (p ∷ ps) n s t done why fine (inl bad) =
      let d : Text = taking n p (handing ps) in
      subst (λ why. Takes ka kb b d s t n done why) (sym bad.3)
      (subst (λ done. Takes ka kb b d s t n done (Some bad.0)) (sym bad.2)
      (sink_refused ka kb b n (Request.TakePart p) (counting n p.event (length p.rows) (handing ps)) bad.0 s t bad.1))
  handing_takes (p ∷ ps) n s t done why fine (inr (count, first, later, next, is, done_is, rest)) =
      subst (λ done. Takes ka kb b (taking n p (handing ps)) s t n done why) (sym done_is)
      (part_taken n p (handing ps) s t next count first later why fine is
      (λ ask m fits. handing_takes ps m s next later why fits (rest ask)))

  -- these are those that the source lists, unless it refuses
  pub packages_take : (n : Tally) (s : HA) (t : HB) (done : List B) (why : Option Cause) → IsTally n
      → PackagesCome ka kb b s t done why → Takes ka kb b (listing Direction.Push n) s t n done why
  packages_take n s t done why fine (inl bad) =
      let d : Text = listing Direction.Push n in
      subst (λ why. Takes ka kb b d s t n done why) (sym bad.3)
      (subst (λ done. Takes ka kb b d s t n done (Some bad.0)) (sym bad.2)
      (source_refused ka kb b n Request.Packages (listed Direction.Push n) bad.0 s t bad.1))
  packages_take n s t done why fine (inr (ps, lists, all)) =
      asked ka kb b n Request.Packages (listed Direction.Push n) (Answer.Packages ps) s t done why lists
      (λ ask held sound. handing_takes ps n s t done why fine (all sound))

  -- and before them the groups, in one batch
  pub grouped_takes : (d : Direction) (n : Tally) (s : HA) (t : HB) (gs : List Group) (groups : B) (done : List B) (why : Option Cause)
      → GroupsCome ka kb b s t n gs groups
      → (IsTally (b.tally n groups) → kb.IsHeld t → kb.IsAskable (Request.TakeGroups gs) → Takes ka kb b (listing d (b.tally n groups)) s (b.put groups t) (b.tally n groups) done why)
      → Takes ka kb b (synchronising d n) s t n (groups ∷ done) why
  grouped_takes d n s t gs groups done why is takes =
      let m = b.tally n groups in
      let go : Answer → Text = grouped d n (length gs) in
      let e : go (Answer.Taken is.count) ≡ listing d m =
      ap (λ x. reads n Body.Taken x (λ k. listing d (with_groups n k))) (fits (length gs) is.count is.few)
      ∙ ap (listing d) is.counts in
      asked ka kb b n Request.Groups (asking d n) (Answer.Groups gs) s t (groups ∷ done) why is.passes
      (λ ask held sound. took ka kb b n (Request.TakeGroups gs) go (Answer.Taken is.count) groups s t done why is.taken is.fits
      (λ asked_groups there sound. subst (λ d. Takes ka kb b d s (b.put groups t) m done why) (sym e) (takes (subst IsTally is.counts (grouped_tally n is.count)) there asked_groups)))

  -- the groups are refused
  pub groups_refused : (d : Direction) (n : Tally) (s : HA) (t : HB) (gs : List Group) (cause : Cause)
      → ka.answer s Request.Groups ≡ Ok (Answer.Groups gs, s) → kb.answer t (Request.TakeGroups gs) ≡ Err cause
      → Takes ka kb b (synchronising d n) s t n [] (Some cause)
  groups_refused d n s t gs cause passes bad =
      asked ka kb b n Request.Groups (asking d n) (Answer.Groups gs) s t [] (Some cause) passes
      (λ ask held sound. sink_refused ka kb b n (Request.TakeGroups gs) (grouped d n (length gs)) cause s t bad)

  pub push_takes : (n : Tally) (s : HA) (t : HB) (groups : B) (done : List B) (why : Option Cause) → PushComes ka kb b s t n groups done why
      → Takes ka kb b (synchronising Direction.Push n) s t n (groups ∷ done) why
  push_takes n s t groups done why is =
      grouped_takes Direction.Push n s t is.gs groups done why is.first
      (λ fits there asked_groups. packages_take (b.tally n groups) s (b.put groups t) done why fits (is.come there asked_groups))
