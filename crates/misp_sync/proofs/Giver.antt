-- Who is asked nothing that takes holds afterwards what it held.
use Rattle.std.proofs.Common.{◌≡◌, ◌∙◌, ℕ, List, [], ◌∷◌, Option, None, Some, Result, Ok, Err, refl, sym, ap, inl, inr, map}
use Rattle.std.specs.List.{AllByRecursion}
use Rattle.misp_orgs.specs.declared.link.Link.{Link}
use Rattle.misp_effects.specs.Batches.{put_batches}
use Rattle.misp_store.specs.declared.reach.Reach.{Reach}
use Rattle.misp_core.specs.Prelude.{Held, Host, Row, seen_in, spelled}
use Rattle.misp_dialogue.specs.Conversed.{after}
use Rattle.misp_dialogue.specs.Dialogue.{Over, Ask}
use Rattle.misp_dialogue.specs.Parties.{Conduct}
use Rattle.misp_dialogue.specs.Shares.{Exchange, Failure, IfAsked, Keeps, failure, share}
use Rattle.misp_dialogue.specs.declared.side.Side.{Side}
use Rattle.misp_client.proofs.Moments.{called_puts_nothing}
use Rattle.misp_client.specs.Calling.{TakesNothing, called}
use Rattle.misp_client.specs.Telling.{told}
use Rattle.misp_client.specs.declared.call.Call.{Call}
use Rattle.misp_protocol.specs.Asked.{AsksOnly, IsAskedOfPull, IsAskedOfPush}
use Rattle.misp_protocol.specs.Text.{Text}
use Rattle.misp_protocol.specs.declared.cause.Cause.{Cause}
use Rattle.misp_protocol.specs.declared.request.Answer.{Answer}
use Rattle.misp_protocol.specs.declared.request.Request.{Request}
use Rattle.misp_sync.specs.OwnAnswers.{over_rows, own_conduct}
use Rattle.misp_sync.specs.WireAnswers.{wire_conduct, with_held}

-- ---- what is asked of a side

module _ (P : Side → Request → Type 0) where
  pub share_asks : (side : Side) (d : Text) (answers : List Answer) → AsksOnly P d → AllByRecursion (λ (x : Exchange Request Answer). P side x.request) (share side d answers)
  share_asks side d [] only = tt
  share_asks side (Over n why) (r ∷ rs) only = tt
  share_asks Side.Source (Ask n Side.Source q more) (r ∷ rs) only = (only.0, share_asks Side.Source (more r) rs (only.1 r))
  share_asks Side.Source (Ask n Side.Sink q more) (r ∷ rs) only = share_asks Side.Source (more r) rs (only.1 r)
  share_asks Side.Sink (Ask n Side.Source q more) (r ∷ rs) only = share_asks Side.Sink (more r) rs (only.1 r)
  share_asks Side.Sink (Ask n Side.Sink q more) (r ∷ rs) only = (only.0, share_asks Side.Sink (more r) rs (only.1 r))

  pub asks_after : (d : Text) (answers : List Answer) → AsksOnly P d → AsksOnly P (after d answers)
  asks_after d [] only = only
  asks_after (Over n why) (r ∷ rs) only = asks_after (Over n why) rs only
  asks_after (Ask n side q more) (r ∷ rs) only = asks_after (more r) rs (only.1 r)

  pub failure_asks : (side : Side) (d : Text) (last : Option Cause) → AsksOnly P d → IfAsked (P side) (failure side d last)
  failure_asks side d None only = tt
  failure_asks side (Over n why) (Some cause) only = tt
  failure_asks Side.Source (Ask n Side.Source q more) (Some cause) only = only.0
  failure_asks Side.Source (Ask n Side.Sink q more) (Some cause) only = tt
  failure_asks Side.Sink (Ask n Side.Source q more) (Some cause) only = tt
  failure_asks Side.Sink (Ask n Side.Sink q more) (Some cause) only = only.0

-- ---- nothing is put

-- what is held after an answer
abbrev held_after : Held → Result (Answer × Held) Cause → Held
held_after old (Ok x) = x.1
held_after old (Err cause) = old

module _ (k : Conduct Held Request Answer Cause) (P : Request → Type 0)
    (still : (held : Held) (q : Request) → P q → held_after held (k.answer held q) ≡ held) where
  one_still : (old new : Held) (q : Request) (a : Answer) → P q → k.answer old q ≡ Ok (a, new) → new ≡ old
  one_still old new q a may is = sym (ap (held_after old) is) ∙ still old q may

  pub all_still : (xs : List (Exchange Request Answer)) (last : Option (Failure Request Cause)) (old new : Held)
      → AllByRecursion (λ (x : Exchange Request Answer). P x.request) xs → IfAsked P last → Keeps k xs last old new → new ≡ old
  all_still [] None old new all may is = is
  all_still [] (Some f) old new all may (inl is) = is.0
  all_still [] (Some f) old new all may (inr lost) = one_still old new f.request lost.1.0 may lost.1.1
  all_still (x ∷ xs) last old new all may is =
      all_still xs last is.0 new all.1 may is.3 ∙ one_still old is.0 x.request x.reply all.0 is.2

rows_still : (held : Held) (read : Result (List Row) (List ℕ)) (f : List Row → Answer) → held_after held (over_rows read (λ rows. (f rows, held))) ≡ held
rows_still held (Ok rows) f = refl
rows_still held (Err name) f = refl

-- the own instance as the source of a push
pub own_still : (here : Host) (link : Link) (held : Held) (q : Request) → IsAskedOfPush Side.Source q → held_after held ((own_conduct (here, link)).answer held q) ≡ held
own_still here link held Request.Groups may = refl
own_still here link held Request.Manifest may = absurd may
own_still here link held (Request.Rows w) may = absurd may
own_still here link held Request.Packages may = rows_still held ((seen_in held).rows Reach.All) _
own_still here link held (Request.TakeGroups groups) may = absurd may
own_still here link held (Request.Missing k) may = absurd may
own_still here link held (Request.TakePart p) may = absurd may

told_still : (held new : Held) (answer : Result Answer Cause) → new ≡ held → held_after held (with_held answer new) ≡ held
told_still held new (Ok answer) is = is
told_still held new (Err cause) is = refl

call_still : (peer : Host) (key : List ℕ) (held : Held) (call : Call) → TakesNothing call → held_after held (with_held (told call (called peer 0 key call (seen_in held)).reply) (put_batches (map spelled (called peer 0 key call (seen_in held)).batches) held)) ≡ held
call_still peer key held call takes =
    told_still held (put_batches (map spelled (called peer 0 key call (seen_in held)).batches) held) (told call (called peer 0 key call (seen_in held)).reply)
    (ap (λ bs. put_batches (map spelled bs) held) (called_puts_nothing peer 0 (seen_in held) key call takes))

-- the peer as the source of a pull
pub peer_still : (host : Option Host) (key : List ℕ) (held : Held) (q : Request) → IsAskedOfPull Side.Source q → held_after held ((wire_conduct host key).answer held q) ≡ held
peer_still None key held q may = refl
peer_still (Some peer) key held Request.Groups may = call_still peer key held Call.Groups tt
peer_still (Some peer) key held Request.Manifest may = call_still peer key held Call.Manifest tt
peer_still (Some peer) key held (Request.Rows w) may = call_still peer key held (Call.Rows w) tt
peer_still (Some peer) key held Request.Packages may = absurd may
peer_still (Some peer) key held (Request.TakeGroups groups) may = absurd may
peer_still (Some peer) key held (Request.Missing k) may = absurd may
peer_still (Some peer) key held (Request.TakePart p) may = absurd may
