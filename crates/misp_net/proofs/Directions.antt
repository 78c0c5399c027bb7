-- What is alike of synchronisations in both directions.
use Rattle.std.proofs.Common.{◌≡◌, ℕ, Bool, List, [], Option, None, Some, refl, ap, inl, inr}
use Rattle.std.proofs.lemmas.Bool.{cases_Bool}
use Rattle.misp_ids.specs.declared.label.Direction.{Direction}
use Rattle.misp_orgs.specs.Admin.{link_of}
use Rattle.misp_orgs.specs.declared.link.Link.{Link}
use Rattle.misp_outside.specs.Reporting.{StaysHeld}
use Rattle.misp_effects.specs.Effect.{shown}
use Rattle.misp_protocol.specs.Counts.{no_count, tally}
use Rattle.misp_protocol.specs.declared.cause.Cause.{Cause}
use Rattle.misp_sync.specs.Causes.{bar_of}
use Rattle.misp_sync.specs.Directions.{giver, synced_on, taker, telling_on}
use Rattle.misp_sync.specs.Pulled.{pulled}
use Rattle.misp_sync.specs.Pushed.{pushed}
use Rattle.misp_sync.specs.Synchronised.{Stays}
use Rattle.misp_sync.specs.declared.reply.SyncReply.{SyncReply}
use Rattle.misp_sync.specs.declared.reply.SyncReply.TheVariants as replies
use Rattle.misp_net.specs.Meaning.{sync_telling}
use Rattle.misp_net.specs.Prelude.{Effect, Host, Seen, Standing, Stop, Synced, state_of}
use Rattle.misp_effects.specs.Effect as effects

-- what is had of the one that takes
pub taker_of : {A B : Type 0} (f : A → B) (direction : Direction) (here there : A) → f (taker direction here there) ≡ taker direction (f here) (f there)
taker_of f Direction.Pull here there = refl
taker_of f Direction.Push here there = refl

-- what holds of both holds of it
pub taker_has : {A : Type 0} (P : A → Type 0) (direction : Direction) (here there : A) → P here → P there → P (taker direction here there)
taker_has P Direction.Pull here there of_here of_there = of_here
taker_has P Direction.Push here there of_here of_there = of_there

-- what the one holds that gives is what its keeper holds
pub giver_stays : (direction : Direction) (own mine peer theirs : Standing) → Stays direction own mine (Some peer) (Some theirs)
    → StaysHeld (giver direction (state_of own) (state_of peer)).held (giver direction (state_of mine) (state_of theirs)).held
giver_stays Direction.Pull own mine peer theirs stays = stays
giver_stays Direction.Push own mine peer theirs stays = stays

-- a stop is told as it is put out
pub telling_shown : (direction : Direction) (stop : Stop) (n : ℕ) (lost : Bool) (e : Effect SyncReply)
    → sync_telling direction stop n lost (shown Synced e) ≡ shown Synced (telling_on direction stop n lost e)
telling_shown Direction.Pull stop n lost e = refl
telling_shown Direction.Push stop n lost e = refl

-- what a link bars comes to that, and puts no batch
pub bar_comes : (direction : Direction) (here : Host) (name : List ℕ) (peer : Host) (own there : Seen) (link : Option Link) (why : Cause) → link_of here.admin.links name ≡ link → bar_of link ≡ Some why
    → synced_on direction here name peer own there ≡ effects.effect (replies.Stopped no_count why) []
unfolding pulled pushed tally
bar_comes Direction.Pull here name peer own there None why is bar = let same : Cause.NoLink ≡ why = cc in rw is (ap (λ r. effects.effect (replies.Stopped no_count r) []) same)
bar_comes Direction.Push here name peer own there None why is bar = let same : Cause.NoLink ≡ why = cc in rw is (ap (λ r. effects.effect (replies.Stopped no_count r) []) same)
bar_comes Direction.Pull here name peer own there (Some link) why is bar = elim (cases_Bool link.on) [
  | inl on ↦ absurd (let no_ : None ≡ Some why = rw on at bar in cc)
  | inr off ↦
      let off_bar : Some Cause.LinkOff ≡ Some why = rw off at bar in
      let same : Cause.LinkOff ≡ why = cc in
      rw (is, off) (ap (λ r. effects.effect (replies.Stopped no_count r) []) same)
]
bar_comes Direction.Push here name peer own there (Some link) why is bar = elim (cases_Bool link.on) [
  | inl on ↦ absurd (let no_ : None ≡ Some why = rw on at bar in cc)
  | inr off ↦
      let off_bar : Some Cause.LinkOff ≡ Some why = rw off at bar in
      let same : Cause.LinkOff ≡ why = cc in
      rw (is, off) (ap (λ r. effects.effect (replies.Stopped no_count r) []) same)
]
