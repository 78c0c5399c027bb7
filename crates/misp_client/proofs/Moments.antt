-- What a call comes to at any moment, and what one that takes nothing puts.
use Rattle.std.proofs.Common.{◌≡◌, ℕ, Bool, true, false, cond, List, [], Option, Some, None, Result, Ok, Err, refl, ap, ◌∙◌, if◌then◌else◌}
use Rattle.misp_orgs.specs.Admin.{who_of}
use Rattle.misp_manifest.specs.declared.wanted.WantedFields.{WantedFields as Wanted}
use Rattle.misp_model.specs.Answers.{answer, ask_rules, brings, is_accepted, ok_answer}
use Rattle.misp_model.specs.Manifests.{pulled_manifest, pulled_only}
use Rattle.misp_model.specs.Pulling.{pulled_groups, pulled_part, pulled_rows}
use Rattle.misp_model.specs.Scene.{Scene, first_rule}
use Rattle.misp_model.specs.declared.package.PackageFields.{PackageFields as Package}
use Rattle.misp_core.specs.Answers.{reply_in, scene_at, writes_in}
use Rattle.misp_core.specs.Effects.{asked, asked_over, asked_where, refused, row_batches}
use Rattle.misp_core.specs.Prelude.{Admin, Ask, Caller, Group, Host, Row, Seen, forbidden, is_permitted, read_where, requested, seeing}
use Rattle.misp_core.proofs.HandedAsks.{handed_alike}
use Rattle.misp_client.specs.Calling.{TakesNothing, called, called_as, called_by, is_short, too_large}
use Rattle.misp_client.specs.Calls.{body_of}
use Rattle.misp_client.specs.declared.call.Call.{Call}

-- ---- any moment

module _ (peer : Host) (now : ℕ) (caller : Caller) where
  -- what is asked comes to the same as at the moment 0
  abbrev AtAnyMoment : Ask → Type 0
  AtAnyMoment ask = (groups : List Group) (rows : List Row) → asked peer.admin (seeing (scene_at peer now caller groups) rows) ask ≡ asked peer.admin (seeing (scene_at peer 0 caller groups) rows) ask

  groups_moment : AtAnyMoment Ask.SyncGroups
  unfolding reply_in writes_in is_accepted answer ask_rules ok_answer first_rule brings pulled_groups
  groups_moment groups rows = refl

  manifest_moment : AtAnyMoment Ask.SyncManifest
  unfolding reply_in writes_in is_accepted answer ask_rules ok_answer first_rule brings pulled_manifest pulled_rows
  manifest_moment groups rows = refl

  rows_moment : (w : Wanted) → AtAnyMoment (Ask.SyncRows w)
  unfolding reply_in writes_in is_accepted answer ask_rules ok_answer first_rule brings pulled_only pulled_part pulled_rows
  rows_moment w groups rows = refl

  part_moment : (p : Package) → AtAnyMoment (Ask.TakePart p)
  part_moment p groups rows = handed_alike peer.admin (seeing (scene_at peer now caller groups) rows) (seeing (scene_at peer 0 caller groups) rows) p refl refl refl refl

  module _ (seen : Seen) where
    over_moment : (ask : Ask) → AtAnyMoment ask → (read : Result (List Row) (List ℕ)) → asked_over peer now (caller, ask) seen.groups read ≡ asked_over peer 0 (caller, ask) seen.groups read
    over_moment ask h (Ok rows) = h seen.groups rows
    over_moment ask h (Err name) = refl

    requested_moment : (ask : Ask) → AtAnyMoment ask → read_where peer now (caller, ask) seen ≡ read_where peer 0 (caller, ask) seen → requested peer now (caller, ask) seen ≡ requested peer 0 (caller, ask) seen
    requested_moment ask h same =
        ap (λ x. if is_permitted caller ask then x else refused (forbidden ask))
        (over_moment ask h (read_where peer now (caller, ask) seen) ∙ ap (asked_over peer 0 (caller, ask) seen.groups) same)

    by_moment : (call : Call) → called_by peer now caller call seen ≡ called_by peer 0 caller call seen
    by_moment Call.Groups = requested_moment Ask.SyncGroups groups_moment refl
    by_moment Call.Manifest = requested_moment Ask.SyncManifest manifest_moment refl
    by_moment (Call.Rows w) = requested_moment (Ask.SyncRows w) (rows_moment w) refl
    by_moment (Call.TakeGroups groups) = refl
    by_moment (Call.TakePart p) = requested_moment (Ask.TakePart p) (part_moment p) refl

as_moment : (peer : Host) (now : ℕ) (found : Option Caller) (call : Call) (seen : Seen) → called_as peer now found call seen ≡ called_as peer 0 found call seen
as_moment peer now None call seen = refl
as_moment peer now (Some caller) call seen = by_moment peer now caller seen call

pub called_at_any_moment : (peer : Host) (now : ℕ) (key : List ℕ) (call : Call) (seen : Seen) → called peer now key call seen ≡ called peer 0 key call seen
called_at_any_moment peer now key call seen = ap (λ x. if is_short (body_of call) then x else refused too_large) (as_moment peer now (who_of peer.admin key) call seen)

-- ---- nothing is put

no_batches : (b : Bool) → row_batches (cond b [] []) ≡ []
no_batches true = refl
no_batches false = refl

-- what is asked so writes nothing
abbrev WritesNothing : Ask → Type 0
WritesNothing ask = (admin : Admin) (s : Scene) → (asked admin s ask).batches ≡ []

groups_write : WritesNothing Ask.SyncGroups
unfolding writes_in brings
groups_write admin s = no_batches (is_accepted s Ask.SyncGroups)

manifest_writes : WritesNothing Ask.SyncManifest
unfolding writes_in brings
manifest_writes admin s = no_batches (is_accepted s Ask.SyncManifest)

rows_write : (w : Wanted) → WritesNothing (Ask.SyncRows w)
unfolding writes_in brings
rows_write w admin s = no_batches (is_accepted s (Ask.SyncRows w))

module _ (peer : Host) (now : ℕ) (seen : Seen) where
  requested_puts : (caller : Caller) (ask : Ask) → WritesNothing ask → (requested peer now (caller, ask) seen).batches ≡ []
  requested_puts caller ask h = permitted (is_permitted caller ask)
    where
      over : (read : Result (List Row) (List ℕ)) → (asked_over peer now (caller, ask) seen.groups read).batches ≡ []
      over (Ok rows) = h peer.admin (seeing (scene_at peer now caller seen.groups) rows)
      over (Err name) = refl

      permitted : (b : Bool) → (if b then asked_where peer now (caller, ask) seen else refused (forbidden ask)).batches ≡ []
      permitted true = over (read_where peer now (caller, ask) seen)
      permitted false = refl

  by_puts : (caller : Caller) (call : Call) → TakesNothing call → (called_by peer now caller call seen).batches ≡ []
  by_puts caller Call.Groups h = requested_puts caller Ask.SyncGroups groups_write
  by_puts caller Call.Manifest h = requested_puts caller Ask.SyncManifest manifest_writes
  by_puts caller (Call.Rows w) h = requested_puts caller (Ask.SyncRows w) (rows_write w)
  by_puts caller (Call.TakeGroups groups) h = absurd h
  by_puts caller (Call.TakePart p) h = absurd h

  as_puts : (found : Option Caller) (call : Call) → TakesNothing call → (called_as peer now found call seen).batches ≡ []
  as_puts None call h = refl
  as_puts (Some caller) call h = by_puts caller call h

  pub called_puts_nothing : (key : List ℕ) (call : Call) → TakesNothing call → (called peer now key call seen).batches ≡ []
  called_puts_nothing key call h = short (is_short (body_of call))
    where
      short : (b : Bool) → (if b then called_as peer now (who_of peer.admin key) call seen else refused too_large).batches ≡ []
      short true = as_puts (who_of peer.admin key) call h
      short false = refl
