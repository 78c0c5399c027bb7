-- A call is answered by what it asks for, or refused.
use Rattle.std.proofs.Common.{◌<◌, ◌≤◌, ◌+◌, ◌^◌, ℕ, Bool, true, false, cond, List, [], ◌∷◌, ◌++◌, length, filter, map, Option, Some, None, option_map, Result, Ok, Err, refl, sym, ap, subst, arith, lit<, nat_le, if◌then◌else◌}
use Rattle.std.proofs.lemmas.Bool.{and_parts, leb-true}
use Rattle.misp_effects.specs.Effect.{Effect, Outcome, Went, Stopped, under}
use Rattle.misp_orgs.specs.Admin.{who_of}
use Rattle.misp_orgs.specs.Roles.{permits}
use Rattle.misp_orgs.specs.declared.role.Perm.{Perm}
use Rattle.misp_outside.specs.Held.{Held}
use Rattle.misp_groups.specs.Changes.{take_group, takes_group}
use Rattle.misp_format.specs.WholeGroup.{uncarried}
use Rattle.misp_manifest.specs.declared.wanted.WantedFields.{WantedFields as Wanted}
use Rattle.misp_model.proofs.Prelude.{length-map}
use Rattle.misp_model.specs.Answers.{Other, Packed, Refused, answer, ask_rules, ok_answer}
use Rattle.misp_model.specs.Manifests.{only_of, pulled_only}
use Rattle.misp_model.specs.Package.{IsPackage}
use Rattle.misp_model.specs.Permission.{no_permission}
use Rattle.misp_model.specs.Pulling.{pulled_part}
use Rattle.misp_model.specs.Scene.{NotGranted, Scene, first_rule}
use Rattle.misp_model.specs.declared.package.PackageFields.{PackageFields as Package}
use Rattle.misp_history.specs.Merging.{counts_row, handed, is_newer_row, rows_taken}
use Rattle.misp_core.specs.Answers.{reply_in, reply_of, scene_at}
use Rattle.misp_core.specs.Effects.{Did, asked_over, asked_where, refused, telling}
use Rattle.misp_core.specs.HandedGroups.{groups_put}
use Rattle.misp_core.specs.Prelude.{Admin, Ask, Caller, Group, Host, Inst, OrgId, Row, Seen, forbidden, is_permitted, read_where, requested, seeing, seen_in}
use Rattle.misp_core.specs.Taking.{groups_taken, handed_rows, package_taken}
use Rattle.misp_core.specs.declared.reply.Reply.{Reply}
use Rattle.misp_core.proofs.HandedAsks.{asked_handed}
use Rattle.misp_client.specs.Calling.{IsCall, called, called_as, called_by, is_short, too_large}
use Rattle.misp_client.specs.Calls.{body_of}
use Rattle.misp_client.specs.Telling.{Suits}
use Rattle.misp_client.specs.declared.call.Call.{Call}

-- ---- what is asked

-- each reply of the definitions suits
abbrev SuitsReplies : Call → Ask → Type 0
SuitsReplies call ask = (admin : Admin) (s : Scene) → Suits call (reply_in admin s ask)

suits_groups : SuitsReplies Call.Groups Ask.SyncGroups
unfolding reply_in answer ask_rules ok_answer first_rule
suits_groups admin s = (_, refl)

suits_manifest : SuitsReplies Call.Manifest Ask.SyncManifest
unfolding reply_in answer ask_rules ok_answer first_rule
suits_manifest admin s = (_, refl)

-- the wanted rows are replied, or nothing is granted
abbrev by_part : Admin → Scene → Wanted → Option Package → Reply
by_part admin s w found =
    reply_of admin s (Ask.SyncRows w)
    (elim (first_rule ((elim found [ None ↦ true | Some p ↦ false ], NotGranted) ∷ [])) [
      | None ↦ elim (option_map (only_of w.keys) found) [ None ↦ Other | Some p ↦ Packed p ]
      | Some rule ↦ Refused rule
    ])

suits_part : (admin : Admin) (s : Scene) (w : Wanted) (found : Option Package) → Suits (Call.Rows w) (by_part admin s w found)
unfolding first_rule
suits_part admin s w None = tt
suits_part admin s w (Some p) = (_, refl)

suits_rows : (w : Wanted) → SuitsReplies (Call.Rows w) (Ask.SyncRows w)
unfolding reply_in answer ask_rules ok_answer pulled_only
suits_rows w admin s = suits_part admin s w (pulled_part s w.event w.part)

-- ---- what is taken

few_kept : {A : Type 0} (test : A → Bool) (xs : List A) → length (filter test xs) ≤ length xs
few_kept test [] = omega arith
few_kept test (x ∷ xs) = one (test x) (few_kept test xs)
  where
    one : (b : Bool) → length (filter test xs) ≤ length xs → length (cond b (x ∷ filter test xs) (filter test xs)) ≤ length (x ∷ xs)
    one true le = omega (arith, le)
    one false le = omega (arith, le)

-- no more rows are taken than a package has
pub few_rows : (here : Inst) (rows : List Row) (groups : List Group) (p : Package) (owner : OrgId) → length (package_taken here rows groups owner p) ≤ length p.rows
unfolding rows_taken
few_rows here rows groups p owner =
    let coming = handed_rows owner p in
    let newer = few_kept (is_newer_row rows) (filter (counts_row here rows groups coming) coming) in
    let counting = few_kept (counts_row here rows groups coming) coming in
    let same = length-map p.rows (handed owner) in
    omega (arith, newer, counting, same)

one_taken : (b : Bool) (g : Group) (rest : List Group) (n : ℕ) → length rest ≤ n → length (cond b (g ∷ []) [] ++ rest) ≤ n + 1
one_taken true g rest n le = omega (arith, le)
one_taken false g rest n le = omega (arith, le)

-- and no more groups than come
pub few_groups : (groups gs : List Group) → length (groups_taken groups gs) ≤ length gs
unfolding groups_taken
few_groups groups [] = omega arith
few_groups groups (g ∷ gs) =
    let most = one_taken (takes_group groups g) (record g { carried = true }) (groups_taken (take_group groups g) gs) (length gs) (few_groups (take_group groups g) gs) in
    omega (arith, most)

suits_taken : (p : Package) → IsPackage p → SuitsReplies (Call.TakePart p) (Ask.TakePart p)
suits_taken p packs admin s =
    let taken = package_taken s.at s.rows s.groups s.by p in
    let few = few_rows s.at s.rows s.groups p s.by in
    let most = leb-true (length p.rows) 65 (and_parts (nat_le 1 (length p.rows)) (nat_le (length p.rows) 65) packs.count).1 in
    let large : 65 < 2 ^ 64 = lit< tt in
    let small : length taken < 2 ^ 64 = omega (arith, few, most, large) in
    subst (Suits (Call.TakePart p)) (sym (ap (λ (e : Effect Reply). e.reply) (asked_handed admin s p))) (length taken, small, refl)

-- ---- a request

module _ (peer : Host) (now : ℕ) (caller : Caller) (seen : Seen) where
  suits_requested : (call : Call) (ask : Ask) → SuitsReplies call ask → Suits call (requested peer now (caller, ask) seen).reply
  suits_requested call ask h = permitted (is_permitted caller ask)
    where
      over : (rows : Result (List Row) (List ℕ)) → Suits call (asked_over peer now (caller, ask) seen.groups rows).reply
      over (Ok rows) = h peer.admin (seeing (scene_at peer now caller seen.groups) rows)
      over (Err name) = tt

      permitted : (b : Bool) → Suits call (if b then asked_where peer now (caller, ask) seen else refused (forbidden ask)).reply
      permitted true = over (read_where peer now (caller, ask) seen)
      permitted false = tt

  suits_handed : (gs : List Group) → length gs < 2 ^ 64 → (may : Bool)
      → Suits (Call.TakeGroups gs) (if may then groups_put (groups_taken seen.groups (map uncarried gs)) else refused (no_permission Perm.Sync)).reply
  suits_handed gs small true =
      let few = few_groups seen.groups (map uncarried gs) in
      let same = length-map gs uncarried in
      (length (groups_taken seen.groups (map uncarried gs)), omega (arith, few, same, small), refl)
  suits_handed gs small false = tt

  suits_by : (call : Call) → IsCall call → Suits call (called_by peer now caller call seen).reply
  suits_by Call.Groups is = suits_requested Call.Groups Ask.SyncGroups suits_groups
  suits_by Call.Manifest is = suits_requested Call.Manifest Ask.SyncManifest suits_manifest
  suits_by (Call.Rows w) is = suits_requested (Call.Rows w) (Ask.SyncRows w) (suits_rows w)
  suits_by (Call.TakeGroups gs) is = suits_handed gs is.1 (permits caller.role Perm.Sync)
  suits_by (Call.TakePart p) is = suits_requested (Call.TakePart p) (Ask.TakePart p) (suits_taken p is)

module _ (peer : Host) (now : ℕ) (key : List ℕ) (call : Call) (is : IsCall call) (seen : Seen) where
  suits_as : (found : Option Caller) → Suits call (called_as peer now found call seen).reply
  suits_as None = tt
  suits_as (Some caller) = suits_by peer now caller seen call is

  suits_short : (b : Bool) → Suits call (if b then called_as peer now (who_of peer.admin key) call seen else refused too_large).reply
  suits_short true = suits_as (who_of peer.admin key)
  suits_short false = tt

  pub suits_called : Suits call (called peer now key call seen).reply
  suits_called = suits_short (is_short (body_of call))

suits_under : (call : Call) (outcome : Outcome) (e : Effect Reply) → Suits call e.reply → Suits call (under telling outcome e).reply
suits_under call Went e h = h
suits_under call (Stopped stop n lost) e h = tt

-- where a keeper tells what it holds
pub suits_did : (peer : Host) (now : ℕ) (key : List ℕ) (call : Call) → IsCall call → (held : Held) (reply : Reply) (new : Held) → Did (called peer now key call (seen_in held)) held reply new → Suits call reply
suits_did peer now key call is held reply new did =
    let e = called peer now key call (seen_in held) in
    subst (Suits call) (sym did.reply_is) (suits_under call did.outcome e (suits_called peer now key call is (seen_in held)))
