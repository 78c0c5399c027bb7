-- A peer that refuses a call puts nothing.
use Rattle.std.proofs.Common.{◌≡◌, ◌≤◌, ℕ, Bool, true, false, List, [], length, map, Option, None, Some, option_map, Result, Ok, Err, refl, sym, subst, ◌∙◌, arith, if◌then◌else◌}
use Rattle.std.proofs.lemmas.Bool.Decides.{nat_tests}
use Rattle.misp_orgs.specs.Admin.{who_of}
use Rattle.misp_orgs.specs.Roles.{permits}
use Rattle.misp_orgs.specs.declared.role.Perm.{Perm}
use Rattle.misp_format.specs.WholeGroup.{uncarried}
use Rattle.misp_model.proofs.Prelude.{length-map}
use Rattle.misp_model.specs.Permission.{no_permission}
use Rattle.misp_model.specs.declared.package.PackageFields.{PackageFields as Package}
use Rattle.misp_core.specs.Answers.{scene_at}
use Rattle.misp_core.specs.Effects.{asked_over, asked_where, refused}
use Rattle.misp_core.specs.HandedGroups.{groups_put}
use Rattle.misp_core.specs.Prelude.{Ask, Caller, Effect, Group, Host, Row, Seen, forbidden, is_permitted, read_where, seeing}
use Rattle.misp_core.specs.Taking.{groups_taken, package_taken}
use Rattle.misp_core.specs.declared.reply.Reply.{Reply}
use Rattle.misp_core.proofs.HandedAsks.{asked_handed}
use Rattle.misp_protocol.specs.declared.cause.Body.{Body}
use Rattle.misp_protocol.specs.declared.cause.Cause.{Cause}
use Rattle.misp_protocol.specs.declared.request.Answer.{Answer}
use Rattle.misp_client.proofs.Moments.{called_puts_nothing}
use Rattle.misp_client.proofs.Suiting.{few_groups, few_rows}
use Rattle.misp_client.specs.Answers.{or_garbled}
use Rattle.misp_client.specs.Bodies.{at_most}
use Rattle.misp_client.specs.Calling.{called, called_as, is_short, too_large}
use Rattle.misp_client.specs.Calls.{body_of}
use Rattle.misp_client.specs.Telling.{told}
use Rattle.misp_client.specs.declared.call.Call.{Call}

-- where the reply tells a refusal, no batch is put
abbrev pub RefusesBare : Call → Effect Reply → Type 0
RefusesBare call e = (cause : Cause) → told call e.reply ≡ Err cause → e.batches ≡ []

-- ---- what was taken is no refusal

-- a number that is not greater than another is told
pub told_at_most : (most count : ℕ) → count ≤ most → or_garbled Body.Taken (option_map Answer.Taken (at_most most count)) ≡ Ok (Answer.Taken count)
told_at_most most count few = grind (arith, nat_tests, few)

pub no_refusal : (answer : Answer) (cause : Cause) → ◌≡◌ {A = Result Answer Cause} (Ok answer) (Err cause) → ⊥
no_refusal answer cause h = cc

taken_told : (most n : ℕ) → n ≤ most → (cause : Cause) → or_garbled Body.Taken (option_map Answer.Taken (at_most most n)) ≡ Err cause → ⊥
taken_told most n le cause h = no_refusal (Answer.Taken n) cause (sym (told_at_most most n le) ∙ h)

-- ---- groups

groups_bare : (caller : Caller) (gs known : List Group) (may : Bool)
    → RefusesBare (Call.TakeGroups gs) (if may then groups_put (groups_taken known (map uncarried gs)) else refused (no_permission Perm.Sync))
groups_bare caller gs known true = λ cause h.
    let few = few_groups known (map uncarried gs) in
    let same = length-map gs uncarried in
    absurd (taken_told (length gs) (length (groups_taken known (map uncarried gs))) (omega (arith, few, same)) cause h)
groups_bare caller gs known false = λ cause h. refl

-- ---- a package

module _ (peer : Host) (now : ℕ) (caller : Caller) (p : Package) (seen : Seen) where
  over_bare : (read : Result (List Row) (List ℕ)) → RefusesBare (Call.TakePart p) (asked_over peer now (caller, Ask.TakePart p) seen.groups read)
  over_bare (Ok rows) =
      let scene = seeing (scene_at peer now caller seen.groups) rows in
      let taken = package_taken scene.at scene.rows scene.groups scene.by p in
      let few = few_rows scene.at scene.rows scene.groups p scene.by in
      subst (RefusesBare (Call.TakePart p)) (sym (asked_handed peer.admin scene p)) (λ cause h. absurd (taken_told (length p.rows) (length taken) few cause h))
  over_bare (Err name) = λ cause h. refl

  part_bare : (may : Bool) → RefusesBare (Call.TakePart p) (if may then asked_where peer now (caller, Ask.TakePart p) seen else refused (forbidden (Ask.TakePart p)))
  part_bare true = over_bare (read_where peer now (caller, Ask.TakePart p) seen)
  part_bare false = λ cause h. refl

-- ---- any call

module _ (peer : Host) (now : ℕ) (key : List ℕ) (seen : Seen) where
  groups_as : (gs : List Group) (found : Option Caller) → RefusesBare (Call.TakeGroups gs) (called_as peer now found (Call.TakeGroups gs) seen)
  groups_as gs None = λ cause h. refl
  groups_as gs (Some caller) = groups_bare caller gs seen.groups (permits caller.role Perm.Sync)

  part_as : (p : Package) (found : Option Caller) → RefusesBare (Call.TakePart p) (called_as peer now found (Call.TakePart p) seen)
  part_as p None = λ cause h. refl
  part_as p (Some caller) = part_bare peer now caller p seen (is_permitted caller (Ask.TakePart p))

  short_bare : (call : Call) (short : Bool) → RefusesBare call (called_as peer now (who_of peer.admin key) call seen)
      → RefusesBare call (if short then called_as peer now (who_of peer.admin key) call seen else refused too_large)
  short_bare call true h = h
  short_bare call false h = λ cause h. refl

  pub refused_bare : (call : Call) → RefusesBare call (called peer now key call seen)
  refused_bare Call.Groups = λ cause h. called_puts_nothing peer now seen key Call.Groups tt
  refused_bare Call.Manifest = λ cause h. called_puts_nothing peer now seen key Call.Manifest tt
  refused_bare (Call.Rows w) = λ cause h. called_puts_nothing peer now seen key (Call.Rows w) tt
  refused_bare (Call.TakeGroups gs) = short_bare (Call.TakeGroups gs) (is_short (body_of (Call.TakeGroups gs))) (groups_as gs (who_of peer.admin key))
  refused_bare (Call.TakePart p) = short_bare (Call.TakePart p) (is_short (body_of (Call.TakePart p))) (part_as p (who_of peer.admin key))
