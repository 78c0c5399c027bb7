-- Requests of an organisation that are one act of the history, and are refused alike by form and administration, are replied the same.
use Rattle.std.proofs.Common.{◌≡◌, ℕ, zero, suc, ◌<◌, Bool, true, false, List, [], ◌∷◌, length, Option, Some, None, Result, Ok, Err, refl, sym, ◌∙◌, ap, subst, arith, if◌then◌else◌, option_map}
use Rattle.misp_ids.proofs.Same.{same_inst-refl}
use Rattle.misp_ids.specs.Names.{is_api_key}
use Rattle.misp_ids.specs.Same.{same_inst, same_org}
use Rattle.misp_admins.specs.Asks.{item_of, why_not}
use Rattle.misp_admins.specs.declared.ask.AdminAsk.{AdminAsk}
use Rattle.misp_admins.specs.declared.item.Item.{Item}
use Rattle.misp_http.specs.declared.request.Read.{Read}
use Rattle.misp_http.specs.declared.request.Read.TheVariants as reads
use Rattle.misp_orgs.specs.Admin.{who_of}
use Rattle.misp_effects.specs.Run.{effect_of}
use Rattle.misp_model.specs.declared.ask.Ask.{Ask}
use Rattle.misp_model.specs.Machine.{seeing}
use Rattle.misp_model.specs.Prelude.{Key, Scene}
use Rattle.misp_erasure.specs.Erasure.{erased_act, erased_command, erased_request}
use Rattle.misp_core.specs.Administering.{administered}
use Rattle.misp_core.specs.Answers.{bare_scene}
use Rattle.misp_core.specs.Effects.{asked, asked_over, read_where, refused}
use Rattle.misp_core.specs.Managing.{item_made, managed_by}
use Rattle.misp_core.specs.Reading.{rows_read}
use Rattle.misp_core.specs.Keeping.{caller_at}
use Rattle.misp_core.specs.Partners.{partner_of}
use Rattle.misp_core.specs.Prelude.{Refusal, Row, RuleName, bare}
use Rattle.misp_api.specs.Answering.{caller_in, replied}
use Rattle.misp_api.specs.Commands.{command_effect}
use Rattle.misp_api.specs.Prelude.{Caller, Commanded, Group, Reading}
use Rattle.misp_api.specs.Sending.{read_form}
use Rattle.misp_api.specs.declared.command.Command.{Command}
use Rattle.misp_api.proofs.Forms.{AskedBy}
use Rattle.misp_net.specs.Acts.{Administers, Asks, Deed, Idle, Syncs}
use Rattle.misp_net.specs.History.{act_in, is_asker, is_of, seen_by}
use Rattle.misp_net.specs.Hosts.{nobody}
use Rattle.misp_net.specs.Meaning.{asking, caller_of, command_at, deed_meaning, making, refusal_by, refusal_in, refusal_of}
use Rattle.misp_net.specs.Prelude.{Act, AreDistinct, Effect, Host, OrgId, Replied, Reply, Seen, Went, World, host_at, meaning, told_output}
use Rattle.misp_net.proofs.Commands.{read_caller}
use Rattle.misp_history.specs.Acts as model

-- who asks is the organisation
abbrev IsBy : OrgId → Option Caller → Type 0
IsBy o caller = is_asker o (option_map (λ (c : Caller). c.org) caller) ≡ true

-- ---- what an organisation asks itself is left as it is

module _ (o : OrgId) (keep : Key → Bool) (n : ℕ) (w : World) where
  own_request : (s : Scene) (c : model.Caller) (ask : Ask) → same_org c.org o ≡ true → erased_request o keep s c ask ≡ model.Asks c ask
  unfolding erased_request
  own_request s c ask own = rw own refl

  left_making : (host : Host) (time : ℕ) (c : model.Caller) (why : Option RuleName) (item : Option Item) → same_org c.org o ≡ true
      → erased_command o keep n w (record { at = host.name; now = time; command = making c why item }) ≡ making c why item
  unfolding erased_command
  left_making host time c None (Some item) own = refl
  left_making host time c None None own = rw own refl
  left_making host time c (Some rule) None own = rw own refl
  left_making host time c (Some rule) (Some item) own = rw own refl

  left_command : (host : Host) (time : ℕ) (c : Caller) (command : Command) → same_org c.org o ≡ true
      → erased_command o keep n w (record { at = host.name; now = time; command = command_at host c command }) ≡ command_at host c command
  unfolding erased_command
  left_command host time c (Command.Asks ask) own = own_request _ (caller_at host.admin c) ask own
  left_command host time c (Command.TakesGroups groups) own = refl
  left_command host time c (Command.Shares add g) own = refl
  left_command host time c (Command.Manages ask) own = left_making host time (caller_at host.admin c) (why_not host.admin ask) (item_of host.admin ask) own

  left_asking : (host : Host) (time : ℕ) (form : Reading Commanded) (caller : Option Caller) → AskedBy caller form → IsBy o caller
      → erased_command o keep n w (record { at = host.name; now = time; command = asking form host caller }) ≡ asking form host caller
  unfolding erased_command
  left_asking host time (Ok it) caller by own = left_command host time it.0 it.1 (subst (IsBy o) by own)
  left_asking host time (Err refusal) None by own = refl
  left_asking host time (Err refusal) (Some c) by own = rw own refl

  left_deed : (hosts : List Host) (time word : ℕ) (deed : Deed) → is_asker o (deed_meaning hosts time word deed).asker ≡ true
      → erased_act o keep n w (deed_meaning hosts time word deed).act ≡ (deed_meaning hosts time word deed).act
  unfolding erased_act
  left_deed hosts time word (Idle output) own = absurd cc
  left_deed hosts time word (Administers line) own = absurd cc
  left_deed hosts time word (Syncs line) own = absurd cc
  left_deed hosts time word (Asks at read) own =
      let host : Host = host_at at hosts in
      ap (λ (command : model.Command). record { at = host.name; now = time; command = command })
      (left_asking host time (read_form host word read) (caller_of host.admin read) (read_caller host word read) own)

  pub own_left : (hosts : List Host) (act : Act) → is_of o hosts act ≡ true → erased_act o keep n w (act_in hosts act) ≡ act_in hosts act
  own_left hosts act own = left_deed hosts act.time act.word act.deed own

-- ---- what is replied

-- it depends on the organisation and the partner of the caller with the way there, and not on its role
asked_alike : (host : Host) (now : ℕ) (c d : Caller) (ask : Ask) (groups : List Group) (read : Result (List Row) (List ℕ)) → c.org ≡ d.org → partner_of c ≡ partner_of d
    → asked_over host now (c, ask) groups read ≡ asked_over host now (d, ask) groups read
asked_alike host now c d ask groups (Ok rows) org partner =
    λ i. asked host.admin (seeing (record (bare_scene host now (record { org = org i; role = c.role; partner = c.partner; internal = c.internal }) groups) { partner = partner i }) rows) ask
asked_alike host now c d ask groups (Err name) org partner = refl

ask_alike : (host : Host) (now : ℕ) (c d : Caller) (x y : Ask) (here : Seen) → c.org ≡ d.org → partner_of c ≡ partner_of d → x ≡ y
    → command_effect host now c (Command.Asks x) here ≡ command_effect host now d (Command.Asks y) here
ask_alike host now c d x y here org partner same =
    asked_alike host now c d x here.groups (read_where host now (c, x) here) org partner
    ∙ (λ i. asked_over host now (d, same i) here.groups (rows_read (bare_scene host now (record { org = org i; role = d.role; partner = d.partner; internal = d.internal }) here.groups) (same i) here.rows))

-- it makes something, or asks what changes nothing
abbrev IsMaking : model.Command → Type 0
IsMaking (model.Makes c item) = Unit {0}
IsMaking (model.Misfits c) = Unit {0}
IsMaking command = ⊥

is_making : (c : model.Caller) (why : Option RuleName) (item : Option Item) → IsMaking (making c why item)
is_making c None (Some item) = tt
is_making c None None = tt
is_making c (Some rule) None = tt
is_making c (Some rule) (Some item) = tt

-- so it is no other command
never_making : (host : Host) (d : Caller) (command : model.Command) (ask : AdminAsk) → command ≡ command_at host d (Command.Manages ask) → IsMaking command
never_making host d command ask same = subst IsMaking (sym same) (is_making (caller_at host.admin d) (why_not host.admin ask) (item_of host.admin ask))

-- what is refused is refused alike
refused_alike : (r s : Refusal) → Some (Replied (Reply.Refused r)) ≡ Some (Replied (Reply.Refused s)) → refused r ≡ refused s
refused_alike r s same = let one : r ≡ s = cc in ap refused one

-- what is made is the same, or is refused by the same
managed_alike : (c d : model.Caller) (why other : Option RuleName) (item that : Option Item) → refusal_in (managed_by why item).reply ≡ refusal_in (managed_by other that).reply
    → making c why item ≡ making d other that → managed_by why item ≡ managed_by other that
managed_alike c d None None (Some item) (Some that) told same = let one : item ≡ that = cc in ap item_made one
managed_alike c d None None (Some item) None told same = absurd cc
managed_alike c d None None None (Some that) told same = absurd cc
managed_alike c d None None None None told same = refl
managed_alike c d None (Some rule) (Some item) that told same = absurd cc
managed_alike c d None (Some rule) None that told same = refused_alike (bare RuleName.NoRoute) (bare rule) told
managed_alike c d (Some rule) None item (Some that) told same = absurd cc
managed_alike c d (Some rule) None item None told same = refused_alike (bare rule) (bare RuleName.NoRoute) told
managed_alike c d (Some rule) (Some other) item that told same = refused_alike (bare rule) (bare other) told

command_alike : (host : Host) (now : ℕ) (c d : Caller) (x y : Command) (here : Seen) → refusal_by host.admin x ≡ refusal_by host.admin y → command_at host c x ≡ command_at host d y
    → command_effect host now c x here ≡ command_effect host now d y here
command_alike host now c d (Command.Asks x) (Command.Asks y) here told same =
    let who : caller_at host.admin c ≡ caller_at host.admin d = cc in
    let what : x ≡ y = cc in
    ask_alike host now c d x y here (ap (λ (a : model.Caller). a.org) who) (ap (λ (a : model.Caller). a.partner) who) what
command_alike host now c d (Command.Asks x) (Command.TakesGroups y) here told same = absurd cc
command_alike host now c d (Command.Asks x) (Command.Shares add g) here told same = absurd cc
command_alike host now c d (Command.Asks x) (Command.Manages ask) here told same = absurd (never_making host d (model.Asks (caller_at host.admin c) x) ask same)
command_alike host now c d (Command.TakesGroups x) (Command.Asks y) here told same = absurd cc
command_alike host now c d (Command.TakesGroups x) (Command.Shares add g) here told same = absurd cc
command_alike host now c d (Command.TakesGroups x) (Command.Manages ask) here told same = absurd (never_making host d (model.Takes_groups (caller_at host.admin c) x) ask same)
command_alike host now c d (Command.Shares add g) (Command.Asks y) here told same = absurd cc
command_alike host now c d (Command.Shares add g) (Command.TakesGroups y) here told same = absurd cc
command_alike host now c d (Command.Shares add g) (Command.Manages ask) here told same = absurd (never_making host d (model.Shares (caller_at host.admin c) add g) ask same)
command_alike host now c d (Command.Manages ask) (Command.Asks y) here told same = absurd (never_making host c (model.Asks (caller_at host.admin d) y) ask (sym same))
command_alike host now c d (Command.Manages ask) (Command.TakesGroups y) here told same = absurd (never_making host c (model.Takes_groups (caller_at host.admin d) y) ask (sym same))
command_alike host now c d (Command.Manages ask) (Command.Shares add g) here told same = absurd (never_making host c (model.Shares (caller_at host.admin d) add g) ask (sym same))
command_alike host now c d (Command.Manages x) (Command.Manages y) here told same =
    managed_alike (caller_at host.admin c) (caller_at host.admin d) (why_not host.admin x) (why_not host.admin y) (item_of host.admin x) (item_of host.admin y) told same
command_alike host now c d (Command.Shares add g) (Command.Shares also h) here told same =
    let who : caller_at host.admin c ≡ caller_at host.admin d = cc in
    let adds : add ≡ also = cc in
    let what : g ≡ h = cc in
    let by : c.org ≡ d.org = ap (λ (a : model.Caller). a.org) who in
    λ i. administered now (by i) (adds i) (what i) here.groups
command_alike host now c d (Command.TakesGroups x) (Command.TakesGroups y) here told same =
    let what : x ≡ y = cc in
    ap (λ groups. command_effect host now c (Command.TakesGroups groups) here) what

-- what the administration refuses as a form is refused comes to that refusal
managed_refused : (why : Option RuleName) (item : Option Item) (refusal : Refusal) → refusal_in (managed_by why item).reply ≡ Some (Replied (Reply.Refused refusal)) → managed_by why item ≡ refused refusal
managed_refused None (Some item) refusal told = absurd cc
managed_refused None None refusal told = refused_alike (bare RuleName.NoRoute) refusal told
managed_refused (Some rule) item refusal told = refused_alike (bare rule) refusal told

command_refused : (host : Host) (now : ℕ) (c : Caller) (command : Command) (refusal : Refusal) (here : Seen) → refusal_by host.admin command ≡ Some (Replied (Reply.Refused refusal))
    → command_effect host now c command here ≡ refused refusal
command_refused host now c (Command.Asks ask) refusal here told = absurd cc
command_refused host now c (Command.TakesGroups groups) refusal here told = absurd cc
command_refused host now c (Command.Shares add g) refusal here told = absurd cc
command_refused host now c (Command.Manages ask) refusal here told = managed_refused (why_not host.admin ask) (item_of host.admin ask) refusal told

replied_alike : (host : Host) (now : ℕ) (f g : Reading Commanded) (c d : Option Caller) (here : Seen) → refusal_of host.admin f ≡ refusal_of host.admin g → asking f host c ≡ asking g host d
    → replied host now f here ≡ replied host now g here
replied_alike host now (Ok x) (Ok y) c d here told same = command_alike host now x.0 y.0 x.1 y.1 here told same
replied_alike host now (Ok x) (Err s) c d here told same = command_refused host now x.0 x.1 s here told
replied_alike host now (Err r) (Ok y) c d here told same = sym (command_refused host now y.0 y.1 r here (sym told))
replied_alike host now (Err r) (Err s) c d here told same = refused_alike r s told

-- ---- where it is asked

none_when : (is : Bool) (text : List ℕ) → (if is then who_of nobody.admin text else None) ≡ None
none_when true text = refl
none_when false text = refl

none_in : (key : Option (List ℕ)) → caller_in nobody.admin key ≡ None
none_in None = refl
none_in (Some text) = none_when (is_api_key text) text

-- at no instance nobody asks
none_asks : (o : OrgId) (read : Read) → IsBy o (caller_of nobody.admin read) → ⊥
none_asks o (reads.Refused fault) own = cc
none_asks o (reads.Request request) own = let no_ : IsBy o None = subst (IsBy o) (none_in request.key) own in cc

-- so it is asked at one of the instances
placed : (o : OrgId) (hosts : List Host) (at : ℕ) (read : Read) → IsBy o (caller_of (host_at at hosts).admin read) → at < length hosts
placed o [] zero read own = absurd (none_asks o read own)
placed o [] (suc at) read own = absurd (none_asks o read own)
placed o (host ∷ hosts) zero read own = omega arith
placed o (host ∷ hosts) (suc at) read own = let more = placed o hosts at read own in omega (arith, more)

module _ (o : OrgId) (hosts : List Host) (distinct : AreDistinct hosts) (w : World) where
  -- at one instance
  one_place : (time now word next at : ℕ) (read that : Read) → time ≡ now
      → refusal_of (host_at at hosts).admin (read_form (host_at at hosts) word read) ≡ refusal_of (host_at at hosts).admin (read_form (host_at at hosts) next that)
      → asking (read_form (host_at at hosts) word read) (host_at at hosts) (caller_of (host_at at hosts).admin read)
      ≡ asking (read_form (host_at at hosts) next that) (host_at at hosts) (caller_of (host_at at hosts).admin that)
      → (effect_of Went (deed_meaning hosts time word (Asks at read)).means (seen_by hosts w)).reply
      ≡ (effect_of Went (deed_meaning hosts now next (Asks at that)).means (seen_by hosts w)).reply
  one_place time now word next at read that same told asks_same =
      let host : Host = host_at at hosts in
      ap (λ t. Replied (replied host t (read_form host word read) (seen_by hosts w at)).reply) same
      ∙ ap (λ (e : Effect Reply). Replied e.reply)
      (replied_alike host now (read_form host word read) (read_form host next that) (caller_of host.admin read) (caller_of host.admin that) (seen_by hosts w at) told asks_same)

  deeds_alike : (time now word next : ℕ) (deed other : Deed) → is_asker o (deed_meaning hosts time word deed).asker ≡ true → is_asker o (deed_meaning hosts now next other).asker ≡ true
      → (deed_meaning hosts time word deed).act ≡ (deed_meaning hosts now next other).act → (deed_meaning hosts time word deed).refusal ≡ (deed_meaning hosts now next other).refusal
      → (effect_of Went (deed_meaning hosts time word deed).means (seen_by hosts w)).reply ≡ (effect_of Went (deed_meaning hosts now next other).means (seen_by hosts w)).reply
  deeds_alike time now word next (Idle output) other own its same told = absurd cc
  deeds_alike time now word next (Administers line) other own its same told = absurd cc
  deeds_alike time now word next (Syncs line) other own its same told = absurd cc
  deeds_alike time now word next (Asks at read) (Idle output) own its same told = absurd cc
  deeds_alike time now word next (Asks at read) (Administers line) own its same told = absurd cc
  deeds_alike time now word next (Asks at read) (Syncs line) own its same told = absurd cc
  deeds_alike time now word next (Asks at read) (Asks place that) own its same told =
      let names : (host_at at hosts).name ≡ (host_at place hosts).name = ap (λ (a : model.Act). a.at) same in
      let times : time ≡ now = ap (λ (a : model.Act). a.now) same in
      let commands = ap (λ (a : model.Act). a.command) same in
      let first : same_inst (host_at at hosts).name (host_at place hosts).name ≡ true =
      ap (λ name. same_inst (host_at at hosts).name name) (sym names) ∙ same_inst-refl (host_at at hosts).name in
      let places : at ≡ place = distinct at place (placed o hosts at read own) (placed o hosts place that its) first in
      subst (λ p.
      refusal_of (host_at at hosts).admin (read_form (host_at at hosts) word read) ≡ refusal_of (host_at p hosts).admin (read_form (host_at p hosts) next that)
      → asking (read_form (host_at at hosts) word read) (host_at at hosts) (caller_of (host_at at hosts).admin read)
      ≡ asking (read_form (host_at p hosts) next that) (host_at p hosts) (caller_of (host_at p hosts).admin that)
      → (effect_of Went (deed_meaning hosts time word (Asks at read)).means (seen_by hosts w)).reply
      ≡ (effect_of Went (deed_meaning hosts now next (Asks p that)).means (seen_by hosts w)).reply)
      places (one_place time now word next at read that times) told commands

  pub acts_alike : (act other : Act) → is_of o hosts act ≡ true → is_of o hosts other ≡ true → act_in hosts act ≡ act_in hosts other
      → (meaning hosts act).refusal ≡ (meaning hosts other).refusal → told_output Went hosts w act ≡ told_output Went hosts w other
  acts_alike act other own its same told = deeds_alike act.time other.time act.word other.word act.deed other.deed own its same told
