-- What one instance does is an act among all of them.
use Rattle.std.proofs.Common.{◌≡◌, ℕ, zero, suc, ◌<◌, Bool, true, false, eqb, List, [], ◌∷◌, ◌++◌, length, get_or, set, Some, None, Result, Ok, Err, inl, inr, refl, sym, ◌∙◌, ap, subst, arith, IfOk, OnOk, if◌then◌else◌}
use Rattle.std.proofs.lemmas.List.{length-map, get_or-map, map-set, set-get_or}
use Rattle.misp_ids.specs.Refusal.{rule_number}
use Rattle.misp_outside.specs.Causes.{HasCause}
use Rattle.misp_outside.specs.Reporting.{WhereReported}
use Rattle.misp_http.specs.declared.request.Read.{Read}
use Rattle.misp_effects.specs.declared.stop.Side.TheVariants.{Here, There}
use Rattle.misp_effects.specs.Course.{IsAct}
use Rattle.misp_effects.proofs.Acting.{shown_act}
use Rattle.misp_effects.proofs.Told.{told_same}
use Rattle.misp_core.specs.Effects.{refused_by, by_keeper, rule_told, Did}
use Rattle.misp_api.specs.Answering.{replied, IsReplied}
use Rattle.misp_api.specs.Administering.{IsDone}
use Rattle.misp_api.specs.Refusing.{TurnsAway}
use Rattle.misp_api.specs.Request.{Reading}
use Rattle.misp_api.specs.Sending.{IsAnswered, read_form}
use Rattle.misp_net.specs.Acts.{act, Administers, Asks}
use Rattle.misp_net.specs.Prelude.{Effect, GroupData, Host, KeeperState, Output, Replied, Reply, Seen, Standing, Stop, group_form, grouped, host_at, host_of, hosts_of, meaning, nothing_held, seen_in, spelled, state_of, states_of}
use Rattle.misp_net.specs.Prelude.{stop_in}
use Rattle.misp_net.specs.Hosts.{nobody}
use Rattle.misp_net.specs.Meaning.{asks, silent, turned_away, IsAsFormed}
use Rattle.misp_net.specs.Text.{output_text}
use Rattle.misp_net.specs.Walk.{host_after, hosts_after}
use Rattle.misp_effects.specs.Effect as effects
use Rattle.misp_core.specs.Effects as core
use Rattle.misp_net.specs.Running as lines

-- ---- what stopped a reply

none_there : (keeper memory : Bool) → (if keeper then Some (Stop.Keeper Here) else if memory then Some (Stop.Memory Here) else None) ≡ Some (Stop.Keeper There) → ⊥
none_there true memory is = cc
none_there false true is = cc
none_there false false is = cc

-- a reply tells no stop of another keeper
never_there : (reply : Reply) → core.stop_in reply ≡ Some (Stop.Keeper There) → ⊥
never_there (Reply.Ok answer) is = cc
never_there (Reply.Refused refusal) is = none_there (eqb (rule_number refusal.name) 26) (eqb (rule_number refusal.name) 27) is

-- ---- one instance

-- what is replied at one instance is an act among all
pub instance_act : (at : ℕ) (comes : Seen → Effect Reply) (old : List Standing) (new none : Standing) (reply : Reply) → at < length old
    → WhereReported (get_or old at none).held new.held (λ held left. Did (comes (seen_in held)) held reply left)
    → HasCause (get_or old at none).faults new.faults (core.stop_in reply ≡ by_keeper)
    → IsAct Seen Output seen_in spelled stop_in (asks at comes) (states_of old) (states_of (set old at new)) (Replied reply)
instance_act at comes old new none reply lt did cause =
    shown_act seen_in spelled Replied stop_in (λ stop. refused_by (rule_told stop)) state_of at comes old new none reply lt did cause (never_there reply)

-- what was read
pub one_read : (time word at : ℕ) (read : Read) (old : List Standing) (new none : Standing) (reply : Reply) → at < length old
    → IsAnswered time word read (get_or old at none) new reply
    → lines.IsAct (hosts_of old) (act time word (Asks at read)) (states_of old) (states_of (set old at new)) (Replied reply)
one_read time word at read old new none reply lt answered =
    let host : host_at at (hosts_of old) ≡ host_of (get_or old at none) = get_or-map host_of old at none nobody lt in
    instance_act at (replied (host_at at (hosts_of old)) time (read_form (host_at at (hosts_of old)) word read)) old new none reply lt
    (subst (λ (h : Host). WhereReported (get_or old at none).held new.held (λ held left. IsReplied h time (read_form h word read) held reply left)) (sym host) answered.replied)
    answered.cause

-- the one that was asked is another then, and the others are as they were
pub hosts_answered : (time word at : ℕ) (read : Read) (old : List Standing) (new none : Standing) (reply : Reply) → at < length old
    → IsAnswered time word read (get_or old at none) new reply
    → hosts_of (set old at new) ≡ hosts_after (hosts_of old) (act time word (Asks at read)) (Replied reply)
hosts_answered time word at read old new none reply lt answered =
    let host : host_at at (hosts_of old) ≡ host_of (get_or old at none) = get_or-map host_of old at none nobody lt in
    let now : host_of new ≡ host_after (host_of (get_or old at none)) word read reply = λ i. record { name = answered.name i; admin = answered.admin i } in
    map-set host_of old at new
    ∙ ap (set (hosts_of old) at) (now ∙ ap (λ (h : Host). host_after h word read reply) (sym host))

-- a line of a group
pub one_group : (time word : ℕ) (line : GroupData) (old : List Standing) (new none : Standing) (reply : Reply) → line.at < length old
    → WhereReported (get_or old line.at none).held new.held (λ held left. IsDone time line.org line.add (group_form line.body) held reply left)
    → HasCause (get_or old line.at none).faults new.faults (core.stop_in reply ≡ by_keeper)
    → lines.IsAct (hosts_of old) (act time word (Administers line)) (states_of old) (states_of (set old line.at new)) (Replied reply)
one_group time word line old new none reply lt did cause =
    instance_act line.at (λ here. grouped time line.org line.add (group_form line.body) here.groups) old new none reply lt did cause

-- what its form refuses is put out so
pub turned_output : {A : Type 0} (form : Reading A) (old new : Standing) (reply : Reply) → TurnsAway form old new reply → IsAsFormed (turned_away form) (Replied reply)
turned_output (Ok x) old new reply away = tt
turned_output (Err refusal) old new reply away = elim away.just [ inl just ↦ inl (ap Replied just) | inr short ↦ inr (ap Replied short) ]

pub read_formed : (time word at : ℕ) (read : Read) (old : List Standing) (new none : Standing) (reply : Reply) → at < length old
    → IsAnswered time word read (get_or old at none) new reply
    → IsAsFormed (meaning (hosts_of old) (act time word (Asks at read))).formed (Replied reply)
read_formed time word at read old new none reply lt answered =
    let host : host_at at (hosts_of old) ≡ host_of (get_or old at none) = get_or-map host_of old at none nobody lt in
    turned_output (read_form (host_at at (hosts_of old)) word read) (get_or old at none) new reply
    (subst (λ (h : Host). TurnsAway (read_form h word read) (get_or old at none) new reply) (sym host) answered.formed)

pub hosts_kept : (old : List Standing) (place : ℕ) (new none : Standing) → place < length old
    → new.name ≡ (get_or old place none).name → new.admin ≡ (get_or old place none).admin → hosts_of (set old place new) ≡ hosts_of old
hosts_kept [] place new none lt name admin = absurd (omega arith)
hosts_kept (s ∷ old) zero new none lt name admin = cc
hosts_kept (s ∷ old) (suc place) new none lt name admin = ap (λ hosts. host_of s ∷ hosts) (hosts_kept old place new none (omega arith) name admin)

-- ---- no instance

-- an act that asks none puts out what it says, and leaves all as it was
pub silent_act : (output : Output) (old : List KeeperState) → stop_in output ≡ None → IsAct Seen Output seen_in spelled stop_in (silent output) old old output
silent_act output old none = record {
  places = refl;
  causes = λ place. rw none (omega arith);
  done = told_same old _ (λ tables. record {
    outcome = effects.Went;
    agree = sym none;
    output_is = refl;
    tables_are = sym (set-get_or tables 0 nothing_held);
    fits = tt;
  });
}

-- what holds of what was put out
pub of_put : {E : Type 0} (r : Result Output E) (output : Output) (P : Output → Type 0) → IfOk r (λ put. put ≡ output) → P output → IfOk r P
of_put (Ok put) output P same holds = subst P (sym same) holds
of_put (Err short) output P same holds = tt

pub text_put : {E : Type 0} (r : Result Output E) (output : Output) (before after : List ℕ) → IfOk r (λ put. put ≡ output) → OnOk r (after ≡ before ++ output_text output)
    → IfOk r (λ put. after ≡ before ++ output_text put)
text_put (Ok put) output before after same text = text ∙ ap (λ o. before ++ output_text o) (sym same)
text_put (Err short) output before after same text = tt

-- there are as many instances as before
pub hosts_long : (old new : List Standing) → hosts_of new ≡ hosts_of old → length new ≡ length old
hosts_long old new same = sym (length-map new host_of) ∙ ap length same ∙ length-map old host_of
