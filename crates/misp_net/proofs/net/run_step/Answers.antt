use Rattle.std.proofs.Common.{◌≡◌, ◌<◌, ◌++◌, ℕ, Ok, inl, refl, subst, arith}
use Rattle.misp_script.specs.declared.step.Command.{Command}
use Rattle.misp_script.specs.declared.step.RequestLine.{RequestLine}
use Rattle.misp_script.specs.declared.step.SyncLine.{SyncLine}
use Rattle.misp_script.specs.declared.step.RawLine.{RawLine}
use Rattle.misp_script.specs.declared.step.GroupLine.{GroupLine}
use Rattle.misp_script.specs.Step.{IsPlaced, request_data, raw_data, group_data, command_data, step_data}
use Rattle.misp_effects.proofs.KeeperStates.{kept_set}
use Rattle.misp_net.specs.Prelude.{hosts_of, state_of, states_of}
use Rattle.misp_net.specs.Carrying.{carried}
use Rattle.misp_net.proofs.Doing.{always_err, cut_first, group_ran, nothing_ran, on_err, on_ok, request_ran, session_cut, session_ran}
use Rattle.misp_net.proofs.Steps.{hosts_long}
use Rattle.misp_net.proofs.net.run_step.Goals as goal

-- ---- no instance is asked

pub returns-in-Nothing-clause-ran : goal.returns-in-Nothing-clause-ran
returns-in-Nothing-clause-ran g c =
    rw c.in-Nothing.is
    (on_ok c.put_nothing.result (nothing_ran c.args.step.now.time c.args.step.now.word (hosts_of c.args.instances.now.items) (states_of c.args.instances.now.items) _ _ (carried (g.C.Carry.faults c.args.carry.now) (g.C.Carry.passed c.args.carry.now))) c.put_nothing.ensures.text)

pub returns-in-Nothing-clause-cut : goal.returns-in-Nothing-clause-cut
returns-in-Nothing-clause-cut g c = always_err c.put_nothing.result (cut_first (hosts_of c.args.instances.now.items) (Ok (step_data c.args.step.now)) (states_of c.args.instances.now.items) (g.C.Carry.passed c.args.carry.now))

-- ---- a request

request_within : (count long : ℕ) (d : Command) (line : RequestLine) → IsPlaced count (command_data d) → d ≡ Command.Request line → count ≡ long → line.at < long
request_within count long d line placed is same = subst (λ n. line.at < n) same (subst (λ x. IsPlaced count (command_data x)) is placed)

pub returns-in_ok-put_request-in-Request-clause-ran : goal.returns-in_ok-put_request-in-Request-clause-ran
returns-in_ok-put_request-in-Request-clause-ran g c =
    rw c.in-Request.is
    (request_ran c.args.instances.now.items c.index_mut-instance.result.now c.put_request.new.instance c.args.step.now.time c.args.step.now.word (request_data c.in-Request.request)
    (request_within _ _ _ _ c.requires.placed c.in-Request.is c.args.instances.now.ok.0) c.in_ok-put_request-in-Request.field-0 _ _ (carried (g.C.Carry.faults c.args.carry.now) (g.C.Carry.passed c.args.carry.now))
    (rw (← c.index_mut-instance.ensures.value) c.in_ok-put_request-in-Request.ensures.requested) c.in_ok-put_request-in-Request.ensures.text)

-- its reply was not written, and nothing was put
pub returns-in_err-put_request-in-Request-clause-cut : goal.returns-in_err-put_request-in-Request-clause-cut
returns-in_err-put_request-in-Request-clause-cut g c =
    always_err c.from_residual.result
    (inl (
      kept_set state_of c.args.instances.now.items c.in-Request.request.at c.put_request.new.instance c.index_mut-instance.result.now
          (request_within _ _ _ _ c.requires.placed c.in-Request.is c.args.instances.now.ok.0)
          (rw (← c.index_mut-instance.ensures.value) c.in_err-put_request-in-Request.ensures.kept) (rw (← c.index_mut-instance.ensures.value) c.in_err-put_request-in-Request.ensures.later),
      refl,
    ))

-- ---- a session

raw_within : (count long : ℕ) (d : Command) (line : RawLine) → IsPlaced count (command_data d) → d ≡ Command.Raw line → count ≡ long → line.at < long
raw_within count long d line placed is same = subst (λ n. line.at < n) same (subst (λ x. IsPlaced count (command_data x)) is placed)

pub returns-in-Raw-clause-ran : goal.returns-in-Raw-clause-ran
returns-in-Raw-clause-ran g c =
    rw c.in-Raw.is
    (on_ok c.put_raw.result
    (λ went.
    session_ran c.args.instances.now.items c.index_mut-instance-in-Raw.result.now c.put_raw.new.instance c.args.step.now.time c.args.step.now.word (raw_data c.in-Raw.raw)
    (raw_within _ _ _ _ c.requires.placed c.in-Raw.is c.args.instances.now.ok.0) (λ text. c.put_raw.new.lines.items ≡ c.args.lines.now.items ++ text) (carried (g.C.Carry.faults c.args.carry.now) (g.C.Carry.passed c.args.carry.now))
    (rw (← c.index_mut-instance-in-Raw.ensures.value) went))
    c.put_raw.ensures.text)

pub returns-in-Raw-clause-cut : goal.returns-in-Raw-clause-cut
returns-in-Raw-clause-cut g c =
    rw c.in-Raw.is
    (on_err c.put_raw.result
    (λ went.
    session_cut c.args.instances.now.items c.index_mut-instance-in-Raw.result.now c.put_raw.new.instance c.args.step.now.time c.args.step.now.word (raw_data c.in-Raw.raw)
    (raw_within _ _ _ _ c.requires.placed c.in-Raw.is c.args.instances.now.ok.0) (g.C.Carry.passed c.args.carry.now) (rw (← c.index_mut-instance-in-Raw.ensures.value) went))
    c.put_raw.ensures.cut)

-- ---- a group

group_within : (count long : ℕ) (d : Command) (line : GroupLine) → IsPlaced count (command_data d) → d ≡ Command.Group line → count ≡ long → line.at < long
group_within count long d line placed is same = subst (λ n. line.at < n) same (subst (λ x. IsPlaced count (command_data x)) is placed)

pub returns-in_ok-put_group-in-Group-clause-ran : goal.returns-in_ok-put_group-in-Group-clause-ran
returns-in_ok-put_group-in-Group-clause-ran g c =
    rw c.in-Group.is
    (group_ran c.args.instances.now.items c.index_mut-instance-in-Group.result.now c.put_group.new.instance c.args.step.now.time c.args.step.now.word (group_data c.in-Group.group)
    (group_within _ _ _ _ c.requires.placed c.in-Group.is c.args.instances.now.ok.0) c.in_ok-put_group-in-Group.field-0 _ _ (carried (g.C.Carry.faults c.args.carry.now) (g.C.Carry.passed c.args.carry.now))
    (rw (← c.index_mut-instance-in-Group.ensures.value) c.in_ok-put_group-in-Group.ensures.administered)
    (rw (← c.index_mut-instance-in-Group.ensures.value) c.in_ok-put_group-in-Group.ensures.name) (rw (← c.index_mut-instance-in-Group.ensures.value) c.in_ok-put_group-in-Group.ensures.admin)
    c.in_ok-put_group-in-Group.ensures.text)

pub returns-in_err-put_group-in-Group-clause-cut : goal.returns-in_err-put_group-in-Group-clause-cut
returns-in_err-put_group-in-Group-clause-cut g c =
    always_err c.from_residual-in_err-put_group-in-Group.result
    (inl (
      kept_set state_of c.args.instances.now.items c.in-Group.group.at c.put_group.new.instance c.index_mut-instance-in-Group.result.now
          (group_within _ _ _ _ c.requires.placed c.in-Group.is c.args.instances.now.ok.0)
          (rw (← c.index_mut-instance-in-Group.ensures.value) c.in_err-put_group-in-Group.ensures.kept) (rw (← c.index_mut-instance-in-Group.ensures.value) c.in_err-put_group-in-Group.ensures.later),
      refl,
    ))

-- ---- a synchronisation

sync_within : (count : ℕ) (d : Command) (line : SyncLine) → IsPlaced count (command_data d) → d ≡ Command.Sync line → line.at < count
sync_within count d line placed is = subst (λ x. IsPlaced count (command_data x)) is placed

pub put_sync-requires-clause-inside : goal.put_sync-requires-clause-inside
put_sync-requires-clause-inside g c = sync_within _ _ _ c.requires.placed c.in-Sync.is

pub returns-in-Sync-clause-ran : goal.returns-in-Sync-clause-ran
returns-in-Sync-clause-ran g c = rw c.in-Sync.is c.put_sync.ensures.ran

pub returns-in-Sync-clause-cut : goal.returns-in-Sync-clause-cut
returns-in-Sync-clause-cut g c = rw c.in-Sync.is c.put_sync.ensures.cut

pub returns-in-Sync-clause-places : goal.returns-in-Sync-clause-places
returns-in-Sync-clause-places g c =
    omega (arith, hosts_long c.args.instances.now.items c.put_sync.new.instances.items c.put_sync.ensures.hosts, c.put_sync.new.instances.ok.0, c.args.instances.now.ok.0)
