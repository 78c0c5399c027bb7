use Rattle.std.proofs.Common.{rules, ◌≡◌, Ok, Err, sym, ◌∙◌, ap, subst, map}
use Rattle.misp_script.specs.Network.{description_at}
use Rattle.misp_script.specs.Source.{script_part}
use Rattle.misp_script.specs.declared.fault.DescFault.{DescFault}
use Rattle.misp_net.specs.Carrying.{carried}
use Rattle.misp_net.specs.Prelude.{AreDistinct, described_hosts}
use Rattle.misp_net.proofs.Apart.{net_is_distinct}
use Rattle.misp_words.specs.Words.{Net}
use Rattle.misp_app.specs.Net.{shown_text}
use Rattle.misp_app.specs.Status.{Wrote}
use Rattle.misp_app.specs.Source.{described, described_status, IsTold}
use Rattle.misp_app.proofs.Endings.{after_ends, by_keeper, by_row, fault_ends, put_ends}
use Rattle.misp_app.proofs.Netted.{ran_ends, stopped_ends, undescribed}
use Rattle.misp_app.proofs.running.run_source.Goals as goal

-- ---- its lines were run

pub returns-in-Ok-run_net-clause-net : goal.returns-in-Ok-run_net-clause-net
returns-in-Ok-run_net-clause-net g c =
    let said : described c.args.bytes.now ≡ Ok c.in-Ok.net = ap description_at (sym c.split_source.ensures.description) ∙ c.in-Ok.ensures.description in
    let distinct : AreDistinct (described_hosts c.in-Ok.net) = search (rules, net_is_distinct) in
    rw (said, ← c.split_source.ensures.script)
    (ran_ends (shown_text c.args.shown) c.in-Ok.net _ _ _ _ _ _ _ _ c.put_shown.result distinct c.in-Ok-run_net.ensures.sound c.in-Ok-run_net.ensures.ran c.put_shown.ensures.ends (rw c.deref.ensures.value at c.put_shown.ensures.wrote))

pub returns-in-Ok-run_net-clause-status : goal.returns-in-Ok-run_net-clause-status
returns-in-Ok-run_net-clause-status g c =
    let said : described c.args.bytes.now ≡ Ok c.in-Ok.net = ap description_at (sym c.split_source.ensures.description) ∙ c.in-Ok.ensures.description in
    put_ends Net _ c.put_shown.result c.put_shown.ensures.ends (ap described_status said)

-- ---- they were not, or not all

pub returns-in-Err-clause-net : goal.returns-in-Err-clause-net
returns-in-Err-clause-net g c =
    let said : described c.args.bytes.now ≡ Ok c.in-Ok.net = ap description_at (sym c.split_source.ensures.description) ∙ c.in-Ok.ensures.description in
    rw (said, ← c.split_source.ensures.script)
    (stopped_ends (shown_text c.args.shown) c.in-Ok.net _ _ _ _ _ _ _ c.in-Err.fault c.from.result c.from.ensures c.in-Err.ensures.stopped)

pub returns-in-Err-clause-status : goal.returns-in-Err-clause-status
returns-in-Err-clause-status g c =
    let said : described c.args.bytes.now ≡ Ok c.in-Ok.net = ap description_at (sym c.split_source.ensures.description) ∙ c.in-Ok.ensures.description in
    after_ends Net _ c.in-Err.fault c.from.result c.from.ensures (ap described_status said)

pub returns-in-Err-clause-keeper : goal.returns-in-Err-clause-keeper
returns-in-Err-clause-keeper g c = λ is.
    let said : described c.args.bytes.now ≡ Ok c.in-Ok.net = ap description_at (sym c.split_source.ensures.description) ∙ c.in-Ok.ensures.description in
    rw said (by_keeper _ _ _ _ _ _ c.in-Err.fault c.from.result c.from.ensures c.in-Err.ensures.stopped is)

pub returns-in-Err-clause-bad_row : goal.returns-in-Err-clause-bad_row
returns-in-Err-clause-bad_row g c = λ is.
    let said : described c.args.bytes.now ≡ Ok c.in-Ok.net = ap description_at (sym c.split_source.ensures.description) ∙ c.in-Ok.ensures.description in
    rw said (by_row _ _ _ _ _ _ c.in-Err.fault c.from.result c.from.ensures c.in-Err.ensures.stopped is)

-- ---- the description has a fault

pub returns-in-Err-Bad-clause-told : goal.returns-in-Err-Bad-clause-told
returns-in-Err-Bad-clause-told g c = λ tells.
    let said : described c.args.bytes.now ≡ Err (DescFault.Bad c.in-Err-Bad.path c.in-Err-Bad.need) =
    ap description_at (sym c.split_source.ensures.description) ∙ (rw c.in-Err-Bad.field-0-is at c.in-Err-Bad.ensures.description) in
    subst (λ read. IsTold read (Wrote c.tell_fault.result (g.W.Sink.written c.args.sink.now) (g.W.Sink.written c.tell_fault.new.sink))) (sym said)
    (rw (c.as_str.ensures, c.in-Err-Bad.path-is, c.in-Err-Bad.need-is) at c.tell_fault.ensures.told tells)

pub returns-in-Err-Bad-clause-status : goal.returns-in-Err-Bad-clause-status
returns-in-Err-Bad-clause-status g c =
    let said : described c.args.bytes.now ≡ Err (DescFault.Bad c.in-Err-Bad.path c.in-Err-Bad.need) =
    ap description_at (sym c.split_source.ensures.description) ∙ (rw c.in-Err-Bad.field-0-is at c.in-Err-Bad.ensures.description) in
    fault_ends Net _ c.tell_fault.result c.tell_fault.ensures.ends (ap described_status said)

pub returns-in-Err-Bad-clause-net : goal.returns-in-Err-Bad-clause-net
returns-in-Err-Bad-clause-net g c =
    let said : described c.args.bytes.now ≡ Err (DescFault.Bad c.in-Err-Bad.path c.in-Err-Bad.need) =
    ap description_at (sym c.split_source.ensures.description) ∙ (rw c.in-Err-Bad.field-0-is at c.in-Err-Bad.ensures.description) in
    rw said tt

-- memory ran out
pub returns-in-Err-NoMemory-clause-net : goal.returns-in-Err-NoMemory-clause-net
returns-in-Err-NoMemory-clause-net g c =
    undescribed (shown_text c.args.shown) (map g.K.Keeper.state c.args.keepers.now.items) (carried (g.C.Carry.faults c.args.carry.now) (g.C.Carry.passed c.args.carry.now)) (g.W.Sink.written c.args.sink.now) (g.W.Sink.written c.args.sink.now)
    (described c.args.bytes.now) (script_part c.args.bytes.now)
