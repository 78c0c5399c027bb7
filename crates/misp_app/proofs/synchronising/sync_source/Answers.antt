use Rattle.std.proofs.Common.{◌≡◌, Ok, Err, sym, ◌∙◌, ap, subst, map, take}
use Rattle.misp_script.specs.Network.{description_at}
use Rattle.misp_script.specs.declared.fault.DescFault.{DescFault}
use Rattle.misp_effects.proofs.KeeperStates.{all_kept}
use Rattle.misp_words.specs.Words.{Sync, sync_data}
use Rattle.misp_app.specs.Status.{Wrote}
use Rattle.misp_app.specs.Source.{described, served_status, IsTold}
use Rattle.misp_app.specs.Synchronising.{dialled}
use Rattle.misp_app.proofs.Endings.{fault_ends}
use Rattle.misp_app.proofs.Synchronised.{not_described}
use Rattle.misp_app.proofs.synchronising.sync_source.Goals as goal

pub returns-in-Ok-clause-synced : goal.returns-in-Ok-clause-synced
returns-in-Ok-clause-synced g c = λ has.
    let said : described c.args.bytes.now ≡ Ok c.in-Ok.net = ap description_at (sym c.split_source.ensures.description) ∙ c.in-Ok.ensures.description in
    rw said (c.sync_net.ensures.synced has)

pub returns-in-Ok-clause-cut : goal.returns-in-Ok-clause-cut
returns-in-Ok-clause-cut g c = λ is.
    let said : described c.args.bytes.now ≡ Ok c.in-Ok.net = ap description_at (sym c.split_source.ensures.description) ∙ c.in-Ok.ensures.description in
    rw said (c.sync_net.ensures.cut is)

pub returns-in-Err-Bad-clause-told : goal.returns-in-Err-Bad-clause-told
returns-in-Err-Bad-clause-told g c = λ tells.
    let said : described c.args.bytes.now ≡ Err (DescFault.Bad c.in-Err-Bad.path c.in-Err-Bad.need) =
    ap description_at (sym c.split_source.ensures.description) ∙ (rw c.in-Err-Bad.field-0-is at c.in-Err-Bad.ensures.description) in
    subst (λ read. IsTold read (Wrote c.tell_fault.result (g.W.Sink.written c.args.sink.now) (g.W.Sink.written c.tell_fault.new.sink))) (sym said)
    (rw (c.as_str.ensures, c.in-Err-Bad.path-is, c.in-Err-Bad.need-is) at c.tell_fault.ensures.told tells)

-- memory ran out: for the line of a fault, or for the description
pub returns-in-Err-Bad-clause-cut : goal.returns-in-Err-Bad-clause-cut
returns-in-Err-Bad-clause-cut g c = λ is.
    not_described (sync_data c.args.words.now) _ _ (dialled (g.L.Dial.asks c.args.dial.now) (g.L.Dial.faults c.args.dial.now)) (all_kept (take 1 (map g.K.Keeper.state c.args.keepers.now.items)))
    (described c.args.bytes.now)

pub returns-in-Err-NoMemory-clause-cut : goal.returns-in-Err-NoMemory-clause-cut
returns-in-Err-NoMemory-clause-cut g c = λ is.
    not_described (sync_data c.args.words.now) _ _ (dialled (g.L.Dial.asks c.args.dial.now) (g.L.Dial.faults c.args.dial.now)) (all_kept (take 1 (map g.K.Keeper.state c.args.keepers.now.items)))
    (described c.args.bytes.now)

pub returns-in-Ok-clause-status : goal.returns-in-Ok-clause-status
returns-in-Ok-clause-status g c =
    let said : described c.args.bytes.now ≡ Ok c.in-Ok.net = ap description_at (sym c.split_source.ensures.description) ∙ c.in-Ok.ensures.description in
    rw said c.sync_net.ensures.status

pub returns-in-Err-Bad-clause-status : goal.returns-in-Err-Bad-clause-status
returns-in-Err-Bad-clause-status g c =
    let said : described c.args.bytes.now ≡ Err (DescFault.Bad c.in-Err-Bad.path c.in-Err-Bad.need) =
    ap description_at (sym c.split_source.ensures.description) ∙ (rw c.in-Err-Bad.field-0-is at c.in-Err-Bad.ensures.description) in
    fault_ends (Sync (sync_data c.args.words.now)) _ c.tell_fault.result c.tell_fault.ensures.ends (ap (served_status c.args.words.now.name) said)
