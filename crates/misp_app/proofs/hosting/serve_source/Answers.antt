use Rattle.std.proofs.Common.{◌≡◌, Ok, Err, sym, ◌∙◌, ap, subst, map, take, arith}
use Rattle.std.proofs.lemmas.List.{length-map}
use Rattle.misp_script.specs.Network.{description_at}
use Rattle.misp_script.specs.declared.fault.DescFault.{DescFault}
use Rattle.misp_effects.proofs.KeeperStates.{all_kept}
use Rattle.misp_app.specs.Status.{Wrote}
use Rattle.misp_words.specs.Words.{Serve, serve_data}
use Rattle.misp_app.specs.Source.{described, served_status, IsTold}
use Rattle.misp_app.proofs.Endings.{fault_ends}
use Rattle.misp_app.proofs.Hosted.{none_described}
use Rattle.misp_app.proofs.hosting.serve_source.Goals as goal

pub returns-in-Ok-clause-served : goal.returns-in-Ok-clause-served
returns-in-Ok-clause-served g c = λ time word back coming ready has.
    let said : described c.args.bytes.now ≡ Ok c.in-Ok.net = ap description_at (sym c.split_source.ensures.description) ∙ c.in-Ok.ensures.description in
    rw said (c.serve_net.ensures.served time word back coming ready has)

pub returns-in-Err-Bad-clause-told : goal.returns-in-Err-Bad-clause-told
returns-in-Err-Bad-clause-told g c = λ tells.
    let said : described c.args.bytes.now ≡ Err (DescFault.Bad c.in-Err-Bad.path c.in-Err-Bad.need) =
    ap description_at (sym c.split_source.ensures.description) ∙ (rw c.in-Err-Bad.field-0-is at c.in-Err-Bad.ensures.description) in
    subst (λ read. IsTold read (Wrote c.tell_fault.result (g.W.Sink.written c.args.sink.now) (g.W.Sink.written c.tell_fault.new.sink))) (sym said)
    (rw (c.as_str.ensures, c.in-Err-Bad.path-is, c.in-Err-Bad.need-is) at c.tell_fault.ensures.told tells)

-- memory ran out
pub returns-in-Err-NoMemory-clause-served : goal.returns-in-Err-NoMemory-clause-served
returns-in-Err-NoMemory-clause-served g c = λ time word back coming ready has.
    let olds = map g.K.Keeper.state c.args.keepers.now.items in
    none_described time c.args.words.now.count word back coming _ _ _ _ (g.W.Sink.written c.args.sink.now) ready (described c.args.bytes.now) c.args.words.now.name (take 1 olds) olds
    (omega (arith, c.requires, length-map c.args.keepers.now.items g.K.Keeper.state, c.args.keepers.now.ok.0)) (all_kept (take 1 olds))

pub returns-in-Ok-clause-status : goal.returns-in-Ok-clause-status
returns-in-Ok-clause-status g c =
    let said : described c.args.bytes.now ≡ Ok c.in-Ok.net = ap description_at (sym c.split_source.ensures.description) ∙ c.in-Ok.ensures.description in
    rw said c.serve_net.ensures.status

pub returns-in-Err-Bad-clause-status : goal.returns-in-Err-Bad-clause-status
returns-in-Err-Bad-clause-status g c =
    let said : described c.args.bytes.now ≡ Err (DescFault.Bad c.in-Err-Bad.path c.in-Err-Bad.need) =
    ap description_at (sym c.split_source.ensures.description) ∙ (rw c.in-Err-Bad.field-0-is at c.in-Err-Bad.ensures.description) in
    fault_ends (Serve (serve_data c.args.words.now)) _ c.tell_fault.result c.tell_fault.ensures.ends (ap (served_status c.args.words.now.name) said)
