use Rattle.std.proofs.Common.{◌≡◌, Err, sym, ◌∙◌, ap, subst}
use Rattle.misp_script.specs.Network.{description_at}
use Rattle.misp_script.specs.declared.fault.DescFault.{DescFault}
use Rattle.misp_words.specs.Words.{Check}
use Rattle.misp_app.specs.Status.{Wrote}
use Rattle.misp_app.specs.Source.{described, described_status, IsTold}
use Rattle.misp_app.proofs.Endings.{fault_ends, put_ends}
use Rattle.misp_app.proofs.checking.check_source.Goals as goal

pub returns-in-Err-Bad-clause-told : goal.returns-in-Err-Bad-clause-told
returns-in-Err-Bad-clause-told g c = λ tells.
    let said : described c.args.bytes.now ≡ Err (DescFault.Bad c.in-Err-Bad.path c.in-Err-Bad.need) =
    ap description_at (sym c.split_source.ensures.description) ∙ (rw c.in-Err-Bad.field-0-is at c.in-Err-Bad.ensures.description) in
    subst (λ read. IsTold read (Wrote c.tell_fault.result (g.W.Sink.written c.args.sink.now) (g.W.Sink.written c.tell_fault.new.sink))) (sym said)
    (rw (c.as_str.ensures, c.in-Err-Bad.path-is, c.in-Err-Bad.need-is) at c.tell_fault.ensures.told tells)

pub returns-in-Err-Bad-clause-status : goal.returns-in-Err-Bad-clause-status
returns-in-Err-Bad-clause-status g c =
    let said : described c.args.bytes.now ≡ Err (DescFault.Bad c.in-Err-Bad.path c.in-Err-Bad.need) =
    ap description_at (sym c.split_source.ensures.description) ∙ (rw c.in-Err-Bad.field-0-is at c.in-Err-Bad.ensures.description) in
    fault_ends Check _ c.tell_fault.result c.tell_fault.ensures.ends (ap described_status said)

-- it is written that it is one
pub returns-in-Ok-clause-status : goal.returns-in-Ok-clause-status
returns-in-Ok-clause-status g c =
    put_ends Check _ c.put.result c.put.ensures.ends (ap described_status (ap description_at (sym c.split_source.ensures.description) ∙ c.in-Ok.ensures.description))
