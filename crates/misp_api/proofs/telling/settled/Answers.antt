use Rattle.std.proofs.Common.{◌≡◌, ◌∙◌, Err, ap, arith, sym, subst}
use Rattle.std.proofs.lemmas.Bool.{true≢false}
use Rattle.misp_outside.proofs.Reporting.{silent_still}
use Rattle.misp_core.proofs.Carried.{DidThere, settled_did, stopped_did}
use Rattle.misp_core.specs.Effects.{stop_in, by_keeper}
use Rattle.misp_api.proofs.Told.{no_stop_in, stopped_keeper}
use Rattle.misp_api.proofs.telling.settled.Goals as goal

pub returns-in-Ok-clause-text : goal.returns-in-Ok-clause-text
returns-in-Ok-clause-text g c = c.in-Ok.ensures.left ∙ c.requires.text

pub returns-in-Ok-clause-done : goal.returns-in-Ok-clause-done
returns-in-Ok-clause-done g c = λ p e same some plans.
    subst (λ reply. DidThere e c.args.instance.now.held reply c.put_or_refuse.new.instance.held) (sym same)
    (settled_did p c.args.put e _ _ plans some c.in-Ok.ensures.storable c.in-Ok.ensures.put)

pub returns-in-Ok-clause-refused : goal.returns-in-Ok-clause-refused
returns-in-Ok-clause-refused g c = λ refused. absurd (c.requires.answer refused)

pub returns-in-Ok-clause-long : goal.returns-in-Ok-clause-long
returns-in-Ok-clause-long g c = λ long. absurd (omega (arith, long, c.requires.short))

pub returns-in-Ok-clause-octets : goal.returns-in-Ok-clause-octets
returns-in-Ok-clause-octets g c = λ is. absurd (true≢false (sym is ∙ c.requires.no_octets))

pub returns-in-Ok-clause-silent : goal.returns-in-Ok-clause-silent
returns-in-Ok-clause-silent g c = silent_still _ _ _ c.in-Ok.ensures.put

pub returns-in-Ok-clause-cause : goal.returns-in-Ok-clause-cause
returns-in-Ok-clause-cause g c = record {
  later = c.put_or_refuse.ensures.cause.later;
  rose = λ is. absurd (no_stop_in c.args.reply c.requires.answer is);
}

pub returns-in-Err-clause-done : goal.returns-in-Err-clause-done
returns-in-Err-clause-done g c = λ p e same some plans. rw c.stopped_by.ensures (stopped_did c.in-Err.stop e _ _ c.in-Err.ensures.err)

pub returns-in-Err-clause-silent : goal.returns-in-Err-clause-silent
returns-in-Err-clause-silent g c = silent_still _ _ _ c.in-Err.ensures.err

pub returns-in-Err-clause-cause : goal.returns-in-Err-clause-cause
returns-in-Err-clause-cause g c = record {
  later = c.put_or_refuse.ensures.cause.later;
  rose = λ is. c.put_or_refuse.ensures.cause.rose (c.in-Err.is ∙ ap Err (stopped_keeper c.in-Err.stop (subst (λ r. stop_in r ≡ by_keeper) c.stopped_by.ensures is)));
}
