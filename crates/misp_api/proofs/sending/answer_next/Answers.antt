use Rattle.std.proofs.Common.{◌∙◌, subst}
use Rattle.misp_http.specs.declared.request.Read.TheVariants as reads
use Rattle.misp_core.specs.Effects.{refused_by}
use Rattle.misp_ids.specs.declared.refusal.RuleName.{RuleName}
use Rattle.misp_api.specs.Sending.{IsAnswered}
use Rattle.misp_api.proofs.Outgoing.{request_dropped, told_so}
use Rattle.misp_api.proofs.sending.answer_next.Goals as goal

pub returns-clause-dropped : goal.returns-clause-dropped
returns-clause-dropped g c = λ time word time_is word_is long.
    let told = told_so _ word c.word-word.result (c.moment-now.ensures.word ∙ word_is) c.word-word.ensures.told in
    subst (λ w. IsAnswered time w (reads.Request c.args.request.now) c.args.instance.now c.answer.new.instance (refused_by RuleName.NoMemory)) told
    (request_dropped c.answer.result time c.word-word.result c.args.request.now c.args.instance.now c.answer.new.instance
    c.answer.ensures.formed c.answer.ensures.unformed (c.answer.ensures.kept long) c.answer.ensures.cause c.answer.ensures.name (c.answer.ensures.unchanged long))
