use Rattle.std.proofs.Common.{◌∙◌, ap, Err, sym, subst}
use Rattle.misp_api.specs.Request.{Gives, body_command, formed}
use Rattle.misp_api.proofs.Formed.{by_the_body, by_the_path, refused_form}
use Rattle.misp_api.proofs.Forms.{asks_built}
use Rattle.misp_api.proofs.asking.read_command.Goals as goal

-- the path says all
pub returns-in-Some-clause-command : goal.returns-in-Some-clause-command
returns-in-Some-clause-command c = by_the_path c.args.here.now c.args.route c.args.body.now c.args.word c.in-Some.ask (sym c.path_ask.ensures ∙ c.in-Some.is)

pub returns-in-Some-clause-built : goal.returns-in-Some-clause-built
returns-in-Some-clause-built c =
    asks_built c.args.here.now c.args.route c.args.body.now c.args.word _ (by_the_path c.args.here.now c.args.route c.args.body.now c.args.word c.in-Some.ask (sym c.path_ask.ensures ∙ c.in-Some.is))

-- the body was read
pub returns-in-Ok-clause-command : goal.returns-in-Ok-clause-command
returns-in-Ok-clause-command c = by_the_body c.args.here.now c.args.route c.args.body.now c.args.word (sym c.path_ask.ensures ∙ c.in-None.is) ∙ ap formed c.in-Ok.ensures

pub returns-in-Ok-clause-built : goal.returns-in-Ok-clause-built
returns-in-Ok-clause-built c =
    asks_built c.args.here.now c.args.route c.args.body.now c.args.word c.in-Ok.command (by_the_body c.args.here.now c.args.route c.args.body.now c.args.word (sym c.path_ask.ensures ∙ c.in-None.is) ∙ ap formed c.in-Ok.ensures)

-- or refused
pub returns-in-Err-clause-command : goal.returns-in-Err-clause-command
returns-in-Err-clause-command c =
    subst (Gives (Err c.fault.result)) (sym (by_the_body c.args.here.now c.args.route c.args.body.now c.args.word (sym c.path_ask.ensures ∙ c.in-None.is)))
    (refused_form c.in-Err.stopped c.fault.result (body_command c.args.here.now c.args.route c.args.body.now c.args.word) c.in-Err.ensures c.fault.ensures)
