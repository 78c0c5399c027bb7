use Rattle.std.proofs.Common.{sym, ap, ◌∙◌, ◌++◌, append-nil}
use Rattle.misp_store.proofs.Rewriting.{not_anew, one_anew}
use Rattle.misp_store.proofs.renewing.add_rewritten.Goals as goal

pub returns-in_ok-push-in-Some-clause-ok : goal.returns-in_ok-push-in-Some-clause-ok
returns-in_ok-push-in-Some-clause-ok c =
    c.in_ok-push-in-Some.ensures.items ∙ ap (λ more. c.args.anew.now.items ++ more) (sym (one_anew c.args.raw.now _ c.in_ok-row.ensures.ok c.in-Some.row c.in-Some.is))

pub returns-in-None-clause-ok : goal.returns-in-None-clause-ok
returns-in-None-clause-ok c =
    sym (append-nil c.args.anew.now.items) ∙ ap (λ more. c.args.anew.now.items ++ more) (sym (not_anew c.args.raw.now _ c.in_ok-row.ensures.ok c.in-None.is))
