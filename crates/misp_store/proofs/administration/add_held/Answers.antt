use Rattle.std.proofs.Common.{◌∙◌, sym}
use Rattle.std.proofs.lemmas.Result.{IfErr-weaker, on_ok_weaker}
use Rattle.misp_store.proofs.AdminRows.{group_put_one, item_added, item_put, none_added, none_alone}
use Rattle.misp_store.proofs.administration.add_held.Goals as goal

pub returns-in_ok-push-in-Some-clause-groups : goal.returns-in_ok-push-in-Some-clause-groups
returns-in_ok-push-in-Some-clause-groups c = item_put c.args.row.now c.in-Some.item c.args.groups.now (sym c.in_ok-item.ensures ∙ c.in-Some.is)

pub returns-in_ok-push-in-Some-clause-items : goal.returns-in_ok-push-in-Some-clause-items
returns-in_ok-push-in-Some-clause-items c =
    c.in_ok-push-in-Some.ensures.items ∙ item_added c.args.row.now c.in-Some.item c.args.items.now.items (sym c.in_ok-item.ensures ∙ c.in-Some.is)

pub returns-in-None-clause-groups : goal.returns-in-None-clause-groups
returns-in-None-clause-groups c =
    on_ok_weaker c.put_held.result (group_put_one c.args.row.now c.args.groups.now c.put_held.new.groups (sym c.in_ok-item.ensures ∙ c.in-None.is)) c.put_held.ensures.ok

pub returns-in-None-clause-items : goal.returns-in-None-clause-items
returns-in-None-clause-items c =
    on_ok_weaker c.put_held.result (λ _. none_added c.args.row.now c.args.items.now.items (sym c.in_ok-item.ensures ∙ c.in-None.is)) c.put_held.ensures.ok

pub returns-in-None-clause-bad : goal.returns-in-None-clause-bad
returns-in-None-clause-bad c =
    IfErr-weaker c.put_held.result _ _ (λ fault. none_alone c.args.row.now fault (sym c.in_ok-item.ensures ∙ c.in-None.is)) c.put_held.ensures.bad
