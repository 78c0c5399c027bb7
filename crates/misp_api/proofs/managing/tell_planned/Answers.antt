use Rattle.std.proofs.Common.{◌≡◌, ◌∙◌, Ok, IfOk, ap, sym, subst}
use Rattle.misp_core.specs.Managing.{item_made}
use Rattle.misp_core.proofs.Carried.{DidThere}
use Rattle.misp_api.specs.Planned.{PlansCommand}
use Rattle.misp_api.specs.declared.planned.Planned.{Planned}
use Rattle.misp_api.proofs.Plans.{none_planned}
use Rattle.misp_api.proofs.managing.tell_planned.Goals as goal

-- ---- rows and groups

pub returns-in-Ok-Rows-clause-done : goal.returns-in-Ok-Rows-clause-done
returns-in-Ok-Rows-clause-done g c = λ e plans.
    let is : c.args.planned ≡ Ok (Planned.Rows c.in-Ok-Rows.plan) = c.in-Ok-Rows.is ∙ ap Ok c.in-Ok-Rows.field-0-is in
    c.tell.ensures.done e (subst (λ planned. PlansCommand planned e) is plans)

-- ---- an item

pub returns-in-Ok-Made-clause-done : goal.returns-in-Ok-Made-clause-done
returns-in-Ok-Made-clause-done g c = λ e plans.
    let is : c.args.planned ≡ Ok (Planned.Made c.in-Ok-Made.item) = c.in-Ok-Made.is ∙ ap Ok c.in-Ok-Made.field-0-is in
    let makes : e ≡ item_made c.in-Ok-Made.item = subst (λ planned. PlansCommand planned e) is plans in
    subst (λ x. IfOk c.tell_made.result (λ reply. DidThere x c.args.instance.now.held reply c.tell_made.new.instance.held)) (sym makes) c.tell_made.ensures.done

-- ---- nothing

pub returns-in-Err-clause-done : goal.returns-in-Err-clause-done
returns-in-Err-clause-done g c = λ e plans. c.tell-in-Err.ensures.done e (none_planned c.in-Err.why e (subst (λ planned. PlansCommand planned e) c.in-Err.is plans))
