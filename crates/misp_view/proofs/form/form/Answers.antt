use Rattle.std.proofs.Common.{ap, sym, ◌∙◌, map, subst, List, Bor, Result, Ok, Err, IfOk, filter}
use Rattle.misp_model.specs.Prelude.{Row, in_order}
use Rattle.misp_copies.specs.Keys.{is_about}
use Rattle.misp_copies.specs.CopyView.{IsCopyView}
use Rattle.misp_view.specs.Order.{goes_before}
use Rattle.misp_view.specs.Statements.{is_least_sighting}
use Rattle.misp_view.proofs.Forming.{form_is}
use Rattle.misp_view.proofs.form.form.Goals as goal

-- the rows after references
abbrev behind : List (Bor Row) → List Row
behind list = map (λ r. r.now) list

-- what follows where there is a form
follows : {A E : Type 0} {P Q : A → Type 0} (r : Result A E) → IfOk r P → ((x : A) → P x → Q x) → IfOk r Q
follows (Ok x) holds then_ = then_ x holds
follows (Err e) holds then_ = tt

pub returns-clause-form : goal.returns-clause-form
returns-clause-form c =
    follows c.form_with.result c.form_with.ensures (λ form is.
    form_is c.args.who.now.groups.now c.args.who.now.here c.args.who.now.org c.args.event.now c.args.row.now form.row c.args.rows.now c.in_ok-copy_view.copy_view
    (subst (λ (r : Row). IsCopyView c.in_ok-copy_view.copy_view c.args.who.now.groups.now c.args.who.now.here c.args.who.now.org c.args.event.now r.owner c.args.rows.now) c.row.view_is c.in_ok-copy_view.ensures.found)
    (record { attributes = form.attributes; objects = form.objects }) c.in_ok-proposals.proposals c.in_ok-sightings.sightings form.proposals (behind c.as_slice.result.now) c.creator.result form.org_name form.group_names
    is.row_is c.creator.ensures
    (ap behind c.as_slice.ensures.value ∙ c.in_ok-told.ensures)
    c.in_ok-proposals.ensures
    (λ k. c.in_ok-sightings.ensures k
    ∙ ap (λ l. filter (λ (r : Row). is_about k r.key) (in_order goes_before (filter (is_least_sighting (behind l)) (behind l)))) (c.as_slice-2.ensures.value ∙ sym c.as_slice.ensures.value))
    is.inside is.on_event is.no_name is.no_names)
