use Rattle.std.proofs.Common.{◌++◌, ◌∷◌, [], List, ap, sym, ◌∙◌, map, filter, eqb, true}
use Rattle.misp_ids.specs.Stamp.{next_stamp as next_of}
use Rattle.misp_model.proofs.Prelude.{Row}
use Rattle.misp_copies.proofs.Stamps.{next_is, next_none}
use Rattle.misp_publish.specs.Release.{at_stamp, cleared_row, is_released}
use Rattle.misp_publish.proofs.ReleaseLemmas.{publishes, limit_is}
use Rattle.misp_publish.proofs.releasing.release_event.Goals as goal

pub returns-in-None-clause-limit : goal.returns-in-None-clause-limit
returns-in-None-clause-limit c = λ s own _.
    limit_is s c.args.event.now c.args.own.now own
    ∙ next_none c.args.own.now.stamp c.args.now (ap (λ (r : Row). next_of r.stamp c.args.now) (sym c.own.view_is) ∙ sym c.in-None.ensures)

pub returns-clause-ok : goal.returns-clause-ok
returns-clause-ok c = λ s rows by now own.
    let stamp = next_is c.args.own.now.stamp c.args.now c.in-Some.stamp (ap (λ (r : Row). next_of r.stamp c.args.now) (sym c.own.view_is) ∙ sym c.in-Some.ensures) in
    let done = publishes s c.args.event.now c.args.rows.now c.args.owner.now rows by c.args.own.now c.args.now now own stamp.0 in
    let cleared : List Row = map cleared_row (filter (is_released c.args.owner.now c.args.event.now) c.args.rows.now) in (
      done.0,
      c.in_ok-with_cleared.ensures.all
          ∙ ap (λ xs. xs ++ cleared)
          (c.in_ok-push.ensures.items ∙ ap (λ xs. xs ++ c.in_ok-published_row.field-0 ∷ []) c.in_ok-made.ensures.items
          ∙ ap (λ r. r ∷ []) (c.in_ok-published_row.ensures.value ∙ ap (λ n. at_stamp n c.args.now c.args.own.now) stamp.1))
          ∙ done.1,
    )
