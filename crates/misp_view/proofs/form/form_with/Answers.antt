use Rattle.std.proofs.Common.{ap, ◌∙◌, filter}
use Rattle.misp_model.specs.Prelude.{Row}
use Rattle.misp_copies.specs.Keys.{is_about}
use Rattle.misp_view.proofs.form.form_with.Goals as goal

pub returns-in-Ok : goal.returns-in-Ok
returns-in-Ok c = record {
  row_is = c.in-Ok.ensures;
  inside = c.in_ok-inside.ensures;
  on_event = c.in_ok-on_event.ensures ∙ ap (λ k. filter (λ (r : Row). is_about k r.key) c.args.proposals.now) c.event_key.ensures;
  no_name = c.of.ensures ∙ c.new.ensures.bytes;
  no_names = c.of-in-Ok.ensures ∙ c.new-in-Ok.ensures.items;
}
