use Rattle.std.proofs.Common.{◌∙◌, sym, Bor}
use Rattle.std.proofs.lemmas.List.Folds.{list_all-map}
use Rattle.misp_model.proofs.Prelude.{Row, false≢true}
use Rattle.misp_package.specs.Packing.{is_packable}
use Rattle.misp_package.proofs.fitting.are_packable.Goals as goal

pub returns-then-not-each_packable : goal.returns-then-not-each_packable
returns-then-not-each_packable c =
    (λ e. absurd (false≢true e), λ p. sym c.if-not-each_packable.true ∙ c.each_packable.ensures ∙ sym (list_all-map (is_packable c.args.event.now) (λ (r : Bor Row). r.now) c.args.rows.now) ∙ p.each)

pub returns : goal.returns
returns c = (
  λ e. record {
    first = c.begins_with_own.ensures.0 c.if-not-begins_with_own.false;
    each = list_all-map (is_packable c.args.event.now) (λ (r : Bor Row). r.now) c.args.rows.now ∙ sym c.each_packable.ensures ∙ c.if-not-each_packable.false;
    ascend = c.ascend.ensures.0 e;
  },
  λ p. c.ascend.ensures.1 p.ascend,
)
