use Rattle.std.proofs.Common.{sym, ◌∙◌, ap, false, subst, is_lt, nat_cmp}
use Rattle.misp_elem.specs.Prelude.{IsRow, slice_cmp}
use Rattle.misp_view.proofs.Origins.{both_told, one_told, none_told}
use Rattle.misp_elem.specs.Spelling as spelling
use Rattle.misp_view.proofs.order.rest_goes_before.Goals as goal

pub returns-in-Some-origin : goal.returns-in-Some-origin
returns-in-Some-origin c =
    both_told c.args.a.now.key c.args.b.now.key c.in-Some.first c.in-Some-origin.second c.is_earlier.result (sym c.origin.ensures ∙ c.in-Some.is) (sym c.origin-in-Some.ensures ∙ c.in-Some-origin.is) c.is_earlier.ensures

pub returns-in-None-origin : goal.returns-in-None-origin
returns-in-None-origin c = one_told c.args.a.now.key c.args.b.now.key c.in-Some.first false (sym c.origin.ensures ∙ c.in-Some.is) (sym c.origin-in-Some.ensures ∙ c.in-None-origin.is)

pub returns-in-None : goal.returns-in-None
returns-in-None c =
    none_told c.args.a.now.key c.args.b.now.key c.is_lt.result (subst IsRow c.a.view_is c.a.invariant).1.0 (subst IsRow c.b.view_is c.b.invariant).1.0 (sym c.origin.ensures ∙ c.in-None.is)
    (c.is_lt.ensures ∙ ap is_lt c.compare_keys.ensures ∙ (λ i. is_lt (slice_cmp nat_cmp (spelling.key (c.a.view_is i).key) (spelling.key (c.b.view_is i).key))))
