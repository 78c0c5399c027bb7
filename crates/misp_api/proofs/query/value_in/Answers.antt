use Rattle.std.proofs.Common.{◌≡◌, length, drop, Some, None, refl, sym, ap, ◌∙◌, arith, rules, lit<}
use Rattle.std.specs.List.{slice_split}
use Rattle.std.specs.Option.{option_copied}
use Rattle.std.proofs.lemmas.List.{length_push}
use Rattle.std.proofs.lemmas.Iterator.Consumers.{YieldsList-turn, YieldsList-end}
use Rattle.std.proofs.lemmas.Iterator.Splits.{YieldsList-from_str_split}
use Rattle.misp_api.specs.Query.{is_ampersand, value_in, value_of}
use Rattle.misp_api.proofs.Queries.{first_value, first_at, first_of_none}
use Rattle.misp_api.proofs.query.value_in.Goals as goal

pub loop-piece-init : goal.loop-piece-init
unfolding value_in
loop-piece-init c = refl

pub returns-in-Some-value_of : goal.returns-in-Some-value_of
returns-in-Some-value_of c =
    let road = YieldsList-from_str_split {s = c.into_iter-piece-iterator.result} 38 c.args.query.now (lit< tt) (search rules) (search rules) (search rules) in
    let turn = YieldsList-turn road c.loop-piece.yielded _ c.loop-piece.yielded_by _ _ c.in-Some.piece c.in-Some.is c.next.ensures.steps in
    let says : Some c.in-Some-value_of.value.now ≡ value_of c.args.name.now c.in-Some.piece.now = ap option_copied (sym c.in-Some-value_of.is) ∙ c.value_of.ensures in
    sym (first_at c.args.name.now (slice_split is_ampersand c.args.query.now) (length c.loop-piece.yielded) c.in-Some.piece.now (Some c.in-Some-value_of.value.now) turn says)
    ∙ c.loop-piece.invariant

pub loop-piece-preserved : goal.loop-piece-preserved
loop-piece-preserved c =
    let road = YieldsList-from_str_split {s = c.into_iter-piece-iterator.result} 38 c.args.query.now (lit< tt) (search rules) (search rules) (search rules) in
    let turn = YieldsList-turn road c.loop-piece.yielded _ c.loop-piece.yielded_by _ _ c.in-Some.piece c.in-Some.is c.next.ensures.steps in
    let says : None ≡ value_of c.args.name.now c.in-Some.piece.now = ap option_copied (sym c.in_default.is) ∙ c.value_of.ensures in
    let pieces = slice_split is_ampersand c.args.query.now in
    ap (λ n. first_value c.args.name.now (drop n pieces)) (length_push c.loop-piece.yielded c.in-Some.piece)
    ∙ sym (first_at c.args.name.now pieces (length c.loop-piece.yielded) c.in-Some.piece.now None turn says)
    ∙ c.loop-piece.invariant

pub returns : goal.returns
returns c =
    let road = YieldsList-from_str_split {s = c.into_iter-piece-iterator.result} 38 c.args.query.now (lit< tt) (search rules) (search rules) (search rules) in
    let ends = YieldsList-end road c.loop-piece.yielded _ c.loop-piece.yielded_by _ _ c.in-None.is c.next.ensures.steps in
    sym (first_of_none c.args.name.now (slice_split is_ampersand c.args.query.now) (length c.loop-piece.yielded) (omega (arith, ends.1)))
    ∙ c.loop-piece.invariant
