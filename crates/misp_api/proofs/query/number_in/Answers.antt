use Rattle.std.proofs.Common.{◌≡◌, ◌<◌, ◌^◌, true, length, rules, sym}
use Rattle.std.specs.Char.{is_ascii_digit}
use Rattle.std.specs.List.{list_all}
use Rattle.misp_api.proofs.Queries.{too_large}
use Rattle.misp_api.proofs.query.number_in.Goals as goal

pub returns-in_default-clause-value : goal.returns-in_default-clause-value
returns-in_default-clause-value c =
    let digits : list_all is_ascii_digit c.args.text.now ≡ true = cc in
    let some : 0 < length c.args.text.now = search rules in
    let few : c.args.most < 2 ^ 64 = search rules in
    sym (too_large c.args.most c.args.text.now few some digits c.in_default.ensures.value)
