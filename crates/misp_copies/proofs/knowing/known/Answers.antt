use Rattle.std.proofs.Common.{◌||◌, rules, ◌∙◌, subst, List}
use Rattle.std.proofs.lemmas.Fn.{filter_same}
use Rattle.misp_model.specs.Prelude.{Row, same_org}
use Rattle.misp_copies.specs.Grants.{IsGrants, granted_in}
use Rattle.misp_copies.proofs.Granted.{known_is}
use Rattle.misp_copies.proofs.knowing.known.Goals as goal

pub returns : goal.returns
returns c =
    let of_rows : IsGrants c.in_ok-grants.grants c.args.groups.now c.args.here.now c.args.org.now c.args.rows.items =
    subst (λ (rows : List Row). IsGrants c.in_ok-grants.grants c.args.groups.now c.args.here.now c.args.org.now rows) c.as_slice.ensures.value c.in_ok-grants.ensures in
    filter_same _ (λ row. same_org row.owner c.args.org.now || granted_in c.in_ok-grants.grants c.args.groups.now c.args.here.now c.args.org.now row) _ (λ x r f k. search rules) _ _ c.retain.ensures.filtered
    ∙ known_is c.args.groups.now c.args.here.now c.args.org.now c.args.rows.items c.in_ok-grants.grants of_rows
