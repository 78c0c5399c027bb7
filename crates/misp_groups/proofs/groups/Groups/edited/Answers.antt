use Rattle.std.proofs.Common.{◌≡◌, Some, ◌∙◌, ap, sym}
use Rattle.misp_groups.specs.Audience.{known_group}
use Rattle.misp_groups.proofs.Planned.{now_edited}
use Rattle.misp_groups.proofs.groups.Groups.edited.Goals as goal

pub returns-in_ok-stamp-in-Some-clause-group : goal.returns-in_ok-stamp-in-Some-clause-group
returns-in_ok-stamp-in-Some-clause-group c =
    let known : known_group c.args.self.now c.args.group.id ≡ Some c.in-Some.held.now = sym (c.in-Some.ensures ∙ ap (λ g. known_group c.args.self.now g.id) c.group.view_is) in
    c.home.ensures ∙ now_edited c.args.self.now c.args.group c.args.now c.in-Some.held.now c.in_ok-stamp-in-Some.stamp known c.in_ok-stamp-in-Some.ensures.stamp
