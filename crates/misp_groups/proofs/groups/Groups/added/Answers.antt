use Rattle.std.proofs.Common.{◌≡◌, true, None, Some, ◌∙◌, ap, sym}
use Rattle.misp_groups.specs.Prelude.{known_group, same_org}
use Rattle.misp_groups.proofs.Changes.{exists, is_new}
use Rattle.misp_groups.proofs.Planned.{now_added}
use Rattle.misp_groups.proofs.groups.Groups.added.Goals as goal

pub returns-in-Some-clause-err : goal.returns-in-Some-clause-err
returns-in-Some-clause-err c =
    let own : same_org c.args.by.now c.args.group.id.creator ≡ true = ap (λ g. same_org c.args.by.now g.id.creator) (sym c.group.view_is) ∙ sym c.is_creator.ensures ∙ c.if-not-is_creator.false in
    let known : known_group c.args.self.now c.args.group.id ≡ Some c.in-Some.field-0.now = sym (c.in-Some.ensures ∙ ap (λ g. known_group c.args.self.now g.id) c.group.view_is) in
    exists c.args.self.now c.args.by.now c.args.group.id own c.in-Some.field-0.now known

pub returns-in-None-clause-free : goal.returns-in-None-clause-free
returns-in-None-clause-free c =
    let own : same_org c.args.by.now c.args.group.id.creator ≡ true = ap (λ g. same_org c.args.by.now g.id.creator) (sym c.group.view_is) ∙ sym c.is_creator.ensures ∙ c.if-not-is_creator.false in
    let known : known_group c.args.self.now c.args.group.id ≡ None = sym (c.in-None.ensures ∙ ap (λ g. known_group c.args.self.now g.id) c.group.view_is) in
    is_new c.args.self.now c.args.by.now c.args.group.id own known

pub returns-in-None-clause-group : goal.returns-in-None-clause-group
returns-in-None-clause-group c =
    let known : known_group c.args.self.now c.args.group.id ≡ None = sym (c.in-None.ensures ∙ ap (λ g. known_group c.args.self.now g.id) c.group.view_is) in
    c.home.ensures ∙ now_added c.args.self.now c.args.group c.args.now known
