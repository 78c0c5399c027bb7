use Rattle.std.proofs.Common.{◌≡◌, ◌∙◌, ap, map, take_all}
use Rattle.misp_orgs.specs.Org.{OrgFields}
use Rattle.misp_script.specs.Kept.{by_number}
use Rattle.misp_script.proofs.Places.{ascend_map}
use Rattle.misp_script.proofs.directory.orgs_of.Goals as goal

pub returns-clause-ascend : goal.returns-clause-ascend
returns-clause-ascend c =
    let is : c.loop-org.orgs.items ≡ map (λ (org : OrgFields). org.uuid) c.admin.inside.orgs =
    c.loop-org.invariant ∙ ap (map (λ (org : OrgFields). org.uuid)) (take_all _ _ c.loop-org-test.false ∙ c.as_slice-org-items.ensures) in
    rw is (ascend_map (λ (org : OrgFields). org.uuid) by_number c.admin.inside.orgs c.admin.invariant.orgs)
