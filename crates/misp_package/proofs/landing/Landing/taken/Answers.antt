use Rattle.std.proofs.Common.{ap, subst, ◌∙◌}
use Rattle.misp_model.specs.Package.{IsPackage}
use Rattle.misp_package.specs.Landing.{taken_by}
use Rattle.misp_package.proofs.Taking.{are_carried, taken_of}
use Rattle.misp_package.proofs.landing.Landing.taken.Goals as goal

pub rows_taken-requires : goal.rows_taken-requires
rows_taken-requires c = rw c.as_slice-rows.ensures (are_carried c.get.result.now c.get.ensures.fits)

pub returns : goal.returns
returns c = λ i w held is.
    c.in_ok-rows_taken.ensures
    ∙ ap (taken_by c.args.self.now c.args.groups.now) (c.as_slice-rows.ensures ∙ ap (λ p. p.rows) c.get.ensures.value)
    ∙ taken_of c.args.coming.now (subst IsPackage c.get.ensures.value c.get.ensures.fits) c.args.self.now c.args.groups.now i w held is
