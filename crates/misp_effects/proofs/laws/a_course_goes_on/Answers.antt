use Rattle.misp_effects.proofs.Courses.{one_more}
use Rattle.misp_effects.proofs.laws.a_course_goes_on.Goals as goal

pub returns : goal.returns
returns g c = one_more _ _
