use Rattle.misp_effects.proofs.Courses.{no_lines}
use Rattle.misp_effects.proofs.laws.a_course_begins.Goals as goal

pub returns : goal.returns
returns g c = no_lines _ _
