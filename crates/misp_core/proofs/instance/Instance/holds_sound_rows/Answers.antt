use Rattle.misp_core.proofs.Carried.{sound_held}
use Rattle.misp_core.proofs.instance.Instance.holds_sound_rows.Goals as goal

pub returns : goal.returns
returns g c = rw (← c.self.view_is) (sound_held _ c.self.inside.groups c.self.invariant.beside.groups)
