use Rattle.misp_core.proofs.OwnRows.{wants, wants_some}
use Rattle.misp_core.proofs.wanting.wanted_keys.Goals as goal

pub returns-in-Ok-wanted-clause-found : goal.returns-in-Ok-wanted-clause-found
returns-in-Ok-wanted-clause-found g c = wants _ _ _ _ _ _ (c.in-Ok-wanted.ensures _ c.in-Ok.ensures.own)

pub returns-in-Ok-wanted-clause-some : goal.returns-in-Ok-wanted-clause-some
returns-in-Ok-wanted-clause-some g c = wants_some _ _ _ _ _ _ (c.in-Ok-wanted.ensures _ c.in-Ok.ensures.own)
