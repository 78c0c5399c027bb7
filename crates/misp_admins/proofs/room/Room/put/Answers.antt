use Rattle.misp_admins.proofs.Putting.{admin_put}
use Rattle.misp_admins.proofs.room.Room.put.Goals as goal

pub into_admin-requires : goal.into_admin-requires
into_admin-requires c = rw c.put.ensures (admin_put _ _ c.self.invariant.0)
