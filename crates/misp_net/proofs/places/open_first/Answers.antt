use Rattle.std.proofs.Common.{◌≡◌, [], ◌∷◌}
use Rattle.misp_net.specs.declared.places.NetFault.{NetFault}
use Rattle.misp_net.specs.Prelude.{described_host, state_of}
use Rattle.misp_net.proofs.Openings.{are_opened, bad_row_told, opened_one, sound_one}
use Rattle.misp_net.proofs.places.open_first.Goals as goal

pub returns-in-Ok-clause-sound : goal.returns-in-Ok-clause-sound
returns-in-Ok-clause-sound g c = rw c.take_first.ensures.first (sound_one (g.K.Keeper.state c.take_first.result) (state_of c.in-Ok.instance) c.in-Ok.ensures.read)

pub returns-in-Ok-clause-opened : goal.returns-in-Ok-clause-opened
returns-in-Ok-clause-opened g c =
    rw c.take_first.ensures.first (opened_one (g.K.Keeper.state c.take_first.result) (state_of c.in-Ok.instance) c.in-Ok.ensures.renewed c.in-Ok.ensures.count)

pub returns-in-Ok-clause-host : goal.returns-in-Ok-clause-host
returns-in-Ok-clause-host g c =
    are_opened (described_host c.args.entry ∷ []) (c.in-Ok.instance ∷ []) (record { name = c.in-Ok.ensures.name; admin = c.in-Ok.ensures.admin }, tt)

pub returns-clause-bad_row : goal.returns-clause-bad_row
returns-clause-bad_row g c = λ is.
    let same : c.fault_of.result ≡ NetFault.BadRow = cc in
    rw c.put_first.ensures.first (bad_row_told c.in-Err.fault c.fault_of.result (g.K.Keeper.state c.in-Err.keeper) c.fault_of.ensures same c.in-Err.ensures.bad)
