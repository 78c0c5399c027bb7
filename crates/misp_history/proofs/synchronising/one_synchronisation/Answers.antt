-- The laws are lemmas of proofs/Merging.antt.
use Rattle.misp_history.proofs.Merging.{synced_here, synced_elsewhere}
use Rattle.misp_history.proofs.synchronising.one_synchronisation.Goals as goal

pub returns : goal.returns
returns c = record { here = synced_here; elsewhere = synced_elsewhere }
