-- The laws are lemmas of proofs/Merging.antt.
use Rattle.misp_history.proofs.Merging.{stopped_here, done_here, stopped_elsewhere}
use Rattle.misp_history.proofs.synchronising.a_synchronisation_by_packages.Goals as goal

pub returns : goal.returns
returns c = record { stopped = stopped_here; done = done_here; elsewhere = stopped_elsewhere }
