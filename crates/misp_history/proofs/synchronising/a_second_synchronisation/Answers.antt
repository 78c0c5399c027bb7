-- The laws are lemmas of proofs/Merging.antt.
use Rattle.misp_history.proofs.Merging.{synced_elsewhere, again_here, again_groups_here, again_taken, again_counted}
use Rattle.misp_history.specs.Acts.{synced}
use Rattle.misp_history.proofs.synchronising.a_second_synchronisation.Goals as goal

pub returns : goal.returns
returns c = record { here = again_here; elsewhere = λ w r. synced_elsewhere (synced w r) r; groups = again_groups_here; taken = again_taken; counted = again_counted }
