-- The law is a lemma of proofs/Descent.antt.
use Rattle.misp_history.proofs.Descent.{run_origins}
use Rattle.misp_history.proofs.origins.each_version_has_an_origin.Goals as goal

pub returns : goal.returns
returns c = run_origins
