-- The law is a lemma of proofs/Finishing.antt.
use Rattle.misp_app.proofs.Finishing.{opens_empty}
use Rattle.misp_app.proofs.laws.instances_over_empty_keepers_open_with_nothing.Goals as goal

pub returns : goal.returns
returns c = λ hosts old empty enough. opens_empty hosts old empty enough
