-- The laws are lemmas of proofs/Manifests.antt.
use Rattle.misp_model.proofs.Manifests.{counts_said, said_of_each}
use Rattle.misp_model.proofs.laws.a_manifest_says_what_packages_have.Goals as goal

pub returns : goal.returns
returns c = record { events = said_of_each; counts = counts_said }
