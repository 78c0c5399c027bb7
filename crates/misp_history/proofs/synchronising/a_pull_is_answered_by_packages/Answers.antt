-- The laws are lemmas of proofs/Pulled.antt and proofs/ManifestsAnswered.antt.
use Rattle.misp_history.proofs.ManifestsAnswered.{keys_of_packages, said_of_parts}
use Rattle.misp_history.proofs.Pulled.{groups_are, packages_are_answered, pulled_is}
use Rattle.misp_history.proofs.synchronising.a_pull_is_answered_by_packages.Goals as goal

pub returns : goal.returns
returns c = record {
  groups = groups_are;
  rows = pulled_is;
  packages = packages_are_answered;
  manifest = said_of_parts;
  keys = keys_of_packages;
}
