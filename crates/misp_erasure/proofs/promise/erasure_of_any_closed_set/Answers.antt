-- The laws are the lemmas of proofs/Erasing.antt.
use Rattle.misp_erasure.proofs.Erasing.{replies_cut, run_cut}
use Rattle.misp_erasure.proofs.promise.erasure_of_any_closed_set.Goals as goal

pub returns : goal.returns
returns c = record {
  replies = λ keep o net n w acts closed kept. replies_cut keep closed o net n w acts kept;
  states = λ keep o net n w acts closed kept. run_cut keep closed o net n w acts kept;
}
