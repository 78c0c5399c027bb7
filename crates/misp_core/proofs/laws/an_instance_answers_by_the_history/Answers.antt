-- The laws are lemmas of proofs/Keeping.antt.
use Rattle.misp_core.proofs.Keeping.{told_there, left_there, same_elsewhere, same_groups, same_made}
use Rattle.misp_core.proofs.laws.an_instance_answers_by_the_history.Goals as goal

pub returns : goal.returns
returns c = record {
  told = λ n w host now it held built keeps. told_there w host now it held built keeps n;
  left = λ net n w host now it held built older keeps fits. left_there net n w host now it held built older keeps fits;
  elsewhere = λ net n w host now it j built apart. same_elsewhere net n w host now it j apart;
  groups = λ net n w host now it. same_groups net n w host now it;
  made = λ net n w host now it. same_made net n w host now it;
}
