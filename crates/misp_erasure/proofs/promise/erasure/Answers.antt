-- The law is the lemmas of proofs/Headline.antt.
use Rattle.misp_erasure.proofs.Headline.{erasure, same_to_it, erased_run, erased_tables, erased_groups, erased_made}
use Rattle.misp_erasure.proofs.promise.erasure.Goals as goal

pub returns : goal.returns
returns c = record {
  replies = λ o net acts. erasure o net acts;
  same = λ o net acts others h. same_to_it o net acts others h;
  states = λ o net acts. erased_run o net acts;
  tables = λ o net acts more i. erased_tables o net acts more i;
  groups = λ o net acts more. erased_groups o net acts more;
  made = λ o net acts more. erased_made o net acts more;
}
