-- The law is the lemmas of proofs/Headline.antt.
use Rattle.misp_erasure.proofs.Headline.{kept_is_closed, kept_has, kept_is_least}
use Rattle.misp_erasure.proofs.promise.kept_keys_are_the_least.Goals as goal

pub returns : goal.returns
returns c = record {
  closed = λ o net acts. kept_is_closed o net acts;
  has = λ o net acts. kept_has o net acts;
  least = λ keep o net acts closed kept k h. kept_is_least keep o net acts closed kept k h;
}
