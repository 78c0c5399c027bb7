-- The laws are lemmas of proofs/Released.antt, in the surroundings of an act.
use Rattle.std.proofs.Common.{refl}
use Rattle.misp_history.specs.Acts.{scene, known_at}
use Rattle.misp_history.proofs.Released.{is_there, published_there}
use Rattle.misp_history.proofs.laws.a_publishing_clears_the_holds_of_its_copy.Goals as goal

pub returns : goal.returns
unfolding scene known_at
returns c = record {
  tables = λ n w act by e row accepted older found. published_there (scene n w act by) e w.log refl row found older;
  row = λ n w act by e accepted. is_there (scene n w act by) e w.log refl accepted;
}
