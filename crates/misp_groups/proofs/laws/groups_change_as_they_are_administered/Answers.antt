-- The laws are lemmas of proofs/Administered.antt.
use Rattle.misp_groups.proofs.Administered.{added_is, edited_is, added_fails, edited_fails}
use Rattle.misp_groups.proofs.laws.groups_change_as_they_are_administered.Goals as goal

pub returns : goal.returns
returns c = record {
  added = λ old by g now free. added_is old by g now free;
  edited = λ old by g now free. edited_is old by g now free;
  not_added = λ old by g. added_fails old by g;
  not_edited = λ old by g up. edited_fails old by g up;
}
