-- The laws are lemmas of proofs/KeepingGroups.antt.
use Rattle.misp_core.proofs.KeepingGroups.{administered_told, fails_there, administered_left, same_log, same_made, groups_elsewhere}
use Rattle.misp_core.proofs.laws.an_instance_is_administered_by_the_history.Goals as goal

pub returns : goal.returns
returns c = record {
  told = λ here w now by add g held keeps. administered_told here w now by add g held keeps;
  left = λ net n here w now by add g held keeps fits.
      administered_left net n here w now by add g
      (record { put = c.groups_are_held_as_their_rows.ensures.put; items = c.groups_are_held_as_their_rows.ensures.items; order = c.groups_are_held_as_their_rows.ensures.order }) held keeps fits;
  tables = λ net n here w now by add g. same_log net n here w now by add g;
  elsewhere = λ net n here w now by add g j apart. groups_elsewhere net n here w now by add g j apart;
  made = λ net n here w now by add g. same_made net n here w now by add g;
  fails = λ here w by add g held keeps. fails_there here w by add g held keeps;
}
