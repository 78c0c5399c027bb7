-- The laws are lemmas of proofs/HandedGroups.antt.
use Rattle.misp_core.proofs.HandedGroups.{groups_apart, handed_counted, handed_left, handed_told, log_stays, made_stays}
use Rattle.misp_core.proofs.laws.groups_are_handed_in_by_the_history.Goals as goal

pub returns : goal.returns
returns c = record {
  told = λ here w caller coming held keeps. handed_told here w caller coming held keeps;
  counted = λ here w caller coming may. handed_counted here w caller coming may;
  left = λ net n w host now caller coming held may keeps fits.
      handed_left net n w host now caller coming
      (record { put = c.groups_are_held_as_their_rows.ensures.put; items = c.groups_are_held_as_their_rows.ensures.items; order = c.groups_are_held_as_their_rows.ensures.order }) held may keeps fits;
  tables = λ net n w host now caller coming. log_stays net n w host now caller coming;
  elsewhere = λ net n w host now caller coming j apart. groups_apart net n w host now caller coming j apart;
  made = λ net n w host now caller coming. made_stays net n w host now caller coming;
}
