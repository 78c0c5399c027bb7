-- The laws are lemmas of proofs/ByPackages.antt.
use Rattle.misp_history.proofs.AsNew.{tables_sorted}
use Rattle.misp_history.specs.History.{tables}
use Rattle.misp_history.proofs.ByPackages.{merged_packages, merged_whole, next_taken}
use Rattle.misp_history.proofs.synchronising.packages_are_merged_one_by_one.Goals as goal

pub returns : goal.returns
returns c = record {
  some = λ i rows groups coming w ps t a q. merged_packages i rows groups coming t w a ps q;
  all = λ log i groups coming w ps t a q f. merged_whole i (tables log i) groups coming t w a ps q (tables_sorted log i) f;
  next = λ i rows groups coming w ps p t a q r. next_taken i rows groups coming t w a ps q p r;
}
