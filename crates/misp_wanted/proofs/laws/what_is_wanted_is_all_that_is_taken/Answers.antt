use Rattle.misp_wanted.proofs.Wants.{nothing_taken, wanted_is, wanted_merged, wanted_taken}
use Rattle.misp_wanted.proofs.laws.what_is_wanted_is_all_that_is_taken.Goals as goal

pub returns-clause-package : goal.returns-clause-package
returns-clause-package c = λ i held w p is. wanted_is i held w p is

pub returns-clause-taken : goal.returns-clause-taken
returns-clause-taken c = λ i held groups w p is. wanted_taken i held w p is groups

pub returns-clause-merged : goal.returns-clause-merged
returns-clause-merged c = λ i held groups w p is. wanted_merged i held w p is groups

pub returns-clause-none : goal.returns-clause-none
returns-clause-none c = λ i held groups w p is none. nothing_taken i held w p is groups none
