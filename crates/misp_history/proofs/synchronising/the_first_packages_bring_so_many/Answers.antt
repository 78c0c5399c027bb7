use Rattle.misp_history.proofs.FirstPackages.{are_bringing, by_last, is_first}
use Rattle.misp_history.proofs.synchronising.the_first_packages_bring_so_many.Goals as goal

pub returns : goal.returns
returns c = record {
  first = λ n test so ps. is_first test n so ps;
  count = λ n test so ps. are_bringing test n so ps;
  last = by_last;
}
