-- The laws are lemmas of proofs/Steps.antt and proofs/Numbered.antt.
use Rattle.misp_history.proofs.Numbered.{step_below}
use Rattle.misp_history.proofs.Steps.{step_accepted, step_changed, step_refused, step_view, step_index, step_search, step_groups, step_pull, step_administers, step_misfit, step_nothing}
use Rattle.misp_history.proofs.laws.what_an_act_leaves.Goals as goal

pub returns : goal.returns
returns c = record {
  accepted = step_accepted;
  changed = step_changed;
  refused = step_refused;
  view = step_view;
  index = step_index;
  search = step_search;
  groups = step_groups;
  pull = step_pull;
  administers = step_administers;
  misfit = step_misfit;
  nothing = step_nothing;
  numbers = step_below;
}
