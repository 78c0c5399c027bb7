-- The laws are lemmas of proofs/Copies.antt.
use Rattle.misp_history.proofs.Copies.{copy_is, home_is, gone_is}
use Rattle.misp_history.proofs.laws.a_copy_is_as_its_event_came.Goals as goal

pub returns : goal.returns
returns c = record { copy = copy_is; home = home_is; gone = gone_is }
