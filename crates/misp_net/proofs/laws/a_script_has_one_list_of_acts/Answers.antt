use Rattle.misp_net.proofs.Unique.{one_script}
use Rattle.misp_net.proofs.laws.a_script_has_one_list_of_acts.Goals as goal

pub returns : goal.returns
returns c = one_script
