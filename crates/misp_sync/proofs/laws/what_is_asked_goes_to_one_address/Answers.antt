use Rattle.misp_sync.proofs.OneAddress.{all_there}
use Rattle.misp_sync.proofs.laws.what_is_asked_goes_to_one_address.Goals as goal

pub returns : goal.returns
returns c = all_there
