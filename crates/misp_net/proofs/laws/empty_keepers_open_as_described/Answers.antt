use Rattle.misp_net.proofs.Openings.{described_opened}
use Rattle.misp_net.proofs.laws.empty_keepers_open_as_described.Goals as goal

pub returns : goal.returns
returns c = described_opened
