use Rattle.misp_sync.proofs.Granted.{internal_lands, package_granted, part_granted, pull_lands, push_granted, push_lands, wanted_granted}
use Rattle.misp_sync.proofs.laws.what_is_sent_was_granted.Goals as goal

pub returns : goal.returns
returns c = record {
  packages = package_granted;
  part = part_granted;
  wanted = wanted_granted;
  pushed = push_granted;
  pull = pull_lands;
  push = push_lands;
  internal = internal_lands;
}
