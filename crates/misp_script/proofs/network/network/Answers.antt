use Rattle.misp_script.proofs.Distinct.{are_distinct}
use Rattle.misp_script.proofs.network.network.Goals as goal

pub instances-requires : goal.instances-requires
instances-requires c = λ name.
    rw (c.as_slice.ensures, c.as_slice-2.ensures, c.as_slice-3.ensures)
    (are_distinct _ _ _ c.in_ok-orgs.orgs c.in_ok-hosts.hosts c.in_ok-keys.keys c.in_ok-links.links c.in_ok-orgs.ensures c.in_ok-keys.ensures c.in_ok-links.ensures name)
