use Rattle.std.proofs.Common.{◌≡◌, take}
use Rattle.misp_script.specs.Network.{links_of}
use Rattle.misp_script.proofs.network.links_of.Given as goal

abbrev pub invariant-loop-link : goal.invariant-loop-link
invariant-loop-link l = l.own.items ≡ links_of (take l.link-index l.links) l.name
