use Rattle.std.proofs.Common.{◌≡◌, take}
use Rattle.misp_script.specs.Network.{keys_of}
use Rattle.misp_script.proofs.network.keys_of.Given as goal

abbrev pub invariant-loop-key : goal.invariant-loop-key
invariant-loop-key l = l.own.items ≡ keys_of (take l.key-index l.keys) l.name
