use Rattle.std.proofs.Common.{◌≡◌, map, drop}
use Rattle.misp_script.specs.Entries.{named_among}
use Rattle.misp_script.proofs.listed.named_among.Given as goal

-- it is among those that are left, or not at all
abbrev pub invariant-loop-known : goal.invariant-loop-known
invariant-loop-known l = named_among (map (λ n. n.now) (drop l.known-index l.names)) l.name ≡ named_among (map (λ n. n.now) l.names) l.name
