use Rattle.std.proofs.Common.{◌≡◌, [], drop, map}
use Rattle.toml.specs.View.{view}
use Rattle.misp_script.specs.Entries.{each}
use Rattle.misp_script.specs.Tables.{next_key}
use Rattle.misp_script.proofs.key_table.keys.Given as goal

-- what is left to read, onto what was read, is all
abbrev pub invariant-loop-index : goal.invariant-loop-index
invariant-loop-index l = each (next_key l.orgs l.hosts) l.index l.keys (map view (drop l.index l.list)) ≡ each (next_key l.orgs l.hosts) 0 [] (map view l.list)
