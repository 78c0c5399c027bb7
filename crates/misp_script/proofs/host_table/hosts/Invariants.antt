use Rattle.std.proofs.Common.{◌≡◌, [], drop, map}
use Rattle.toml.specs.View.{view}
use Rattle.misp_script.specs.Entries.{each}
use Rattle.misp_script.specs.Tables.{next_host}
use Rattle.misp_script.proofs.host_table.hosts.Given as goal

-- what is left to read, onto what was read, is all
abbrev pub invariant-loop-index : goal.invariant-loop-index
invariant-loop-index l = each (next_host l.orgs) l.index l.hosts (map view (drop l.index l.list)) ≡ each (next_host l.orgs) 0 [] (map view l.list)
