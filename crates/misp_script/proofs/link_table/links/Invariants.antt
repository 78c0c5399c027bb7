use Rattle.std.proofs.Common.{◌≡◌, [], drop, map}
use Rattle.toml.specs.View.{view}
use Rattle.misp_script.specs.Entries.{each}
use Rattle.misp_script.specs.Tables.{next_link}
use Rattle.misp_script.proofs.link_table.links.Given as goal

-- what is left to read, onto what was read, is all
abbrev pub invariant-loop-index : goal.invariant-loop-index
invariant-loop-index l = each (next_link l.orgs l.hosts) l.index l.links (map view (drop l.index l.list)) ≡ each (next_link l.orgs l.hosts) 0 [] (map view l.list)
