use Rattle.std.proofs.Common.{◌≡◌, [], drop, map}
use Rattle.misp_format.specs.Prelude.{AllByRecursion, each, items_of, path_text, view}
use Rattle.misp_format.specs.Groups.{next_server}
use Rattle.misp_format.specs.Entries.{IsSpelled}
use Rattle.misp_format.proofs.reading.group.servers_in.Given as goal

-- what is left to read, onto what was read, is all; what was read stands by its own names
abbrev pub invariant-loop-index : goal.invariant-loop-index
invariant-loop-index l =
    (each (next_server (path_text l.fn.path)) l.index l.servers.entries (items_of (map view (drop l.index l.list)))
    ≡ each (next_server (path_text l.fn.path)) 0 [] (items_of (map view l.list)))
    × AllByRecursion IsSpelled l.servers.entries
