use Rattle.std.proofs.Common.{◌≡◌, map}
use Rattle.toml.specs.View.{members_view}
use Rattle.misp_script.specs.Entries.{none_beside}
use Rattle.misp_script.specs.Seen.{body_of}
use Rattle.misp_script.proofs.listed.Listed.none_beside.Given as goal

-- what is left to look at gives all
abbrev pub invariant-loop-name : goal.invariant-loop-name
invariant-loop-name l = none_beside (body_of l.self).path (map (λ n. n.now) l.names) (members_view l.name-iterator) ≡ none_beside (body_of l.self).path (map (λ n. n.now) l.names) (members_view l.fn.table.entries)
