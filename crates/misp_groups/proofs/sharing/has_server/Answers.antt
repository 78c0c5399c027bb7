use Rattle.std.proofs.Common.{◌∙◌}
use Rattle.misp_lists.proofs.Searching.{any_from_find}
use Rattle.misp_ids.specs.Same.{same_inst}
use Rattle.misp_groups.proofs.sharing.has_server.Goals as goal

pub returns : goal.returns
returns c = c.is_some.ensures ∙ any_from_find (λ s. same_inst s.name c.args.name.now) (λ s. s.now) c.args.servers.now c.server_of.result c.server_of.ensures
