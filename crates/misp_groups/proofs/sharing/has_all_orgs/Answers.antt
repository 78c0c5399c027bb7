use Rattle.std.proofs.Common.{false, sym, ap, ◌∙◌}
use Rattle.std.specs.Option.{option_map_or}
use Rattle.misp_groups.proofs.Servers.{all_orgs_of_one}
use Rattle.misp_groups.proofs.sharing.has_all_orgs.Goals as goal

pub returns-in-Some : goal.returns-in-Some
returns-in-Some c =
    let is = ap (λ o. option_map_or (λ s. s.all_orgs) o false) c.server_of.ensures ∙ sym (all_orgs_of_one c.args.servers.now c.requires c.args.name.now) in
    rw c.in-Some.is at is

pub returns-in-None : goal.returns-in-None
returns-in-None c =
    let is = ap (λ o. option_map_or (λ s. s.all_orgs) o false) c.server_of.ensures ∙ sym (all_orgs_of_one c.args.servers.now c.requires c.args.name.now) in
    rw c.in-None.is at is
