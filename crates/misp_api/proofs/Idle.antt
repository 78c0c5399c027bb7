-- What is refused puts nothing.
use Rattle.std.proofs.Common.{◌≡◌, ℕ, Bool, List, [], Option, Some, None, Ok, Err, refl}
use Rattle.misp_groups.specs.Groups.{why_not}
use Rattle.misp_admins.specs.Asks.{item_of}
use Rattle.misp_admins.specs.declared.item.Item.{Item}
use Rattle.misp_core.specs.Administering.{effect_by}
use Rattle.misp_core.specs.Managing.{managed_by}
use Rattle.misp_core.proofs.Decisions.{refused_puts_none}
use Rattle.misp_core.specs.Prelude.{Seen}
use Rattle.misp_api.specs.Commands.{AsksBuilt}
use Rattle.misp_api.specs.Prelude.{Caller, Command, Commanded, Group, Held, Host, IsRefused, OrgId, Reading, RuleName, command_effect, grouped, replied, seen_in}
use Rattle.misp_api.proofs.Forms.{BuiltForm}
use Rattle.misp_admins.specs.Asks as asks

rule_idle : (why : Option RuleName) (g : Group) → IsRefused (effect_by why g).reply → (effect_by why g).batches ≡ []
rule_idle None g refused = absurd refused
rule_idle (Some rule) g refused = refl

managed_idle : (why : Option RuleName) (item : Option Item) → IsRefused (managed_by why item).reply → (managed_by why item).batches ≡ []
managed_idle None (Some item) refused = absurd refused
managed_idle None None refused = refl
managed_idle (Some rule) item refused = refl

command_idle : (host : Host) (now : ℕ) (caller : Caller) (command : Command) (seen : Seen) → AsksBuilt command → IsRefused (command_effect host now caller command seen).reply
    → (command_effect host now caller command seen).batches ≡ []
command_idle host now caller (Command.Asks ask) seen built refused = refused_puts_none host now (caller, ask) seen built refused
command_idle host now caller (Command.TakesGroups groups) seen built refused = absurd refused
command_idle host now caller (Command.Shares add g) seen built refused = rule_idle (why_not add seen.groups caller.org g.id) _ refused
command_idle host now caller (Command.Manages ask) seen built refused = managed_idle (asks.why_not host.admin ask) (item_of host.admin ask) refused

-- a request that is refused has no batch
pub request_idle : (host : Host) (now : ℕ) (form : Reading Commanded) (held : Held) → BuiltForm form → IsRefused (replied host now form (seen_in held)).reply
    → (replied host now form (seen_in held)).batches ≡ []
request_idle host now (Ok it) held built refused = command_idle host now it.0 it.1 (seen_in held) built refused
request_idle host now (Err refusal) held built refused = refl

pub group_idle : (now : ℕ) (by : OrgId) (add : Bool) (form : Reading Group) (groups : List Group) → IsRefused (grouped now by add form groups).reply
    → (grouped now by add form groups).batches ≡ []
group_idle now by add (Ok g) groups refused = rule_idle (why_not add groups by g.id) _ refused
group_idle now by add (Err refusal) groups refused = refl
