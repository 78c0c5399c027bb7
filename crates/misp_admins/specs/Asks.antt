-- What site administrators ask, why it is refused, and what it makes.
use Rattle.std.specs.Prelude.{◌≡◌, ◌||◌, ◌&&◌, Bool, true, not, List, [], ◌∷◌, Option, None, Some, find, is_some, option_map, unwrap_or, Result, Ok, Err}
use Rattle.std.specs.Option.{option_map_or}
use Rattle.misp_ids.specs.declared.uid.OrgId.{OrgId}
use Rattle.misp_ids.specs.declared.refusal.RuleName.{RuleName}
use Rattle.misp_ids.specs.declared.refusal.RuleName.TheVariants.{OrgExists, NoOrg, KeyExists, UnknownKey, LinkExists, NoLink}
use Rattle.misp_orgs.specs.declared.link.Link.{Link}
use Rattle.misp_orgs.specs.Org.{has_org, has_org_name}
use Rattle.misp_orgs.specs.Keys.{KeyFields}
use Rattle.misp_orgs.specs.Admin.{AdminFields, link_of, record_of, who_of}
use Rattle.misp_admins.specs.declared.ask.AdminAsk.{AdminAsk}
use Rattle.misp_admins.specs.declared.ask.LinkEdit.{LinkEdit}
use Rattle.misp_admins.specs.declared.item.Item.{Item}

-- ---- why an ask is refused

-- whether a rule refuses an ask, and the rule
abbrev pub Ground : Type 0
Ground = Bool × RuleName

-- an organisation that is given is known
abbrev pub is_given_org : AdminFields → Option OrgId → Bool
is_given_org admin org = option_map_or (has_org admin.orgs) org true

-- THE TABLE: the rules of each ask that come after its permission, in their order
abbrev pub grounds_of : AdminFields → AdminAsk → List Ground
grounds_of admin (AdminAsk.AddOrg o) =
    (has_org admin.orgs o.uuid || has_org_name admin.orgs o.name, OrgExists) ∷ []
grounds_of admin (AdminAsk.AddKey k) =
    (not (has_org admin.orgs k.org), NoOrg)
    ∷ (is_some (record_of admin.keys k.key), KeyExists) ∷ []
grounds_of admin (AdminAsk.RevokeKey key) = (not (is_some (who_of admin key)), UnknownKey) ∷ []
grounds_of admin (AdminAsk.AddLink l) =
    (not (has_org admin.orgs l.holder && has_org admin.orgs l.push_org), NoOrg)
    ∷ (is_some (link_of admin.links l.name), LinkExists) ∷ []
grounds_of admin (AdminAsk.EditLink e) =
    (not (is_some (link_of admin.links e.name)), NoLink)
    ∷ (not (is_given_org admin e.holder && is_given_org admin e.push_org), NoOrg) ∷ []

-- the first of these rules that refuses
unfoldable pub first_ground : List Ground → Option RuleName
first_ground grounds = option_map (λ g. g.1) (find (λ g. g.0) grounds)

-- the first rule against an ask
abbrev pub why_not : AdminFields → AdminAsk → Option RuleName
why_not admin ask = first_ground (grounds_of admin ask)

-- ---- what an ask makes

-- the link with what the edit gives
abbrev pub link_edited : LinkEdit → Link → Link
link_edited e l = record l {
  key = unwrap_or e.key l.key;
  holder = unwrap_or e.holder l.holder;
  push_org = unwrap_or e.push_org l.push_org;
  on = unwrap_or e.on l.on;
}

abbrev pub revoked : KeyFields → KeyFields
revoked k = record k { revoked = true }

-- the organisation, key or link as it stands afterwards; of what is not there nothing
unfoldable pub item_of : AdminFields → AdminAsk → Option Item
item_of admin (AdminAsk.AddOrg o) = Some (Item.Org o)
item_of admin (AdminAsk.AddKey k) = Some (Item.Key k)
item_of admin (AdminAsk.RevokeKey key) =
    option_map (λ k. Item.Key (revoked k)) (record_of admin.keys key)
item_of admin (AdminAsk.AddLink l) = Some (Item.Link l)
item_of admin (AdminAsk.EditLink e) =
    option_map (λ l. Item.Link (link_edited e l)) (link_of admin.links e.name)

-- an ask is taken and makes this item, or this rule is the first against it
abbrev pub Decides : AdminFields → AdminAsk → Result Item RuleName → Type 0
Decides admin ask (Ok item) = (why_not admin ask ≡ None) × (item_of admin ask ≡ Some item)
Decides admin ask (Err rule) = why_not admin ask ≡ Some rule
