-- What a synchronisation lets through.
use Rattle.std.specs.Prelude.{Bool, not, ◌&&◌, List, Option, filter, false, Some, None}
use Rattle.misp_ids.specs.declared.label.Way.{Way}
use Rattle.misp_groups.specs.declared.group.GroupFields.{GroupFields as Group}
use Rattle.misp_groups.specs.Audience.{label_lets_out}
use Rattle.misp_elem.specs.declared.key.KeyForm.{KeyForm as Key}
use Rattle.misp_elem.specs.declared.key.KeyForm.TheVariants.{Element, Proposal, Reference, Sighting, Verdict}
use Rattle.misp_elem.specs.declared.row.RowFields.{RowFields as Row}
use Rattle.misp_elem.specs.Prelude.{EventId, Inst, OrgId, event_key, event_of, list_all, list_any, parents, same_key, same_org}
use Rattle.misp_model.specs.Package.{nobody}
use Rattle.misp_model.specs.View.{first_of_all, granted, is_least, is_row_of}

-- a synchronisation that runs: its way, from where, for whom, to where, into which instance, and
-- who holds what comes there
pub record Route : Type 0 where
  pub way : Way
  pub from : Inst
  pub «for» : OrgId
  pub dest : Inst
  pub into : Inst
  pub holder : OrgId

-- the one on this way from an instance, for an organisation, to an instance, where nobody holds yet
-- what comes
abbrev pub route_to : Way → Inst → OrgId → Inst → Route
route_to way here org dest =
    record {
      way = way;
      from = here;
      «for» = org;
      dest = dest;
      into = dest;
      holder = nobody;
    }

-- the row is released, and its label lets it out
unfoldable pub lets_out : List Group → Route → Row → Bool
lets_out groups route row =
    not row.held && label_lets_out groups route.way route.«for» route.dest row.label

-- the event row of the copy that is sent: the chosen one of those that are granted and let out
unfoldable pub sent_copy : List Row → List Group → Route → EventId → Option Row
sent_copy rows groups route e =
    first_of_all (filter (λ row.
    same_key row.key (event_key e)
    && (granted rows groups route.from route.«for» row && lets_out groups route row)) rows)

-- the owner's copy is the one that is sent
unfoldable pub is_sent_owner : Option Row → OrgId → Bool
is_sent_owner None w = false
is_sent_owner (Some row) w = same_org row.owner w

-- an element or reference passes: it is of the copy that is sent, granted, and it and its parents
-- let out
unfoldable pub element_passes : List Row → List Group → Route → Row → Bool
element_passes rows groups route row =
    is_sent_owner (sent_copy rows groups route (event_of row.key)) row.owner
    && granted rows groups route.from route.«for» row && lets_out groups route row
    && list_all (λ k. list_any (λ r. is_row_of row.owner k r && lets_out groups route r) rows)
    (parents row.key)

-- the element of this key passes
unfoldable pub passes_at : List Row → List Group → Route → Key → Bool
passes_at rows groups route k =
    list_any (λ row. same_key row.key k && element_passes rows groups route row) rows

-- a row of this key passes; a statement with its target, from the least owner whose row is granted
unfoldable pub passes_by : List Row → List Group → Route → Row → Key → Bool
passes_by rows groups route row (Element e p) = element_passes rows groups route row
passes_by rows groups route row (Reference e x t u) = element_passes rows groups route row
passes_by rows groups route row (Proposal e n) =
    is_least rows groups route.from route.«for» row
    && passes_at rows groups route (Element e n.target)
passes_by rows groups route row (Verdict e n j v) =
    is_least rows groups route.from route.«for» row
    && passes_at rows groups route (Element e n.target)
passes_by rows groups route row (Sighting e t j v u) =
    is_least rows groups route.from route.«for» row && passes_at rows groups route (Element e t)

unfoldable pub passes : List Row → List Group → Route → Row → Bool
passes rows groups route row = passes_by rows groups route row row.key
