-- Which arrivals count. rows are those of the receiving instance before the act.
use Rattle.std.specs.Prelude.{Bool, false, not, ◌&&◌, ◌||◌, List, filter, ℕ, []}
use Rattle.misp_ids.specs.declared.label.Label.{Label}
use Rattle.misp_groups.specs.declared.group.GroupFields.{GroupFields as Group}
use Rattle.misp_groups.specs.Audience.{label_is_known}
use Rattle.misp_elem.specs.declared.key.KeyForm.{KeyForm as Key}
use Rattle.misp_elem.specs.declared.key.KeyForm.TheVariants.{Element, Reference, Proposal, Verdict, Sighting}
use Rattle.misp_elem.specs.Prelude.{Inst, OrgId, event_key, event_of, list_any, same_inst, same_key}
use Rattle.misp_elem.specs.declared.row.RowFields.{RowFields as Row}
use Rattle.misp_elem.specs.KeyFacts.{is_statement}
use Rattle.misp_model.specs.View.{has_home, has_gone, has_copy}
use Rattle.misp_model.specs.Version.{Version, label_now, Handed_in}

-- the statement was made at the instance; a verdict, where it was given
unfoldable pub is_made_at : Inst → Key → Bool
is_made_at i (Element e p) = false
is_made_at i (Reference e x t u) = false
is_made_at i (Proposal e n) = same_inst n.at i
is_made_at i (Verdict e n j v) = same_inst j i
is_made_at i (Sighting e t j v u) = same_inst j i

-- what of this key and label arrives for an owner at an instance has to meet whatever else arrives:
-- the owner has not deleted the event, nor is it the owner's own but for statements; the statement
-- was not made there; and the label is known
abbrev pub may_come : Inst → List Row → List Group → OrgId → Key → Label → Bool
may_come i rows groups owner key label =
    not (has_gone rows owner (event_of key))
    && (not (has_home rows owner (event_of key)) || is_statement key)
    && not (is_made_at i key) && label_is_known groups label

-- the arrival meets that
unfoldable pub is_welcome : List Row → List Group → Version → Bool
is_welcome rows groups v = may_come v.at rows groups v.owner v.key (label_now v)

-- the holder has a version of the event, or one comes that counts
unfoldable pub has_event : List Row → List Group → List Version → Version → Bool
has_event rows groups coming v =
    has_copy rows v.owner (event_of v.key)
    || list_any
    (λ u. same_key u.key (event_key (event_of v.key)) && is_welcome rows groups u) coming

-- the arrival counts
unfoldable pub counts : List Row → List Group → List Version → Version → Bool
counts rows groups coming v =
    is_welcome rows groups v && (is_statement v.key || has_event rows groups coming v)

-- those of the arrivals that count
unfoldable pub counted : List Row → List Group → List Version → List Version
counted rows groups coming = filter (counts rows groups coming) coming

-- a row as it is handed in by the n-th act
unfoldable pub handed_in : ℕ → Inst → OrgId → Row → Version
handed_in n i w row =
    record {
      at = i;
      owner = w;
      key = row.key;
      stamp = row.stamp;
      label = row.label;
      content = row.content;
      came = Handed_in;
      act = n;
      path = [];
    }
