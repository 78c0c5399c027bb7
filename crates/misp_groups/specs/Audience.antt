-- Whom a group allows and carries, and to whom a label opens a version or lets it out.
use Rattle.std.specs.Prelude.{Bool, ◌&&◌, ◌||◌, List, Option, false, Some, None, true, ◌≡◌, find}
use Rattle.std.specs.List.{list_any}
use Rattle.misp_ids.specs.declared.uid.OrgId.{OrgId}
use Rattle.misp_ids.specs.Same.{Inst, same_inst, same_org, same_group}
use Rattle.misp_ids.specs.declared.uid.GroupId.{GroupId}
use Rattle.misp_ids.specs.declared.label.Label.{Label}
use Rattle.misp_ids.specs.declared.label.Way.{Way}
use Rattle.misp_ids.specs.declared.label.Way.TheVariants.{Push}
use Rattle.misp_groups.specs.declared.group.GroupFields.{GroupFields as Group}

-- the group is active, and the organisation is in it or the instance is one of its servers with all
-- organisations
unfoldable pub allows : Group → OrgId → Inst → Bool
allows g o i =
    g.active
    && (list_any (λ m. same_org m.org o) g.orgs
    || list_any (λ s. same_inst s.name i && s.all_orgs) g.servers)

-- the group carries what the organisation takes to the instance
unfoldable pub carries : Group → OrgId → Inst → Bool
carries g o d = allows g o d && (g.roaming || list_any (λ s. same_inst s.name d) g.servers)

-- the group of this name, where it is known
unfoldable pub known_group : List Group → GroupId → Option Group
known_group groups id = find (λ g. same_group g.id id) groups

-- the group of this name is known
unfoldable pub is_known_group : List Group → GroupId → Bool
is_known_group groups id = list_any (λ g. same_group g.id id) groups

-- the group of this name is known and passes the test
unfoldable pub group_passes : List Group → GroupId → (Group → Bool) → Bool
group_passes groups id test = elim (known_group groups id) [ None ↦ false | Some g ↦ test g ]

-- the label opens a version to organisations other than its owner
unfoldable pub label_opens : List Group → Inst → OrgId → Label → Bool
label_opens groups i o Label.Own = false
label_opens groups i o (Label.Group g) = group_passes groups g (λ group. allows group o i)
label_opens groups i o Label.Community = true
label_opens groups i o Label.Connected = true
label_opens groups i o Label.All = true
label_opens groups i o Label.Inherit = true

-- a version of this owner and label is open to the organisation
unfoldable pub is_open : List Group → Inst → OrgId → OrgId → Label → Bool
is_open groups i o owner l = same_org o owner || label_opens groups i o l

-- the label lets a version out on this way, for this organisation, to this instance
unfoldable pub label_lets_out : List Group → Way → OrgId → Inst → Label → Bool
label_lets_out groups Push r d Label.Own = false
label_lets_out groups Push r d Label.Community = false
label_lets_out groups way r d (Label.Group g) = group_passes groups g (λ group. carries group r d)
label_lets_out groups way r d l = true

-- the label is no group's, or that of a known group
unfoldable pub label_is_known : List Group → Label → Bool
label_is_known groups (Label.Group g) = is_known_group groups g
label_is_known groups l = true

-- the answer tells whether the label's group is known here and allows the organisation; of a label
-- without a group any answer will do
abbrev pub SaysOfGroup : List Group → Inst → OrgId → Label → Bool → Type 0
SaysOfGroup groups i o (Label.Group g) answer =
    answer ≡ group_passes groups g (λ group. allows group o i)
SaysOfGroup groups i o Label.Own answer = Unit {0}
SaysOfGroup groups i o Label.Community answer = Unit {0}
SaysOfGroup groups i o Label.Connected answer = Unit {0}
SaysOfGroup groups i o Label.All answer = Unit {0}
SaysOfGroup groups i o Label.Inherit answer = Unit {0}
