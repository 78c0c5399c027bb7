-- When two names are the same, and which group goes before which.
use Rattle.std.specs.Prelude.{ℕ, List, Bool, bytes_eq, eqb, ◌&&◌, ltb, ◌||◌}
use Rattle.misp_ids.specs.declared.uid.OrgId.{OrgId}
use Rattle.misp_ids.specs.declared.uid.EventId.{EventId}
use Rattle.misp_ids.specs.declared.uid.ElemId.{ElemId}
use Rattle.misp_ids.specs.declared.uid.GroupId.{GroupId}

-- the name of an instance, as its bytes
abbrev pub Inst : Type 0
Inst = List ℕ

-- two instances have the same name
unfoldable pub same_inst : Inst → Inst → Bool
same_inst a b = bytes_eq a b

-- two organisations are the same
unfoldable pub same_org : OrgId → OrgId → Bool
same_org a b = eqb a.0.0 b.0.0

-- two events are the same
unfoldable pub same_event : EventId → EventId → Bool
same_event a b = eqb a.0.0 b.0.0

-- two elements are the same
unfoldable pub same_elem : ElemId → ElemId → Bool
same_elem a b = eqb a.0.0 b.0.0

-- two groups are the same
unfoldable pub same_group : GroupId → GroupId → Bool
same_group a b = same_org a.creator b.creator && eqb a.uuid.0 b.uuid.0

-- the name of a group stands before that of another: by its creator, and then by its own
-- identifier
unfoldable pub group_before : GroupId → GroupId → Bool
group_before a b =
    ltb a.creator.0.0 b.creator.0.0 || same_org a.creator b.creator && ltb a.uuid.0 b.uuid.0
