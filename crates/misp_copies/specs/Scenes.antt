-- The surroundings of a request.
use Rattle.std.specs.Prelude.{ℕ, List, None}
use Rattle.misp_model.specs.Prelude.{Group, Inst, OrgId, Row, Scene, Stamp}
use Rattle.misp_copies.specs.declared.viewer.Viewer.{Viewer}

-- the surroundings of a request, without a partner
abbrev pub scene_of :
    ℕ → Inst → OrgId → List ℕ → Stamp → List ℕ → List Group → List Row → Scene
scene_of act at by by_name now today groups rows =
    record {
      act = act;
      at = at;
      by = by;
      by_name = by_name;
      partner = None;
      now = now;
      today = today;
      rows = rows;
      groups = groups;
    }

-- those of a request of who looks
abbrev pub scene_for : ℕ → Viewer → List ℕ → Stamp → List ℕ → List Row → Scene
scene_for act who by_name now today rows =
    scene_of act who.here who.org by_name now today who.groups.now rows
