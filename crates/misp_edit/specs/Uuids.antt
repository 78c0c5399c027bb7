-- Uuids that stand twice, without a scene.
use Rattle.std.specs.Prelude.{ℕ, Bool, eqb, cond, ◌||◌, List, [], ◌∷◌, ◌++◌, Option, Some, None, option_map, map, filter_map}
use Rattle.misp_model.specs.Prelude.{Draft, ElemId, EventId, Place, ReferenceDraft, Submission, list_any, uuid_at}

-- the uuid of a part, with its place in reading order
unfoldable pub part_uuid : EventId → Draft → ℕ × ℕ
part_uuid e d = (d.number, uuid_at e d.place)

-- the same of a reference, where it has a target
unfoldable pub reference_uuid : (ElemId → Option Place) → ReferenceDraft → Option (ℕ × ℕ)
reference_uuid target r = option_map (λ t. (r.number, r.uuid.0.0)) (target r.referenced)

-- those of the parts, and of the references that have a target
unfoldable pub numbered_in : (ElemId → Option Place) → Submission → List (ℕ × ℕ)
numbered_in target b =
    map (part_uuid b.event) b.parts ++ filter_map (reference_uuid target) b.references

-- the uuid is one of these
abbrev pub is_among : List ℕ → ℕ → Bool
is_among us u = list_any (λ v. eqb v u) us

-- the first of these that is used or stood before
unfoldable pub clash_in : (ℕ → Bool) → List ℕ → Option ℕ
clash_in used [] = None
clash_in used (u ∷ us) = cond (used u) (Some u) (clash_in (λ v. eqb u v || used v) us)
