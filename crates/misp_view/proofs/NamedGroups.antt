-- The groups that labels name, as a set has them.
use Rattle.std.proofs.Common.{◌≡◌, ℕ, Bool, true, false, refl, ap, ◌∙◌, cond, List, map, ◌||◌, filter, BTreeSet}
use Rattle.std.specs.BTreeSet.{IsEmpty}
use Rattle.std.specs.BTreeMap.{is_at}
use Rattle.misp_model.specs.Prelude.{Group, GroupId, contains, same_group, same_org}
use Rattle.misp_copies.specs.Table.{pair_cmp}
use Rattle.misp_copies.proofs.Pairs.{pair_more, none_in}
use Rattle.misp_view.specs.Naming.{has_group, with_name}

-- the set with a group more
pub has_more : (old new : BTreeSet (ℕ × ℕ)) (g id : GroupId) →
    contains pair_cmp new (id.creator.0.0, id.uuid.0) ≡ cond (is_at (pair_cmp (g.creator.0.0, g.uuid.0)) (id.creator.0.0, id.uuid.0)) true (contains pair_cmp old (id.creator.0.0, id.uuid.0)) →
    has_group new id ≡ (has_group old id || same_group g id)
unfolding has_group same_group same_org
has_more old new g id h = pair_more old new g.creator.0.0 g.uuid.0 id.creator.0.0 id.uuid.0 h

-- no group is in the empty set
pub none_has : (ids : BTreeSet (ℕ × ℕ)) (id : GroupId) → IsEmpty ids → has_group ids id ≡ false
unfolding has_group
none_has ids id h = none_in ids id.creator.0.0 id.uuid.0 h

-- the groups of a set are those that a test takes
pub names_are : (ids : BTreeSet (ℕ × ℕ)) (groups : List Group) (test : GroupId → Bool) → ((id : GroupId) → has_group ids id ≡ test id)
    → map with_name (filter (λ g. has_group ids g.id) groups) ≡ map with_name (filter (λ g. test g.id) groups)
names_are ids groups test h = λ i. map with_name (filter (λ g. h g.id i) groups)

-- ---- one step after another

pub one_more : (none first a : Bool) → none ≡ false → first ≡ (none || a) → first ≡ a
one_more none first a e h = h ∙ ap (λ t. t || a) e

pub two_more : (old next new a b : Bool) → next ≡ (old || a) → new ≡ (next || b) → new ≡ (old || (a || b))
two_more old next new a b h k = k ∙ ap (λ t. t || b) h ∙ one old
  where
    one : (o : Bool) → ((o || a) || b) ≡ (o || (a || b))
    one true = refl
    one false = refl

pub three_more : (none first next new a b d : Bool) → none ≡ false → first ≡ (none || a) → next ≡ (first || b) → new ≡ (next || d) → new ≡ (a || b || d)
three_more none first next new a b d e h k m = m ∙ ap (λ t. t || d) (k ∙ ap (λ t. t || b) (one_more none first a e h))
