-- Keys: their order, and what they are about.
use Rattle.std.specs.Prelude.{Bool}
use Rattle.misp_model.specs.Prelude.{Element, Key, Ordering, Proposal, Reference, Sighting, Verdict, nat_cmp, same_key, slice_cmp, spell}

-- how one key stands to another: by the numbers that spell them
abbrev pub key_cmp : Key → Key → Ordering
key_cmp j k = slice_cmp nat_cmp (spell j) (spell k)

-- what a key is about: the proposal of a verdict, the target of a proposal or a sighting, and
-- itself where it is none of these
unfoldable pub target_of : Key → Key
target_of (Proposal e n) = Element e n.target
target_of (Verdict e n i o) = Proposal e n
target_of (Sighting e t i o u) = Element e t
target_of (Element e p) = Element e p
target_of (Reference e x t u) = Reference e x t u

-- the second key is about the first
unfoldable pub is_about : Key → Key → Bool
is_about k j = same_key (target_of j) k
