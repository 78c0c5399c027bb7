-- Labels on the way: a hop is one step down, steps add up, and no hop of a plain level gives a greater one.
use Rattle.std.proofs.Common.{◌≡◌, zero, suc, sym, ℕ, refl, ◌≤◌, arith, Some, ◌+◌, List, [], ◌∷◌}
use Rattle.misp_ids.specs.declared.label.Label.{Label}
use Rattle.misp_ids.specs.declared.label.Way.{Way}
use Rattle.misp_ids.specs.declared.label.Way.TheVariants.{Pull, Push, Internal}
use Rattle.misp_lists.proofs.Lists.{some_same, none_not_some}
use Rattle.misp_ids.specs.Labels.{label_kind}
use Rattle.misp_levels.specs.Levels.{hop, down, landed, lowering}

pub hop_is_landed : (way : Way) (l m : Label) → hop way l ≡ Some m → m ≡ landed way l
unfolding hop down landed lowering
hop_is_landed Internal Label.Own m h = sym (some_same _ _ h)
hop_is_landed Internal Label.Community m h = sym (some_same _ _ h)
hop_is_landed Internal Label.Connected m h = sym (some_same _ _ h)
hop_is_landed Internal Label.All m h = sym (some_same _ _ h)
hop_is_landed Internal (Label.Group g) m h = sym (some_same _ _ h)
hop_is_landed Internal Label.Inherit m h = sym (some_same _ _ h)
hop_is_landed Pull Label.Own m h = sym (some_same _ _ h)
hop_is_landed Pull Label.Community m h = sym (some_same _ _ h)
hop_is_landed Pull Label.Connected m h = sym (some_same _ _ h)
hop_is_landed Pull Label.All m h = sym (some_same _ _ h)
hop_is_landed Pull (Label.Group g) m h = sym (some_same _ _ h)
hop_is_landed Pull Label.Inherit m h = sym (some_same _ _ h)
hop_is_landed Push Label.Own m h = absurd (none_not_some h)
hop_is_landed Push Label.Community m h = absurd (none_not_some h)
hop_is_landed Push Label.Connected m h = sym (some_same _ _ h)
hop_is_landed Push Label.All m h = sym (some_same _ _ h)
hop_is_landed Push (Label.Group g) m h = sym (some_same _ _ h)
hop_is_landed Push Label.Inherit m h = sym (some_same _ _ h)

-- one step more
pub down_more : (l : Label) (n : ℕ) → down l (suc n) ≡ down (down l n) (suc zero)
unfolding down
down_more Label.Own n = refl
down_more Label.All n = refl
down_more (Label.Group g) n = refl
down_more Label.Inherit n = refl
down_more Label.Community zero = refl
down_more Label.Community (suc n) = refl
down_more Label.Connected zero = refl
down_more Label.Connected (suc zero) = refl
down_more Label.Connected (suc (suc n)) = refl

-- no step
pub down_none : (k : Label) → down k zero ≡ k
unfolding down
down_none Label.Own = refl
down_none Label.Community = refl
down_none Label.Connected = refl
down_none Label.All = refl
down_none (Label.Group g) = refl
down_none Label.Inherit = refl

-- one hop more
pub down_landed : (way : Way) (l : Label) (path : List Way) → down l (lowering (way ∷ path)) ≡ landed way (down l (lowering path))
unfolding lowering landed
down_landed Pull l path = down_more l (lowering path)
down_landed Push l path = down_more l (lowering path)
down_landed Internal l path = sym (down_none (down l (lowering path)))

-- no more than the label itself
pub down_no_higher : (l : Label) (n : ℕ) → label_kind (down l n) ≤ label_kind l
unfolding down
down_no_higher Label.Own n = omega arith
down_no_higher Label.All n = omega arith
down_no_higher (Label.Group g) n = omega arith
down_no_higher Label.Inherit n = omega arith
down_no_higher Label.Community zero = omega arith
down_no_higher Label.Community (suc n) = omega arith
down_no_higher Label.Connected zero = omega arith
down_no_higher Label.Connected (suc zero) = omega arith
down_no_higher Label.Connected (suc (suc n)) = omega arith

pub no_higher : (way : Way) (l m : Label) → hop way l ≡ Some m → label_kind m ≤ label_kind l
unfolding landed
no_higher way l m h = rw (hop_is_landed way l m h) (down_no_higher l (lowering (way ∷ [])))

pub add_up : (l : Label) (m n : ℕ) → down l (m + n) ≡ down (down l m) n
unfolding down
add_up Label.Own m n = refl
add_up Label.All m n = refl
add_up (Label.Group g) m n = refl
add_up Label.Inherit m n = refl
add_up Label.Community zero n = grind arith
add_up Label.Community (suc m) n = grind arith
add_up Label.Connected zero n = grind arith
add_up Label.Connected (suc zero) zero = grind arith
add_up Label.Connected (suc zero) (suc n) = grind arith
add_up Label.Connected (suc (suc m)) n = grind arith
