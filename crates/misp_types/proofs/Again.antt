-- What is kept of a value is kept as it is.
use Rattle.std.proofs.Common.{◌≡◌, ℕ, suc, ◌+◌, ◌-◌, ◌<◌, ◌==◌, Bool, true, false, cond, List, ◌∷◌, ◌++◌, length, get_or, codes, option_map, Option, Some, None, Result, Ok, Err, IfOk, length-append, append_assoc, refl, sym, ap, ap₂, ◌∙◌}
use Rattle.std.proofs.Common.{arith, get_or-append-add}
use Rattle.std.proofs.Math.Seq.{take-append_seam, drop-append-add, get_or-append_seam}
use Rattle.misp_types.specs.declared.fault.ValueFault.{ValueFault}
use Rattle.misp_types.specs.declared.kinds.Form.{Form}
use Rattle.misp_types.specs.declared.kinds.Rule.{Rule}
use Rattle.misp_types.specs.Checked.{Checked, Shows}
use Rattle.misp_types.specs.Kinds.{rule_of}
use Rattle.misp_types.specs.Values.{last_bar, around, split_value, part_of, joined, pair_of, two_at, two_of, by_rule, kept_of, IsKept}
use Rattle.misp_types.proofs.Splitting.{last_below}
use Rattle.misp_types.proofs.Kept.{same_kept, no_fault, unless, when_filled, text_again}
use Rattle.misp_types.proofs.Barless.{Barless, MayEnd, kept_barless}

behind : (front back : List ℕ) (i : ℕ) → length front < i → get_or (front ++ 124 ∷ back) i 0 ≡ get_or back (i - (length front + 1)) 0
behind front back i lt =
    let place : length front + suc (i - (length front + 1)) ≡ i = omega (arith, lt) in
    ap (λ k. get_or (front ++ 124 ∷ back) k 0) (sym place) ∙ get_or-append-add front (124 ∷ back) (suc (i - (length front + 1))) 0

bar_between : (front back : List ℕ) → front ++ codes "|" ++ back ≡ front ++ 124 ∷ back
bar_between front back = append_assoc front (codes "|") back

-- what is joined is split where it was joined
split_joined : (front back : List ℕ) → Barless back → split_value (front ++ codes "|" ++ back) ≡ Some (front, back)
split_joined front back barless =
    let text = front ++ 124 ∷ back in
    let long : length text ≡ length front + suc (length back) = length-append front (124 ∷ back) in
    let later : (i : ℕ) → length front < i → i < length text → get_or text i 0 ≡ 124 → ⊥ = λ i lt fits e.
    barless (i - (length front + 1)) (omega (arith, lt, fits, long)) (sym (behind front back i lt) ∙ e) in
    let last : last_bar text ≡ Some (length front) = last_below 124 text (length front) (length text) (omega (arith, long)) (get_or-append_seam front 124 back 0) later in
    ap split_value (bar_between front back) ∙ ap (option_map (around text)) last ∙ ap₂ (λ a b. Some (a, b)) (take-append_seam front (124 ∷ back)) (drop-append-add front (124 ∷ back) 1)

part_kept : (part : ℕ) (checked : Checked) (kept : List ℕ) → part_of part checked ≡ Ok kept → checked ≡ Ok kept
part_kept part (Ok text) kept e = e
part_kept part (Err fault) kept e = no_fault _ kept e

joined_kept : (l r : Checked) (kept : List ℕ) → joined l r ≡ Ok kept → (front : List ℕ) × (back : List ℕ) × (l ≡ Ok front) × (r ≡ Ok back) × (kept ≡ front ++ codes "|" ++ back)
joined_kept (Ok front) (Ok back) kept e = (front, back, refl, refl, same_kept _ kept e)
joined_kept (Ok front) (Err fault) kept e = no_fault _ kept e
joined_kept (Err fault) (Ok back) kept e = no_fault _ kept e
joined_kept (Err fault) (Err later) kept e = no_fault _ kept e

pair_again : (first second : Form) → MayEnd second → (x y kept : List ℕ) → pair_of first second x y ≡ Ok kept → two_of first second kept ≡ Ok kept
pair_again first second may x y kept e =
    let h = joined_kept _ _ kept e in
    let front = text_again first x h.0 (part_kept 1 _ h.0 h.2) in
    let back = text_again second y h.1 (part_kept 2 _ h.1 h.3) in
    let barless = kept_barless second may y h.1 (part_kept 2 _ h.1 h.3) in
    let split : split_value kept ≡ Some (h.0, h.1) = ap split_value h.4 ∙ split_joined h.0 h.1 barless in
    let both : pair_of first second h.0 h.1 ≡ Ok (h.0 ++ codes "|" ++ h.1) = ap₂ (λ l r. joined (part_of 1 l) (part_of 2 r)) front.0 back.0 in
    let some : 0 < length kept = omega (arith, ap length (h.4 ∙ bar_between h.0 h.1), length-append h.0 (124 ∷ h.1)) in
    when_filled kept _ _ some (ap (two_at first second) split ∙ both ∙ ap Ok (sym h.4))

two_at_again : (first second : Form) → MayEnd second → (parts : Option (List ℕ × List ℕ)) (kept : List ℕ) → two_at first second parts ≡ Ok kept → two_of first second kept ≡ Ok kept
two_at_again first second may None kept e = no_fault _ kept e
two_at_again first second may (Some (x, y)) kept e = pair_again first second may x y kept e

-- no file name, domain or system is after the `|`
Ends : Rule → Type 0
Ends (Rule.One form) = Unit {0}
Ends (Rule.Two first second) = MayEnd second
Ends Rule.File = Unit {0}

rule_again : (rule : Rule) → Ends rule → (value kept : List ℕ) → by_rule rule value ≡ Ok kept → by_rule rule kept ≡ Ok kept
unfolding Ends
rule_again (Rule.One form) ends value kept e = (text_again form value kept e).0
rule_again (Rule.Two first second) ends value kept e = two_at_again first second ends (split_value value) kept (unless (length value == 0) _ ValueFault.WrongLength kept e).1
rule_again Rule.File ends value kept e = no_fault _ kept e

either : (b : Bool) (x y : Rule) → Ends x → Ends y → Ends (cond b x y)
either true x y l r = l
either false x y l r = r

digest_ends : (digits : ℕ) → Ends (Rule.Two Form.Any (Form.Digest digits))
unfolding Ends
digest_ends digits = tt

address_ends : Ends (Rule.Two Form.Domain Form.Address)
unfolding Ends
address_ends = tt

port_ends : Ends (Rule.Two Form.Address Form.Port)
unfolding Ends
port_ends = tt

file_ends : Ends Rule.File
unfolding Ends
file_ends = tt

one_ends : (form : Form) → Ends (Rule.One form)
unfolding Ends
one_ends form = tt

all_end : (kind : List ℕ) → Ends (rule_of kind)
unfolding rule_of
all_end kind = either _ _ _ (digest_ends 32) (either _ _ _ (digest_ends 40) (either _ _ _ (digest_ends 64) (either _ _ _ address_ends (either _ _ _ port_ends (either _ _ _ file_ends (one_ends _))))))

kept_again : (kind value kept : List ℕ) → kept_of kind value ≡ Ok kept → kept_of kind kept ≡ Ok kept
unfolding kept_of
kept_again kind value kept e = rule_again (rule_of kind) (all_end kind) value kept e

-- the same of what a function returned
pub shown_again : {X : Type 0} (view : X → List ℕ) (result : Result X ValueFault) (rule : Rule) (kind value : List ℕ) → rule ≡ rule_of kind → Shows view result (by_rule rule value) → IfOk result (λ x. IsKept kind (view x))
unfolding kept_of
shown_again view (Ok x) rule kind value is shows = kept_again kind value (view x) (ap (λ r. by_rule r value) (sym is) ∙ shows)
shown_again view (Err fault) rule kind value is shows = tt
