-- What is read of a proposal fits a row.
use Rattle.std.proofs.Common.{◌≡◌, ℕ, ◌-◌, ◌≤◌, Bool, true, false, List, [], length, Result, Ok, Err, refl, subst, arith, codes}
use Rattle.std.proofs.lemmas.Str.{IsUtf8-nil}
use Rattle.misp_lists.proofs.Prelude.{is_utf8-from_IsUtf8, ok_keeps}
use Rattle.misp_fields.specs.Fields.{flag_of}
use Rattle.misp_elem.specs.declared.content.ProposalBody.{ProposalBody}
use Rattle.misp_elem.specs.Contents.{is_removal, IsRemoval, least_kind, IsProposed, IsProposalBody}
use Rattle.misp_elem.specs.Prelude.{IsText, text_limit}
use Rattle.misp_format.specs.Prelude.{Body, Content, Need, category_of, is_utf8, text_size}
use Rattle.misp_format.specs.Entries.{IsKeptUnless}
use Rattle.misp_format.specs.Kinds.{other_category}
use Rattle.misp_format.specs.Readers.{fitting}
use Rattle.misp_format.specs.Rows.{row}
use Rattle.misp_format.specs.Statements.{removal_of}
use Rattle.misp_format.proofs.Fitting.{in_room, kept_is_kept, category_fits}
use Rattle.misp_format.proofs.Kept.{row_keeps, choice_keeps}

fitting_ok : {A : Type 0} (fits : A → Bool) (need : Need) (r : Result A Need) (x : A) → fitting fits need r ≡ Ok x → fits x ≡ true
fitting_ok fits need (Ok y) x h =
    choice_keeps (λ z. fits z ≡ true) (fits y) (Ok y) (Err need) (λ holds z is. let e : y ≡ z = cc in subst (λ w. fits w ≡ true) e holds) (λ fails z is. absurd cc) x h
fitting_ok fits need (Err other) x h = absurd cc

nothing_is_asked : (there : Bool) → IsRemoval there false
nothing_is_asked true = refl
nothing_is_asked false = refl

removal_fits : (it : Body) (there remove : Bool) → row it (codes "proposal_to_delete") (removal_of there) (Ok false) ≡ Ok remove → IsRemoval there remove
removal_fits it there remove h =
    row_keeps (IsRemoval there) it (codes "proposal_to_delete") (removal_of there) (Ok false) (λ d x is. fitting_ok (is_removal there) Need.Range (flag_of d) x is)
    (ok_keeps (IsRemoval there) false (nothing_is_asked there)) remove h

nothing_fits : (text : List ℕ) → text ≡ [] → IsText 0 64 text
nothing_fits text none = rw none (in_room 0 64 [] (is_utf8-from_IsUtf8 [] IsUtf8-nil) (omega arith) (omega arith))

value_fits : (remove : Bool) (room : ℕ) (kind value : List ℕ) → IsKeptUnless remove kind value → length value ≤ room → IsProposed remove room kind value
value_fits true room kind value kept short = kept
value_fits false room kind value kept short = rw (in_room 0 room value kept.1 (omega arith) short, kept_is_kept kind value kept.0) refl

pub proposal_fits : (it : Body) (there : Bool) (b : ProposalBody)
    → row it (codes "proposal_to_delete") (removal_of there) (Ok false) ≡ Ok b.remove
    → b.by_name ≡ [] → IsText (least_kind b.remove) 100 b.kind
    → row it (codes "category") category_of (Ok other_category) ≡ Ok b.category
    → is_utf8 b.comment ≡ true → IsKeptUnless b.remove b.kind b.value
    → text_size (Content.Proposal b) ≤ text_limit → IsProposalBody there b
unfolding text_size
proposal_fits it there b remove none kind category comment value short = (
  removal_fits it there b.remove remove,
  (
    nothing_fits b.by_name none,
    (
      kind,
      (
        category_fits it b.category category,
        (
          tt,
          (
            in_room 0 _ b.comment comment (omega arith) (omega arith),
            value_fits b.remove (text_limit - length b.kind - length b.comment) b.kind b.value value (omega arith),
          ),
        ),
      ),
    ),
  ),
)
