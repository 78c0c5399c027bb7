-- The reply where a group is added or edited, by what its text is.
use Rattle.std.proofs.Common.{◌≡◌, ℕ, ◌≤◌, Bool, List, refl, sym, subst, Option, Some, None, Ok, Err}
use Rattle.misp_outside.specs.Reporting.{WhereReported}
use Rattle.misp_outside.proofs.Reporting.{reported_so}
use Rattle.misp_format.specs.Prelude.{LAST_SECOND, group_in_text}
use Rattle.misp_core.specs.Prelude.{Did, IsGroup, administered, groups_of}
use Rattle.misp_api.specs.Prelude.{AskFault, Gives, Group, Held, OrgId, Reading, Reply, by_keeper, fault_reply, grouped, stop_in}
use Rattle.misp_api.specs.Administering.{group_form, FormFits, IsDone}
use Rattle.misp_api.proofs.Replying.{ByForm, formed_by_form, by_fault, no_keeper_in}

-- a group is administered by the instance
pub by_instance : (now : ℕ) (by : OrgId) (add : Bool) (form : Reading Group) (g : Group) (reply : Reply) (old new : Option Held) → form ≡ Ok g
    → WhereReported old new (λ held left. Did (administered now by add g (groups_of held)) held reply left) → WhereReported old new (λ held left. IsDone now by add form held reply left)
by_instance now by add form g reply old new is = reported_so old new _ _ (λ held left did. subst (λ f. IsDone now by add f held reply left) (sym is) did)

pub text_by_form : (text : List ℕ) → ByForm (group_form text)
unfolding group_form
text_by_form text = formed_by_form (group_in_text text)

-- the refusal of a text that is no group is the stated one
pub by_text : (now : ℕ) (by : OrgId) (add : Bool) (text : List ℕ) (fault : AskFault) (old : Option Held) → Gives (Err fault) (group_form text)
    → WhereReported old old (λ held left. IsDone now by add (group_form text) held (fault_reply fault) left)
by_text now by add text fault None given = tt
by_text now by add text fault (Some held) given =
    by_fault (λ form. grouped now by add form (groups_of held)) (λ refusal. refl) (group_form text) fault held given (text_by_form text)

-- a group that is read fits, where the moment does
pub read_fits : (now : ℕ) (form : Reading Group) (g : Group) → form ≡ Ok g → IsGroup g → now ≤ LAST_SECOND → FormFits now form
read_fits now form g is fits moment = subst (FormFits now) (sym is) (fits, moment)

-- a text that is no group has none that does not fit
pub unread_fits : (now : ℕ) (form : Reading Group) (fault : AskFault) → Gives (Err fault) form → stop_in (fault_reply fault) ≡ None → FormFits now form
unread_fits now form (AskFault.Refused refusal) given went = subst (FormFits now) (sym given) tt
unread_fits now form AskFault.NoMemory given went = absurd cc

-- no keeper failed where a text was not read
pub no_keeper_read : (text : List ℕ) (fault : AskFault) → Gives (Err fault) (group_form text) → stop_in (fault_reply fault) ≡ by_keeper → ⊥
no_keeper_read text (AskFault.Refused refusal) given = no_keeper_in refusal (subst ByForm given (text_by_form text))
no_keeper_read text AskFault.NoMemory given = λ is. absurd cc
