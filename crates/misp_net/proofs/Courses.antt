-- Acts after acts, and lines after lines.
use Rattle.std.proofs.Common.{◌≡◌, ℕ, suc, ◌+◌, true, false, eqb, List, [], ◌∷◌, ◌++◌, length, refl, sym, ◌∙◌, ap, subst, inl, inr, arith, append_assoc, append-nil, decimal}
use Rattle.std.proofs.lemmas.Bool.Decides.{eqb_tells}
use Rattle.misp_effects.specs.Meanings.{Meaning}
use Rattle.misp_net.proofs.Appending.{more_ran}
use Rattle.misp_net.proofs.Walks.{meanings_append, meanings_long}
use Rattle.misp_net.specs.Prelude.{Act, AreAmong, AreDone, Done, Host, KeeperState, Line, Output, Ran, Seen, acts_of, outputs_of, seen_in, spelled, stop_in}
use Rattle.misp_net.specs.Acts.{Does, acts_done, outputs_done}
use Rattle.misp_net.specs.Meaning.{meanings_of, AreAsFormed}
use Rattle.misp_net.specs.Text.{done_text, line_of, text_from}
use Rattle.misp_net.specs.Walk.{hosts_after, hosts_left}
use Rattle.misp_effects.specs.Course as courses

-- ---- acts after acts

pub among_append : (count : ℕ) (acts more : List Act) → AreAmong count acts → AreAmong count more → AreAmong count (acts ++ more)
among_append count [] more first last = last
among_append count (a ∷ acts) more first last = (first.0, among_append count acts more first.1 last)

pub formed_append : (hosts : List Host) (acts more : List Act) (outputs others : List Output) → length outputs ≡ length acts
    → AreAsFormed hosts acts outputs → AreAsFormed (hosts_left hosts acts outputs) more others → AreAsFormed hosts (acts ++ more) (outputs ++ others)
formed_append hosts [] more [] others long first last = last
formed_append hosts [] more (o ∷ outputs) others long first last = absurd (omega (arith, long))
formed_append hosts (a ∷ acts) more [] others long first last = absurd (omega (arith, long))
formed_append hosts (a ∷ acts) more (o ∷ outputs) others long first last = (first.0, formed_append (hosts_after hosts a o) acts more outputs others (omega (arith, long)) first.1 last)

-- one output for each act
pub ran_long : (hosts : List Host) (acts : List Act) (outputs : List Output) (old new : List KeeperState) → Ran hosts acts old new outputs → length outputs ≡ length acts
ran_long hosts acts outputs old new ran = ran.each ∙ meanings_long hosts acts outputs

-- the others ran over what the first left
pub ran_append : (hosts : List Host) (acts more : List Act) (outputs others : List Output) (old mid new : List KeeperState) → Ran hosts acts old mid outputs → Ran (hosts_left hosts acts outputs) more mid new others
    → Ran hosts (acts ++ more) old new (outputs ++ others)
ran_append hosts acts more outputs others old mid new first last =
    subst (λ (ms : List (Meaning Seen Output)). courses.HasRun Seen Output seen_in spelled stop_in ms old new (outputs ++ others))
    (sym (meanings_append hosts acts more outputs others (ran_long hosts acts outputs old mid first)))
    (more_ran Seen Output seen_in spelled stop_in (meanings_of hosts acts outputs) (meanings_of (hosts_left hosts acts outputs) more others) old mid new outputs others first last)

-- ---- lines after lines

pub acts_push : (dones : List Done) (d : Done) → acts_of (dones ++ d ∷ []) ≡ acts_of dones ++ acts_done d
acts_push [] d = append-nil (acts_done d)
acts_push (e ∷ dones) d = ap (λ acts. acts_done e ++ acts) (acts_push dones d) ∙ sym (append_assoc (acts_done e) (acts_of dones) (acts_done d))

pub outputs_push : (dones : List Done) (d : Done) → outputs_of (dones ++ d ∷ []) ≡ outputs_of dones ++ outputs_done d
outputs_push [] d = append-nil (outputs_done d)
outputs_push (e ∷ dones) d = ap (λ outputs. outputs_done e ++ outputs) (outputs_push dones d) ∙ sym (append_assoc (outputs_done e) (outputs_of dones) (outputs_done d))

pub done_push : (lines : List Line) (line : Line) (dones : List Done) (d : Done) → AreDone lines dones → Does line d → AreDone (lines ++ line ∷ []) (dones ++ d ∷ [])
done_push [] line [] d all does = (does, tt)
done_push [] line (e ∷ dones) d all does = absurd all
done_push (l ∷ lines) line [] d all does = absurd all
done_push (l ∷ lines) line (e ∷ dones) d all does = (all.0, done_push lines line dones d all.1 does)

done_long : (lines : List Line) (dones : List Done) → AreDone lines dones → length dones ≡ length lines
done_long [] [] all = refl
done_long [] (e ∷ dones) all = absurd all
done_long (l ∷ lines) [] all = absurd all
done_long (l ∷ lines) (e ∷ dones) all = ap suc (done_long lines dones all.1)

text_push : (number : ℕ) (dones : List Done) (d : Done) → text_from number (dones ++ d ∷ []) ≡ text_from number dones ++ line_of (number + length dones) d
text_push number [] d = simp append-nil (ap (λ n. line_of n d) (omega arith))
text_push number (e ∷ dones) d =
    let rest = text_push (number + 1) dones d in
    let count : (number + 1) + length dones ≡ number + suc (length dones) = omega arith in
    let same = ap (λ n. line_of n d) count in
    grind (arith, append_assoc, rest, same)

-- the text of the lines and one more
pub text_more : (lines : List Line) (dones : List Done) (d : Done) (before after : List ℕ) → AreDone lines dones → before ≡ text_from 1 dones → after ≡ before ++ line_of (1 + length lines) d
    → after ≡ text_from 1 (dones ++ d ∷ [])
text_more lines dones d before after done so_far text =
    text
    ∙ ap (λ t. t ++ line_of (1 + length lines) d) so_far
    ∙ ap (λ n. text_from 1 dones ++ line_of (1 + n) d) (sym (done_long lines dones done))
    ∙ sym (text_push 1 dones d)

-- a script that is empty
pub none_left : (script : List ℕ) → true ≡ eqb (length script) 0 → script ≡ []
none_left [] is = refl
none_left (byte ∷ script) is = elim (eqb_tells (length (byte ∷ script)) 0) [
  | inl same ↦ absurd (omega (arith, same.1))
  | inr more ↦ absurd (let no_ : true ≡ false = is ∙ more.0 in cc)
]

-- ---- what a line writes

pub text_put : (number : ℕ) (text before front behind after : List ℕ) → front ≡ (before ++ decimal number) ++ 32 ∷ [] → behind ≡ front ++ text → after ≡ behind ++ 10 ∷ []
    → after ≡ before ++ (decimal number ++ 32 ∷ text ++ 10 ∷ [])
text_put number text before front behind after a b e =
    e
    ∙ ap (λ bytes. bytes ++ 10 ∷ []) (b ∙ ap (λ bytes. bytes ++ text) a)
    ∙ append_assoc ((before ++ decimal number) ++ 32 ∷ []) text (10 ∷ [])
    ∙ append_assoc (before ++ decimal number) (32 ∷ []) (text ++ 10 ∷ [])
    ∙ append_assoc before (decimal number) ((32 ∷ text) ++ 10 ∷ [])
    ∙ ap (λ line. before ++ line) (sym (append_assoc (decimal number) (32 ∷ text) (10 ∷ [])))

pub line_put : (number : ℕ) (d : Done) (before front behind after : List ℕ) → front ≡ (before ++ decimal number) ++ 32 ∷ [] → behind ≡ front ++ done_text d → after ≡ behind ++ 10 ∷ []
    → after ≡ before ++ line_of number d
line_put number d before front behind after a b e = text_put number (done_text d) before front behind after a b e
