use Rattle.std.proofs.Common.{inl, inr, refl}
use Rattle.std.specs.Str.{is_utf8}
use Rattle.std.proofs.lemmas.Bool.{cases_Bool}
use Rattle.std.proofs.lemmas.Str.{IsUtf8-from_is_utf8, is_utf8-from_IsUtf8}
use Rattle.misp_generated.proofs.lines.value_of.Goals as goal

pub returns-in-Ok : goal.returns-in-Ok
returns-in-Ok c = rw (is_utf8-from_IsUtf8 c.args.body.now c.in-Ok.ensures.ok.0, c.in-Ok.ensures.ok.1) refl

-- the bytes are no UTF-8, or no JSON
pub returns-in-Err-2 : goal.returns-in-Err-2
returns-in-Err-2 c =
    elim (cases_Bool (is_utf8 c.args.body.now)) [
      | inl text ↦ rw (text, c.in-Err.ensures.err (λ memory. let told = c.is_memory.ensures.1 memory in let no = rw c.if-is_memory.false at told in absurd cc) (IsUtf8-from_is_utf8 c.args.body.now text)) refl
      | inr bytes ↦ rw bytes refl
    ]
