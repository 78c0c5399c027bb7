use Rattle.std.proofs.Common.{refl, inl, inr}
use Rattle.misp_lists.proofs.Prelude.{IsUtf8-from_is_utf8, cases_Bool, is_utf8, is_utf8-from_IsUtf8}
use Rattle.misp_format.specs.Json.{json_in}
use Rattle.misp_format.proofs.reading.json_text.read_json.Goals as goal

pub returns-in-Ok : goal.returns-in-Ok
unfolding json_in
returns-in-Ok c = rw (is_utf8-from_IsUtf8 c.args.text.now c.in-Ok.ensures.ok.0, c.in-Ok.ensures.ok.1) refl

-- the bytes are no UTF-8, or no JSON
pub returns-in-Err-2 : goal.returns-in-Err-2
unfolding json_in
returns-in-Err-2 c =
    elim (cases_Bool (is_utf8 c.args.text.now)) [
      | inl text ↦ rw (text, c.in-Err.ensures.err (λ memory. let told = c.is_memory.ensures.1 memory in let no = rw c.if-is_memory.false at told in absurd cc) (IsUtf8-from_is_utf8 c.args.text.now text)) refl
      | inr bytes ↦ rw bytes refl
    ]
