use Rattle.std.proofs.Common.{sym, ◌∙◌, arith}
use Rattle.misp_script.proofs.HexDigits.{are_bytes}
use Rattle.misp_script.proofs.command.hex.Goals as goal

pub returns-then-are_lower_digits : goal.returns-then-are_lower_digits
returns-then-are_lower_digits c = are_bytes c.args.text.now (omega (arith, c.if-text-eq0.true)) (sym c.are_lower_digits.ensures ∙ c.if-are_lower_digits.true)
