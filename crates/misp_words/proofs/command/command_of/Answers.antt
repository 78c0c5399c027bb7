use Rattle.std.proofs.Common.{sym, arith}
use Rattle.std.specs.Prelude.{string_bytes}
use Rattle.misp_words.proofs.Lengths.{three, five_or_more}
use Rattle.misp_words.proofs.command.command_of.Goals as goal

pub returns-in-len3 : goal.returns-in-len3
returns-in-len3 c = sym (three string_bytes c.args.words.now (omega (arith, c.in-len3.len_at_least)) (omega (arith, c.in-len3.len_below)))

pub returns-in-len5-up : goal.returns-in-len5-up
returns-in-len5-up c = sym (five_or_more string_bytes c.args.words.now (omega (arith, c.in-len5-up.len_at_least)))
