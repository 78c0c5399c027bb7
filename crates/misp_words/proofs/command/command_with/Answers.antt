use Rattle.std.proofs.Common.{sym}
use Rattle.misp_words.proofs.Others.{another_word}
use Rattle.misp_words.proofs.command.command_with.Goals as goal

pub returns-in_default : goal.returns-in_default
returns-in_default c = sym (another_word c.args.word.now c.args.name.now c.args.other.now c.args.last.now c.in_default.not-serve c.in_default.not-sync)
