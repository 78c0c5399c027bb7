use Rattle.std.proofs.Common.{◌∙◌, sym}
use Rattle.misp_script.proofs.Visible.{IsUtf8-visible}
use Rattle.misp_script.proofs.command.visible.Goals as goal

pub unreachable-requires : goal.unreachable-requires
unreachable-requires c = c.in-Err.ensures.cases.0 (IsUtf8-visible _ (sym c.are_visible.ensures ∙ c.if-not-are_visible.false))
