use Rattle.std.proofs.Common.{sym, ◌∙◌}
use Rattle.misp_sync.proofs.WantedFits.{fits_here}
use Rattle.misp_sync.proofs.own_answers.wanted_list.Goals as goal

pub of-requires-2 : goal.of-requires-2
of-requires-2 c =
    fits_here c.args.part.now c.get-fields.result.now c.args.keys.items c.as_slice.result.now c.of.result c.get-fields.ensures.value c.get-fields.ensures.fits
    c.of.ensures c.requires c.as_slice.ensures.value (sym c.is_empty.ensures ∙ c.if-is_empty.false)
