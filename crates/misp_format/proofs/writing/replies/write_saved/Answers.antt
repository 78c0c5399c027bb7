use Rattle.std.proofs.Common.{[], refl, arith, ap, ◌∙◌}
use Rattle.json.proofs.Printed.Decimals.{IsNumber-decimal}
use Rattle.serde_json.specs.Read.{read}
use Rattle.serde_json.proofs.Numbers.{number_of-decimal}
use Rattle.misp_format.specs.Replies.{saved_data}
use Rattle.misp_format.proofs.Depths.{shallow_saved}
use Rattle.misp_format.proofs.ReadBack.{read_again}
use Rattle.misp_format.proofs.Texts.{object_put, printed}
use Rattle.misp_format.proofs.writing.replies.write_saved.Goals as goal

pub returns-clause-text : goal.returns-clause-text
unfolding saved_data
returns-clause-text c =
    rw (c.into_text.ensures, c.in_ok-end_object.ensures, c.in_ok-number.ensures, c.get.ensures.value, c.in_ok-uuid.ensures, c.in_ok-count.ensures, c.in_ok-begin_object.ensures, c.behind-out.ensures, c.new.ensures.items)
    (rw object_put at (printed [] (saved_data c.args.elements c.args.event.now c.args.stamp)))

pub returns-clause-reads_back : goal.returns-clause-reads_back
unfolding saved_data
returns-clause-reads_back c =
    let saved = saved_data c.args.elements c.args.event.now c.args.stamp in
    ap read (returns-clause-text c)
    ∙ read_again saved (IsNumber-decimal c.args.elements c.ranges.elements.fits, (tt, (tt, tt))) (rw (number_of-decimal c.args.elements c.ranges.elements.fits) refl)
    (omega (arith, (shallow_saved c.args.elements c.args.event.now c.args.stamp).levels))
