use Rattle.std.proofs.Common.{[], refl, arith, ap, ◌∙◌}
use Rattle.json.proofs.Printed.Decimals.{IsNumber-decimal}
use Rattle.serde_json.specs.Read.{read}
use Rattle.serde_json.proofs.Numbers.{number_of-decimal}
use Rattle.misp_format.specs.Replies.{taken_data}
use Rattle.misp_format.proofs.Depths.{shallow_taken}
use Rattle.misp_format.proofs.ReadBack.{read_again}
use Rattle.misp_format.proofs.Texts.{object_put, printed}
use Rattle.misp_format.proofs.writing.replies.write_taken.Goals as goal

pub returns-clause-text : goal.returns-clause-text
unfolding taken_data
returns-clause-text c =
    rw (c.into_text.ensures, c.in_ok-end_object.ensures, c.in_ok-count.ensures, c.in_ok-begin_object.ensures, c.behind-out.ensures, c.new.ensures.items)
    (rw object_put at (printed [] (taken_data c.args.count)))

pub returns-clause-reads_back : goal.returns-clause-reads_back
unfolding taken_data
returns-clause-reads_back c =
    ap read (returns-clause-text c)
    ∙ read_again (taken_data c.args.count) (IsNumber-decimal c.args.count c.ranges.count.fits, tt) (rw (number_of-decimal c.args.count c.ranges.count.fits) refl) (omega (arith, (shallow_taken c.args.count).levels))
