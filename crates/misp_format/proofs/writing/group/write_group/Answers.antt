use Rattle.std.proofs.Common.{[], ap, ◌∙◌}
use Rattle.misp_format.specs.Prelude.{group_in_text, whole_group_data}
use Rattle.misp_format.proofs.GroupTexts.{text_back}
use Rattle.misp_format.proofs.Texts.{printed}
use Rattle.misp_format.proofs.writing.group.write_group.Goals as goal

pub returns-clause-text : goal.returns-clause-text
returns-clause-text c = rw (c.into_text.ensures, c.in_ok-put_group.ensures.written, c.behind-out.ensures, c.new.ensures.items) (printed [] (whole_group_data c.args.group.now))

-- the law at this group
pub returns-clause-read_back : goal.returns-clause-read_back
returns-clause-read_back c = ap group_in_text (returns-clause-text c) ∙ text_back c.args.group.now c.in_ok-put_group.ensures.fits
