use Rattle.misp_format.proofs.GroupTexts.{text_back}
use Rattle.misp_format.proofs.reading.group_text.a_group_is_read_from_its_text.Goals as goal

pub returns : goal.returns
returns c = text_back
