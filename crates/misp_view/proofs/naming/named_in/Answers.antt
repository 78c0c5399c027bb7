use Rattle.misp_view.proofs.NamedGroups.{none_has, one_more}
use Rattle.misp_view.proofs.naming.named_in.Goals as goal

pub returns : goal.returns
returns c = λ id. one_more _ _ _ (none_has c.new-ids.result id c.new-ids.ensures.empty) (c.in_ok-note_attributes.ensures id)
