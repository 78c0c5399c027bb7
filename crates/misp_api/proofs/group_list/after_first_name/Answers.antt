use Rattle.misp_api.proofs.group_list.after_first_name.Goals as goal

pub returns-in-None : goal.returns-in-None
returns-in-None c = λ rest is. absurd (c.in-None.ensures.cases rest is)
