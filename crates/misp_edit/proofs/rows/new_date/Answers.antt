use Rattle.std.proofs.Common.{◌∙◌, rules, sym, subst}
use Rattle.misp_dates.proofs.Texts.{is_date-date_of}
use Rattle.misp_elem.specs.Fields.{IsDate}
use Rattle.misp_edit.proofs.rows.new_date.Goals as goal

pub returns-in_ok-date_of-in-None-clause-is_date : goal.returns-in_ok-date_of-in-None-clause-is_date
returns-in_ok-date_of-in-None-clause-is_date c = subst IsDate (sym (c.of.ensures ∙ c.in_ok-date_of-in-None.ensures.date)) (is_date-date_of c.get.result (search rules))
