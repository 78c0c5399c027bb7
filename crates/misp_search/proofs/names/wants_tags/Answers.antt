use Rattle.std.proofs.Common.{◌∙◌, subst}
use Rattle.misp_search.specs.Names.{AreWanted}
use Rattle.misp_search.proofs.NameSets.{by_none, by_set}
use Rattle.misp_search.proofs.names.wants_tags.Goals as goal

pub returns-in-Some : goal.returns-in-Some
returns-in-Some c = λ wanted are. c.has_any.ensures ∙ by_set c.in-Some.set c.args.tags.now wanted (subst (λ names. AreWanted names wanted) c.in-Some.is are)

pub returns-in-None : goal.returns-in-None
returns-in-None c = λ wanted are. by_none c.args.tags.now wanted (subst (λ names. AreWanted names wanted) c.in-None.is are)
