-- What a request to the own instance came to, by its result.
use Rattle.std.proofs.Common.{◌≡◌, MatchResult, Result, Ok, Err, subst, sym}
use Rattle.misp_orgs.specs.declared.link.Link.{Link}
use Rattle.misp_core.specs.Prelude.{Standing, host_of}
use Rattle.misp_dialogue.specs.Parties.{Exchanged}
use Rattle.misp_protocol.specs.declared.cause.Cause.{Cause}
use Rattle.misp_protocol.specs.declared.request.Answer.{Answer}
use Rattle.misp_protocol.specs.declared.request.Request.{Request}
use Rattle.misp_sync.specs.OwnAnswers.{IsAsked, own_conduct, own_state}

module _ (link : Link) (old new : Standing) where
  abbrev Came : Request → Result Answer Cause → Type 0
  Came q result = Exchanged (own_conduct (host_of old, link)) (own_state old) q result (own_state new)

  by_result : (q : Request) (result : Result Answer Cause) → Came q result → MatchResult result (λ reply. Came q (Ok reply)) (λ cause. Came q (Err cause))
  by_result q (Ok reply) came = came
  by_result q (Err cause) came = came

  pub came_so : (q asked : Request) (result : Result Answer Cause) → asked ≡ q → IsAsked link q old result new
      → MatchResult result (λ reply. Came asked (Ok reply)) (λ cause. Came asked (Err cause))
  came_so q asked result same is =
      subst (λ q. MatchResult result (λ reply. Came q (Ok reply)) (λ cause. Came q (Err cause))) (sym same) (by_result q result is.exchanged)
