use Rattle.std.proofs.Common.{◌≡◌, ap, sym, ◌∙◌, is_some, subst, Some, IfOk, IfErr, true}
use Rattle.misp_model.proofs.Prelude.{EventId, Scene, false≢true, event_key, own_row}
use Rattle.misp_history.proofs.Prelude.{is_at_limit}
use Rattle.misp_copies.specs.Copies.{AreOf}
use Rattle.misp_publish.specs.Release.{Publishes}
use Rattle.misp_publish.specs.declared.fault.PublishFault.TheVariants.{TimeLimit}
use Rattle.misp_publish.proofs.ReleaseLemmas.{event_is, own_found}
use Rattle.misp_publish.proofs.releasing.release.Goals.{After-release_event}
use Rattle.misp_publish.proofs.releasing.release.Goals as goal

pub unreachable-requires : goal.unreachable-requires
unreachable-requires c = false≢true (ap is_some c.in-None.ensures ∙ c.requires.there)

-- the event of the row that is found
same : (c : After-release_event) (s : Scene) (e : EventId) → AreOf e c.args.rows.now → s.rows ≡ c.args.rows.now → s.by ≡ c.args.owner.now → c.event_of.result ≡ e
same c s e are rows by = c.event_of.ensures ∙ event_is s e c.args.rows.now c.args.owner.now rows by c.in-Some.own.now are (sym c.in-Some.ensures)

own : (c : After-release_event) (s : Scene) (e : EventId) → AreOf e c.args.rows.now → s.rows ≡ c.args.rows.now → s.by ≡ c.args.owner.now →
    own_row s (event_key c.event_of.result) ≡ Some c.in-Some.own.now
own c s e are rows by =
    subst (λ (x : EventId). own_row s (event_key x) ≡ Some c.in-Some.own.now) (sym (same c s e are rows by))
    (own_found s e c.args.rows.now c.args.owner.now rows by c.in-Some.own.now are (sym c.in-Some.ensures))

pub returns-clause-ok : goal.returns-clause-ok
returns-clause-ok c = λ s e are rows by now.
    subst (λ (x : EventId). IfOk c.release_event.result (λ made. Publishes s x made.items)) (same c s e are rows by) (c.release_event.ensures.ok s rows by now (own c s e are rows by))

pub returns-clause-limit : goal.returns-clause-limit
returns-clause-limit c = λ s e are rows by.
    subst (λ (x : EventId). IfErr c.release_event.result (λ fault. fault ≡ TimeLimit → is_at_limit s (event_key x) ≡ true)) (same c s e are rows by)
    (c.release_event.ensures.limit s (own c s e are rows by))
