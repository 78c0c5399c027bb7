use Rattle.std.proofs.Common.{sym, ◌∙◌}
use Rattle.misp_view.proofs.InScene.{shown_in_scene}
use Rattle.misp_core.proofs.Decisions.{sighted, unseen}
use Rattle.misp_core.proofs.decide.view.Goals as goal

pub returns-in_ok-seen-in-Some : goal.returns-in_ok-seen-in-Some
returns-in_ok-seen-in-Some c = record {
  all =
      rw (c.told.ensures, c.in_ok-seen-in-Some.ensures, ← c.asker-org.ensures)
      (sighted _ _ _ _ c.in-Some.seen (shown_in_scene _ _ _ ∙ sym c.in_ok-seen.ensures.seen ∙ c.in-Some.is));
  known = λ table.
      rw (c.told.ensures, c.in_ok-seen-in-Some.ensures, ← c.asker-org.ensures)
      (sighted _ _ _ _ c.in-Some.seen (shown_in_scene _ _ _ ∙ sym (c.in_ok-seen.ensures.known table) ∙ c.in-Some.is));
}

pub returns-in-None : goal.returns-in-None
returns-in-None c = record {
  all =
      rw (c.bare-refusal.ensures, ← c.asker-org.ensures)
      (unseen _ _ _ _ (shown_in_scene _ _ _ ∙ sym c.in_ok-seen.ensures.seen ∙ c.in-None.is));
  known = λ table.
      rw (c.bare-refusal.ensures, ← c.asker-org.ensures)
      (unseen _ _ _ _ (shown_in_scene _ _ _ ∙ sym (c.in_ok-seen.ensures.known table) ∙ c.in-None.is));
}
