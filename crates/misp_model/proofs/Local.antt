-- What is asked of one event looks at that event's rows alone: the lemmas on kept rows, with the event's keys as the kept ones.
use Rattle.std.proofs.Common.{◌≡◌, true, ap, ◌∙◌, List, ℕ}
use Rattle.misp_elem.proofs.Same.{of_event}
use Rattle.misp_model.specs.Prelude.{Element, EventId, Group, Inst, IsClosed, Key, OrgId, Proposal, Reference, Row, Scene, Sighting, Verdict, cut_rows, event_of, granted, is_proposal_of, is_taken}
use Rattle.misp_model.specs.Prelude.{same_event}
use Rattle.misp_model.proofs.EventParents.{parents_of}
use Rattle.misp_model.proofs.Knowing.{by_key, granted_cut}
use Rattle.misp_model.proofs.LookedRows.{looked_rows}
use Rattle.misp_model.proofs.LookedScenes.{looked_scene}
use Rattle.misp_model.proofs.LookedCopy.{is_taken_looked}
use Rattle.misp_model.proofs.Scenes.{cut_scene}

proposal_of_event : (e : EventId) (k p : Key) → of_event e k ≡ true → is_proposal_of k p → of_event e p ≡ true
unfolding of_event event_of is_proposal_of
proposal_of_event e (Verdict f n i o) p h q = ap (λ x. same_event (event_of x) e) q ∙ h
proposal_of_event e (Element f x) p h q = absurd q
proposal_of_event e (Reference f x t u) p h q = absurd q
proposal_of_event e (Proposal f n) p h q = absurd q
proposal_of_event e (Sighting f t i o u) p h q = absurd q

pub event_is_closed : (e : EventId) → IsClosed (of_event e)
event_is_closed e = record { above = parents_of e; proposals = proposal_of_event e }

-- whether a row is granted is seen in the rows of its event
pub granted_here : (e : EventId) (rows : List Row) (groups : List Group) (i : Inst) (o : OrgId) (row : Row) → of_event e row.key ≡ true →
    granted (cut_rows (of_event e) rows) groups i o row ≡ granted rows groups i o row
granted_here e rows groups i o row h = granted_cut (of_event e) (event_is_closed e) rows groups i o row h

-- and so is whether a uuid is taken
pub is_taken_here : (e : EventId) (s : Scene) (u : ℕ) → is_taken (cut_scene (of_event e) s) e u ≡ is_taken s e u
unfolding cut_scene cut_rows looked_scene looked_rows of_event
is_taken_here e s u = is_taken_looked (λ w. of_event e) s (by_key (of_event e) (event_is_closed e) s.by) e u (λ k h g. h)
