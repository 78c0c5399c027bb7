-- An accepted request puts each version that it brings in its place as a row.
use Rattle.std.proofs.Common.{◌≡◌, List, ◌∷◌, Bool, false, [], ◌++◌, true, refl, sym, map, ltb, ◌&&◌, cond, Option, Some, None}
use Rattle.misp_history.proofs.Prelude.{AddEvent, AddParts, AllByRecursion, Ask, Change, Content, Element, EventId, Judge, Label, Place, ProposalBody, ProposalName, Propose, Publish, Rule, Scene, Sight, Submission, TakePart, Verdict}
use Rattle.misp_history.proofs.Prelude.{Version, acceptance, ask_rules, at_tags, bars, body_seen, brings, change_rules, change_writes, clashes, false≢true, fresh_row, hands_in, has_tag, is_accepted, is_for_new, is_row_of, is_taken}
use Rattle.misp_history.proofs.Prelude.{judge_rules, judge_writes, judged_place, known, list_all, list_any, none_refuses, or_parts, own_row_is, proposal_key, propose_rules, propose_writes, put_all, refuses, same_cell, sight_rules}
use Rattle.misp_history.proofs.Prelude.{sight_writes, sighting_key, tables, untagged, uuid_at, written}
use Rattle.misp_model.specs.declared.change.Change.TheVariants.{DeleteReference}
use Rattle.misp_model.specs.declared.statement.ProposalDraftFields.{ProposalDraftFields as ProposalDraft}
use Rattle.misp_model.specs.declared.statement.SightingDraftFields.{SightingDraftFields as SightingDraft}
use Rattle.misp_history.proofs.Adding.{AreWritten, tables_written}
use Rattle.misp_history.proofs.Submitted.{event_new, parts_new}
use Rattle.misp_history.proofs.Changing.{none_new, changed_row_new, choice_new, reference_new, key_new, acceptance_new, acceptance_apart}
use Rattle.misp_history.proofs.Released.{published_put}

next_not : (r : Bool × Rule) (rs : List (Bool × Rule)) → refuses (r ∷ rs) ≡ false → r.0 ≡ false
unfolding refuses
next_not r rs h = (or_parts _ _ h).0

none_behind : (r : Bool × Rule) (rs : List (Bool × Rule)) → refuses (r ∷ rs) ≡ false → refuses rs ≡ false
unfolding refuses
none_behind r rs h = (or_parts _ _ h).1

module _ (s : Scene) (log : List Version) (sees : s.rows ≡ known (tables log s.at) s.groups s.at s.by) where
  abbrev New : List Version → Type 0
  New vs = AreWritten s.act s.at log vs

  parts_unclashed : (e : EventId) (b : Submission) → is_accepted s (Ask.Change (AddParts e b)) ≡ true → clashes s b ≡ false
  unfolding is_accepted ask_rules change_rules bars
  parts_unclashed e b accepted = next_not _ _ (none_behind _ _ (none_behind _ _ (none_behind _ _ (none_refuses (change_rules s (AddParts e b)) accepted))))

  proposal_free : (d : ProposalDraft) → is_accepted s (Propose d) ≡ true → list_any (is_row_of s.by (proposal_key s d)) s.rows ≡ false
  unfolding is_accepted ask_rules propose_rules
  proposal_free d accepted = next_not _ _ (none_behind _ _ (none_behind _ _ (none_refuses (propose_rules s d) accepted)))

  sighting_free : (e : EventId) (t : Place) (d : SightingDraft) → is_accepted s (Sight e t d) ≡ true → list_any (is_row_of s.by (sighting_key s e t d)) s.rows ≡ false
  unfolding is_accepted ask_rules sight_rules
  sighting_free e t d accepted = next_not _ _ (none_behind _ _ (none_behind _ _ (none_refuses (sight_rules s e t d) accepted)))

  proposed : (d : ProposalDraft) → is_accepted s (Propose d) ≡ true → New (propose_writes s d)
  unfolding propose_writes
  proposed d h = key_new s log sees (proposal_key s d) Label.Inherit (Content.Proposal (record d.body { by_name = s.by_name })) [] (proposal_free d h) tt (none_new s log sees)

  sighted : (e : EventId) (t : Place) (d : SightingDraft) → is_accepted s (Sight e t d) ≡ true → New (sight_writes s e t d)
  unfolding sight_writes
  sighted e t d h = key_new s log sees (sighting_key s e t d) Label.Inherit _ [] (sighting_free e t d h) tt (none_new s log sees)

  module _ (e : EventId) (n : ProposalName) (accept : Bool) (accepted : is_accepted s (Judge e n accept) ≡ true) where
    not_taken : (accept && (is_for_new n && is_taken s e (uuid_at e (judged_place n)))) ≡ false
    unfolding is_accepted ask_rules judge_rules bars
    not_taken = next_not _ _ (none_behind _ _ (none_behind _ _ (none_behind _ _ (none_refuses (judge_rules s e n accept) accepted))))

    verdict_free : list_any (is_row_of s.by (Verdict e n s.at s.by)) s.rows ≡ false
    unfolding is_accepted ask_rules judge_rules bars
    verdict_free = next_not _ _ (none_behind _ _ (none_behind _ _ (none_behind _ _ (none_behind _ _ (none_behind _ _ (none_refuses (judge_rules s e n accept) accepted))))))

    -- the change that goes with the verdict
    abbrev change_of : Bool → Option ProposalBody → List Version
    change_of t o = cond t (elim o as (λ x. List Version) [ None ↦ [] | Some p ↦ acceptance s e n p ]) []

    change_new : (t : Bool) (o : Option ProposalBody) → (t && (is_for_new n && is_taken s e (uuid_at e (judged_place n)))) ≡ false → New (change_of t o)
    change_new true (Some p) h = acceptance_new s log sees e n p h
    change_new _ _ h = none_new s log sees

    change_apart : (v : Version) → v.key ≡ Verdict e n s.at s.by → (t : Bool) (o : Option ProposalBody) → AllByRecursion (λ u. same_cell v u ≡ false) (change_of t o)
    change_apart v k true (Some p) = acceptance_apart s log sees e n p v k
    change_apart v k _ _ = tt

    judged_new : New (judge_writes s e n accept)
    unfolding judge_writes written
    judged_new = key_new s log sees (Verdict e n s.at s.by) Label.Inherit (Content.Verdict accept) (change_of accept (body_seen s e n)) verdict_free
        (change_apart (written s (Verdict e n s.at s.by) s.now Label.Inherit (Content.Verdict accept)) refl accept (body_seen s e n)) (change_new accept (body_seen s e n) not_taken)

  module _ (older : list_all (λ v. ltb v.act s.act) log ≡ true) where
    -- each version in its place
    abbrev Puts : List Version → Type 0
    Puts vs = tables (log ++ vs) s.at ≡ put_all (map fresh_row vs) (tables log s.at)

    put_new : (vs : List Version) → New vs → Puts vs
    put_new vs w = tables_written s.act s.at log vs w older

    put_change : (c : Change) → is_accepted s (Ask.Change c) ≡ true → Puts (change_writes s c)
    unfolding change_writes
    put_change (AddEvent b) h = put_new _ (event_new s b h log sees)
    put_change (AddParts e b) h = put_new _ (parts_new s b (parts_unclashed e b h) log sees)
    put_change (DeleteReference e x u) h = put_new _ (reference_new s log sees e x u)
    put_change (Change.Untag e p name) h = put_new _ (choice_new s log sees (own_row_is s (Element e p) (has_tag name)) _ (changed_row_new s log sees (Element e p) (λ row. row.label) (at_tags (untagged name))))
    put_change (Publish e) h = published_put s e log sees h older
    put_change _ h = put_new _ (changed_row_new s log sees _ _ _)

    pub put_ask : (a : Ask) → hands_in a ≡ false → is_accepted s a ≡ true → Puts (brings s a)
    unfolding brings hands_in
    put_ask (Ask.Change c) i h = put_change c h
    put_ask (Propose d) i h = put_new (propose_writes s d) (proposed d h)
    put_ask (Judge e n accept) i h = put_new _ (judged_new e n accept h)
    put_ask (Sight e t d) i h = put_new (sight_writes s e t d) (sighted e t d h)
    put_ask (TakePart p) i h = absurd (false≢true (sym i))
    put_ask _ i h = put_new [] (none_new s log sees)
