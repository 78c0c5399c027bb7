use Rattle.std.proofs.Common.{rules, ◌≡◌, ◌+◌, [], ◌∷◌, ◌++◌, map, drop, vec_len, length, List, Err, sym, ◌∙◌, ap, subst, arith, length-append, drop-drop}
use Rattle.std.proofs.lemmas.List.{length-map, length_push, map-id, map_push}
use Rattle.std.proofs.lemmas.Iterator.Adapters.{YieldsList-from_vec}
use Rattle.std.proofs.lemmas.Iterator.Consumers.{YieldsList-turn, YieldsList-end}
use Rattle.misp_effects.proofs.KeeperStates.{AreBack, all_kept, back_others, back_failed, back_told}
use Rattle.misp_net.specs.declared.places.NetFault.{NetFault}
use Rattle.misp_net.specs.Prelude.{Host, described_host, state_of, states_of}
use Rattle.misp_net.proofs.Openings.{AreOpenedAs, are_opened, back_opened, if_err, kept_or_opened, next_opened, opened_as, opened_push, sound_next}
use Rattle.misp_net.proofs.places.open_all.Given.{Over}
use Rattle.misp_net.proofs.places.open_all.Goals as goal

pub returns-in_err-instances-clause-back : goal.returns-in_err-instances-clause-back
returns-in_err-instances-clause-back g c = if_err c.from_residual.result (λ fault. kept_or_opened _ _ (all_kept _))

-- one more is opened
pub loop-entry-preserved : goal.loop-entry-preserved
loop-entry-preserved g c =
    let before = c.loop-entry.instances.items in
    let one = c.in-Ok.instance in
    let olds = map g.K.Keeper.state c.args.keepers.now.items in
    let items : c.push.new.self.items ≡ before ++ one ∷ [] = rw c.unwrap.ensures at c.push.ensures.items in
    let more : length (c.loop-entry.yielded ++ c.in-Some.entry ∷ []) ≡ length c.loop-entry.yielded + 1 = length_push c.loop-entry.yielded c.in-Some.entry in
    let split : states_of c.push.new.self.items ≡ states_of before ++ state_of one ∷ [] = ap states_of items ∙ map_push state_of before one in
    record {
      hosts =
          subst (λ now. AreOpenedAs (map described_host (c.loop-entry.yielded ++ c.in-Some.entry ∷ [])) now) (sym items)
          (subst (λ (described : List Host). AreOpenedAs described (before ++ one ∷ [])) (sym (map_push described_host c.loop-entry.yielded c.in-Some.entry))
          (opened_push (map described_host c.loop-entry.yielded) before (described_host c.in-Some.entry) one c.loop-entry.invariant.hosts
          (opened_as (described_host c.in-Some.entry) one c.in-Ok.ensures.host)));
      opened =
          rw (split, more)
          (next_opened (length c.loop-entry.yielded) olds (states_of before) _ (state_of one) c.loop-entry.invariant.rest c.loop-entry.invariant.opened c.in-Ok.ensures.opened);
      rest =
          c.in-Ok.ensures.rest
          ∙ ap (drop 1) c.loop-entry.invariant.rest
          ∙ drop-drop 1 (length c.loop-entry.yielded) olds
          ∙ ap (λ n. drop n olds) (sym more);
      sound =
          rw (split, more)
          (sound_next (length c.loop-entry.yielded) olds (states_of before) _ (state_of one) c.loop-entry.invariant.rest c.loop-entry.invariant.sound c.in-Ok.ensures.sound);
      count = search rules;
      room = search rules;
      others = search rules;
      places = search rules;
    }

pub close_all-requires : goal.close_all-requires
close_all-requires g c = omega (arith, c.open_first.ensures.room, c.in-Err.ensures.places, c.loop-entry.invariant.others, c.loop-entry.invariant.places)

-- ---- the next is not, and all are back

are_back : (g : Over) (c : goal.After-drop-entry-iterator g)
    → AreBack (map g.K.Keeper.state c.args.keepers.now.items) (map g.K.Keeper.state c.loop-entry.keepers.items) (states_of c.loop-entry.instances.items)
    (map g.K.Keeper.state c.open_first.new.keepers.items) (map g.K.Keeper.state c.close_all.new.keepers.items) (length c.loop-entry.yielded) (vec_len c.args.entries)
are_back g c =
    let road = YieldsList-from_vec {s = c.into_iter-entry-iterator.result} c.args.entries.items (search rules) (search rules) in
    let turn = YieldsList-turn road c.loop-entry.yielded c.loop-entry.entry-iterator c.loop-entry.yielded_by c.next.result c.next.new.self c.in-Some.entry c.in-Some.is c.next.ensures.steps in
    record {
      long = omega (arith, length-map c.loop-entry.instances.items state_of, c.loop-entry.invariant.count, c.loop-entry.instances.ok.0);
      before = omega (arith, turn.0, c.args.entries.ok.0);
      left = c.loop-entry.invariant.rest;
      is = c.close_all.ensures;
    }

pub returns-in-Err-clause-back : goal.returns-in-Err-clause-back
returns-in-Err-clause-back g c = back_opened (are_back g c) c.loop-entry.invariant.opened c.in-Err.ensures.back c.in-Err.ensures.others

pub returns-in-Err-clause-others : goal.returns-in-Err-clause-others
returns-in-Err-clause-others g c = back_others (are_back g c) c.in-Err.ensures.others

pub returns-in-Err-clause-keeper : goal.returns-in-Err-clause-keeper
returns-in-Err-clause-keeper g c = λ is.
    back_failed (are_back g c) (c.open_first.ensures.keeper (let same : c.in-Err.fault ≡ NetFault.KeeperFault = cc in c.in-Err.is ∙ ap Err same))

pub returns-in-Err-clause-bad_row : goal.returns-in-Err-clause-bad_row
returns-in-Err-clause-bad_row g c = λ is.
    back_told (are_back g c) _ (c.open_first.ensures.bad_row (let same : c.in-Err.fault ≡ NetFault.BadRow = cc in c.in-Err.is ∙ ap Err same))

pub returns-in-Err-clause-places : goal.returns-in-Err-clause-places
returns-in-Err-clause-places g c =
    let same = ap length c.close_all.ensures in
    omega (
      arith,
      same,
      length-append (states_of c.loop-entry.instances.items) (map g.K.Keeper.state c.open_first.new.keepers.items),
      length-map c.loop-entry.instances.items state_of,
      length-map c.open_first.new.keepers.items g.K.Keeper.state,
      length-map c.close_all.new.keepers.items g.K.Keeper.state,
      c.loop-entry.instances.ok.0,
      c.open_first.new.keepers.ok.0,
      c.close_all.new.keepers.ok.0,
      c.in-Err.ensures.places,
      c.loop-entry.invariant.others,
    )

-- ---- all are opened

pub returns-clause-hosts : goal.returns-clause-hosts
returns-clause-hosts g c =
    let road = YieldsList-from_vec {s = c.into_iter-entry-iterator.result} c.args.entries.items (search rules) (search rules) in
    let ends = YieldsList-end road c.loop-entry.yielded c.loop-entry.entry-iterator c.loop-entry.yielded_by c.next.result c.next.new.self c.in-None.is c.next.ensures.steps in
    are_opened (map described_host c.args.entries.items) c.loop-entry.instances.items
    (subst (λ all. AreOpenedAs (map described_host all) c.loop-entry.instances.items) (sym (map-id c.loop-entry.yielded) ∙ ends.0) c.loop-entry.invariant.hosts)

pub returns-clause-sound : goal.returns-clause-sound
returns-clause-sound g c =
    let road = YieldsList-from_vec {s = c.into_iter-entry-iterator.result} c.args.entries.items (search rules) (search rules) in
    let ends = YieldsList-end road c.loop-entry.yielded c.loop-entry.entry-iterator c.loop-entry.yielded_by c.next.result c.next.new.self c.in-None.is c.next.ensures.steps in
    let all : length c.loop-entry.yielded ≡ vec_len c.args.entries = omega (arith, ends.1, c.args.entries.ok.0) in
    rw (← all) c.loop-entry.invariant.sound
