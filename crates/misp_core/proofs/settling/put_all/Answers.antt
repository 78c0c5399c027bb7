use Rattle.std.proofs.Common.{rules, [], ◌∷◌, ap, sym, ◌∙◌, arith, length-append}
use Rattle.std.proofs.lemmas.Iterator.Adapters.{YieldsList-from_vec}
use Rattle.std.proofs.lemmas.Iterator.Consumers.{YieldsList-turn, YieldsList-end}
use Rattle.misp_groups.specs.Rooms.{Roomy}
use Rattle.misp_effects.specs.Prelude.{put_group, put_groups}
use Rattle.misp_store.proofs.Storable.{none_put, put_more, each_same}
use Rattle.misp_core.proofs.settling.put_all.Goals as goal

pub loop-group-init : goal.loop-group-init
loop-group-init c = record { put = sym (none_put _); spare = omega arith }

pub put-requires : goal.put-requires
put-requires c =
    let road = YieldsList-from_vec {s = c.into_iter-group-iterator.result} c.args.groups.items (search rules) (search rules) in
    let turn = YieldsList-turn road c.loop-group.yielded c.loop-group.group-iterator c.loop-group.yielded_by c.next.result c.next.new.self c.in-Some.group c.in-Some.is c.next.ensures.steps in
    omega (arith, turn.0, c.requires, c.loop-group.invariant.spare)

pub loop-group-preserved : goal.loop-group-preserved
loop-group-preserved c =
    let road = YieldsList-from_vec {s = c.into_iter-group-iterator.result} c.args.groups.items (search rules) (search rules) in
    let turn = YieldsList-turn road c.loop-group.yielded c.loop-group.group-iterator c.loop-group.yielded_by c.next.result c.next.new.self c.in-Some.group c.in-Some.is c.next.ensures.steps in
    record {
      put =
          ap (λ (r : Roomy). r.groups) c.put.ensures
          ∙ ap (put_group c.in-Some.group) c.loop-group.invariant.put
          ∙ sym (put_more _ c.loop-group.yielded c.in-Some.group);
      spare = omega (arith, turn.0, c.requires, c.loop-group.invariant.spare, ap (λ (r : Roomy). r.spare) c.put.ensures, length-append c.loop-group.yielded (c.in-Some.group ∷ []));
    }

pub returns : goal.returns
returns c =
    let road = YieldsList-from_vec {s = c.into_iter-group-iterator.result} c.args.groups.items (search rules) (search rules) in
    let ends = YieldsList-end road c.loop-group.yielded c.loop-group.group-iterator c.loop-group.yielded_by c.next.result c.next.new.self c.in-None.is c.next.ensures.steps in
    c.loop-group.invariant.put ∙ ap (put_groups _) (sym (each_same c.loop-group.yielded) ∙ ends.0)
