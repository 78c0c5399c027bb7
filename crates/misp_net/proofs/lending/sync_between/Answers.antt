use Rattle.std.proofs.Common.{◌∙◌, ap, subst, slice_index_or, arith, length}
use Rattle.std.specs.List.{insert}
use Rattle.misp_net.specs.Carrying.{carried}
use Rattle.misp_net.specs.Lending.{HasSynced}
use Rattle.misp_net.proofs.Lent.{both_back, lent, set_in, set_long, shorter, within_rest}
use Rattle.misp_net.proofs.lending.sync_between.Goals as goal

pub returns : goal.returns
returns g c =
    let xs = c.args.instances.now.items in
    let own = c.args.own in
    let peer = c.args.peer in
    let place = c.place_without-place.result in
    let from = c.sync_with-reply.ensures.synced in
    let before = carried (g.C.Carry.faults c.args.carry.now) (g.C.Carry.passed c.args.carry.now) in
    let after = carried (g.C.Carry.faults c.sync_with-reply.new.carry) (g.C.Carry.passed c.sync_with-reply.new.carry) in
    record {
      mine = c.sync_with-reply.new.own;
      theirs = from.theirs;
      went = λ d.
          subst (λ a. HasSynced c.args.direction c.args.link.now before after a (slice_index_or xs peer d) c.sync_with-reply.new.own from.theirs c.sync_with-reply.result) (c.take_out-mine.ensures.out d)
          (subst (λ b. HasSynced c.args.direction c.args.link.now before after c.take_out-mine.result b c.sync_with-reply.new.own from.theirs c.sync_with-reply.result)
          (ap (λ l. slice_index_or l place d) c.take_out-mine.ensures.rest ∙ lent xs own peer place c.requires.own c.requires.apart c.place_without-place.ensures.below c.place_without-place.ensures.above d)
          (from.went d));
      left =
          c.put_in.ensures
          ∙ ap (λ l. insert l own c.sync_with-reply.new.own) (from.left ∙ ap (set_in place from.theirs) c.take_out-mine.ensures.rest)
          ∙ both_back xs own peer place c.requires.own c.requires.apart c.place_without-place.ensures.below c.place_without-place.ensures.above c.sync_with-reply.new.own from.theirs;
    }

pub sync_with-reply-requires : goal.sync_with-reply-requires
sync_with-reply-requires g c =
    let within = within_rest c.args.instances.now.items c.args.own c.args.peer c.place_without-place.result c.requires.own (omega (arith, c.requires.peer, c.args.instances.now.ok.0)) c.requires.apart
    c.place_without-place.ensures.below c.place_without-place.ensures.above in
    omega (arith, within, c.take_out-mine.new.instances.ok.0, ap length c.take_out-mine.ensures.rest)

pub put_in-requires-clause-room : goal.put_in-requires-clause-room
put_in-requires-clause-room g c = omega (
  arith,
  c.sync_with-reply.new.instances.ok.0,
  ap length c.sync_with-reply.ensures.synced.left,
  set_long c.take_out-mine.new.instances.items c.place_without-place.result c.sync_with-reply.ensures.synced.theirs,
  ap length c.take_out-mine.ensures.rest,
  shorter c.args.instances.now.items c.args.own c.requires.own,
  c.args.instances.now.ok.0,
  c.args.instances.now.ok.1,
  c.sync_with-reply.ensures.room,
  c.take_out-mine.ensures.room,
)
