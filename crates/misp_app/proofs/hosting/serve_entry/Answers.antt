use Rattle.std.proofs.Common.{map, take, refl, sym, ap, subst, arith}
use Rattle.std.proofs.lemmas.List.{length-map}
use Rattle.misp_effects.proofs.KeeperStates.{all_kept}
use Rattle.misp_net.specs.Hosts.{described_host}
use Rattle.misp_net.proofs.Openings.{opened_of_them}
use Rattle.misp_app.specs.Hosting.{HasServed}
use Rattle.misp_app.proofs.Hosted.{memory_alone, none_served}
use Rattle.misp_app.proofs.hosting.serve_entry.Goals as goal

-- memory ran out for the routes
pub returns-in_default-clause-served : goal.returns-in_default-clause-served
returns-in_default-clause-served g c = λ time word back coming ready has.
    let olds = map g.K.Keeper.state c.args.keepers.now.items in
    none_served time c.args.count word back coming _ _ _ _ (g.W.Sink.written c.args.sink.now) ready (described_host c.args.entry) (take 1 olds) olds
    (omega (arith, c.requires, length-map c.args.keepers.now.items g.K.Keeper.state, c.args.keepers.now.ok.0)) (all_kept (take 1 olds))

-- the instance did not open
pub returns-in-Err-clause-served : goal.returns-in-Err-clause-served
returns-in-Err-clause-served g c = λ time word back coming ready has.
    let olds = map g.K.Keeper.state c.args.keepers.now.items in
    let news = map g.K.Keeper.state c.open_first.new.keepers.items in
    subst (λ status. HasServed (described_host c.args.entry) time c.args.count word back coming (take 1 olds) (take 1 news) (g.T.Clock.next_word c.args.clock.now) (g.D.Door.back c.args.door.now) (g.D.Door.coming c.args.door.now) (g.W.Sink.written c.args.sink.now) (g.W.Sink.written c.args.sink.now) status)
    (sym (memory_alone c.in-Err.fault c.from.result c.from.ensures has))
    (none_served time c.args.count word back coming _ _ _ _ (g.W.Sink.written c.args.sink.now) ready (described_host c.args.entry) (take 1 olds) news
    (omega (arith, c.requires, c.in-Err.ensures.places, length-map c.open_first.new.keepers.items g.K.Keeper.state, c.open_first.new.keepers.ok.0)) c.in-Err.ensures.back)

-- it served
pub returns-clause-served : goal.returns-clause-served
returns-clause-served g c = λ time word back coming ready has. record {
  start = c.in-Ok-open_first.instance;
  end = c.serve-served.new.instance;
  how = c.serve-served.result;
  host_is = c.in-Ok-open_first.ensures.host;
  begun = opened_of_them _ _ c.in-Ok-open_first.ensures.opened;
  opened = λ more. c.in-Ok-open_first.ensures.opened;
  closed = ap (take 1) c.close_first.ensures.keepers;
  sound = λ more. c.in-Ok-open_first.ensures.sound;
  how_is = sym c.serving_status.ensures;
  served = c.serve-served.ensures.served time (record { instance = c.in-Ok-open_first.instance; word = word; back = back }) coming ready.time_is
      (record { instance_is = refl; word_is = ready.word_is; back_is = ready.back_is }) ready.coming_is ready.told;
}
