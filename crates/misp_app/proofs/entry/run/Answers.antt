use Rattle.std.proofs.Common.{map, take, arith}
use Rattle.misp_app.proofs.Endings.{check_ended, sync_ended}
use Rattle.misp_app.proofs.Finishing.{finished}
use Rattle.misp_app.specs.Synchronising.{dialled}
use Rattle.misp_app.proofs.entry.run.Goals as goal

pub returns-clause-synced : goal.returns-clause-synced
returns-clause-synced g c = λ asked is.
    sync_ended asked (take 1 (map g.K.Keeper.state c.args.keepers.now.items)) (take 1 (map g.K.Keeper.state c.run_command.new.keepers.items))
    (dialled (g.L.Dial.asks c.args.dial.now) (g.L.Dial.faults c.args.dial.now)) (dialled (g.L.Dial.asks c.run_command.new.dial) (g.L.Dial.faults c.run_command.new.dial))
    (g.W.Sink.written c.args.sink.now) (g.W.Sink.written c.run_command.new.sink) c.run_command.result (g.S.Source.left c.args.source.now)
    (c.run_command.ensures.synced asked is) (c.run_command.ensures.cut_synced asked is)

pub returns-clause-checked : goal.returns-clause-checked
returns-clause-checked g c = λ is. check_ended c.run_command.result _ _ _ (c.run_command.ensures.checked is) (c.run_command.ensures.partly_checked is)

pub returns-clause-causes : goal.returns-clause-causes
returns-clause-causes g c = record {
  read = c.run_command.ensures.read;
  write = c.run_command.ensures.write;
  door = c.run_command.ensures.door;
  too_much = c.run_command.ensures.too_much;
  keeper = c.run_command.ensures.keeper;
  bad_row = c.run_command.ensures.bad_row;
  stays = c.run_command.ensures.stays;
  carry = c.run_command.ensures.later;
  dial = c.run_command.ensures.dialling;
}

pub returns-clause-finished : goal.returns-clause-finished
returns-clause-finished g c = λ whole empty all.
    finished c.run_command.result _ _ _ _ whole empty all (λ is. (c.run_command.ensures.unopened is).1) _ (g.S.Source.left c.args.source.now) (returns-clause-causes g c) c.run_command.ensures.status

pub returns-clause-alone : goal.returns-clause-alone
returns-clause-alone g c = record {
  places = omega (arith, c.run_command.ensures.places, c.run_command.new.keepers.ok.0, c.args.keepers.now.ok.0);
  others = c.run_command.ensures.others;
  still = c.run_command.ensures.still;
  checked = c.run_command.ensures.still_checked;
  untouched = c.run_command.ensures.untouched;
  undialled = c.run_command.ensures.undialled;
  unasked = c.run_command.ensures.unasked;
  indoors = c.run_command.ensures.indoors;
}
