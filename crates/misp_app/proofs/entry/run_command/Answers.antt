use Rattle.std.proofs.Common.{map, take, sym, subst, arith, IfSome, IfOk}
use Rattle.std.proofs.lemmas.List.{length-map}
use Rattle.misp_script.specs.Source.{script_part}
use Rattle.misp_effects.proofs.KeeperStates.{all_kept}
use Rattle.misp_words.specs.Words.{ServeData, SyncData, command_data, serve_data, sync_data}
use Rattle.misp_net.specs.Carrying.{carried}
use Rattle.misp_net.specs.Prelude.{Description}
use Rattle.misp_app.specs.Hosting.{HasServed}
use Rattle.misp_generated.specs.Script.{source_text}
use Rattle.misp_app.specs.Net.{EndsRun, summary_of}
use Rattle.misp_app.specs.Status.{Wrote}
use Rattle.misp_app.specs.Source.{described, host_named, HasFailed, IsTold, IsUnsound, OthersStay}
use Rattle.misp_app.proofs.Endings.{generated_ends, out_of_memory}
use Rattle.misp_app.proofs.Finishing.{of_left, of_source, status_read}
use Rattle.misp_net.proofs.Openings.{kept_or_opened}
use Rattle.misp_app.proofs.Hosted.{none_read, one_keeper, served_here, serves_unchecked, unread_memory, words_read}
use Rattle.misp_app.proofs.Netted.{read_ended, unread}
use Rattle.misp_app.specs.Synchronising.{HasSynced, IsCutSync, dialled}
use Rattle.misp_app.proofs.Synchronised.{no_line_read, not_read, sync_read, synced_here, syncs_unchecked}
use Rattle.misp_app.specs.declared.status.Status.{Status}
use Rattle.misp_app.proofs.entry.run_command.Goals as goal

-- ---- a script was run

pub returns-in-Net-clause-net : goal.returns-in-Net-clause-net
returns-in-Net-clause-net g c = λ net.
    of_left (g.S.Source.left c.args.source.now) c.in-Ok-source_bytes.bytes.items c.deref.result.now
    (λ left. IfOk (described left) (λ (net : Description). EndsRun c.run_source.result net (script_part left) (map g.K.Keeper.state c.args.keepers.now.items) (map g.K.Keeper.state c.run_source.new.keepers.items)
    (carried (g.C.Carry.faults c.args.carry.now) (g.C.Carry.passed c.args.carry.now)) (carried (g.C.Carry.faults c.run_source.new.carry) (g.C.Carry.passed c.run_source.new.carry))
    (g.W.Sink.written c.args.sink.now) (g.W.Sink.written c.run_source.new.sink)))
    (rw c.in-Net.is at c.in-Ok-source_bytes.ensures.bytes) c.deref.ensures.value c.run_source.ensures.net

pub returns-in-Err-clause-net : goal.returns-in-Err-clause-net
returns-in-Err-clause-net g c = λ net.
    read_ended (λ lines. lines) (map g.K.Keeper.state c.args.keepers.now.items) (carried (g.C.Carry.faults c.args.carry.now) (g.C.Carry.passed c.args.carry.now)) (g.W.Sink.written c.args.sink.now) (g.W.Sink.written c.args.sink.now)
    c.in-Err.status (g.S.Source.left c.args.source.now) c.in-Err.ensures.others

pub returns-in-Err-clause-generated : goal.returns-in-Err-clause-generated
returns-in-Err-clause-generated g c = λ count is.
    unread (summary_of count) (map g.K.Keeper.state c.args.keepers.now.items) (carried (g.C.Carry.faults c.args.carry.now) (g.C.Carry.passed c.args.carry.now)) (g.W.Sink.written c.args.sink.now) (g.W.Sink.written c.args.sink.now)
    c.in-Err.status (described (source_text count)) (script_part (source_text count)) c.in-Err.ensures.others

-- ---- memory ran out

pub returns-in-Err-OutOfMemory-clause-net : goal.returns-in-Err-OutOfMemory-clause-net
returns-in-Err-OutOfMemory-clause-net g c = λ net.
    read_ended (λ lines. lines) (map g.K.Keeper.state c.args.keepers.now.items) (carried (g.C.Carry.faults c.args.carry.now) (g.C.Carry.passed c.args.carry.now)) (g.W.Sink.written c.args.sink.now) (g.W.Sink.written c.args.sink.now)
    Status.OutOfMemory (g.S.Source.left c.args.source.now) tt

pub returns-in-Err-OutOfMemory-clause-generated : goal.returns-in-Err-OutOfMemory-clause-generated
returns-in-Err-OutOfMemory-clause-generated g c = λ count is.
    unread (summary_of count) (map g.K.Keeper.state c.args.keepers.now.items) (carried (g.C.Carry.faults c.args.carry.now) (g.C.Carry.passed c.args.carry.now)) (g.W.Sink.written c.args.sink.now) (g.W.Sink.written c.args.sink.now)
    Status.OutOfMemory (described (source_text count)) (script_part (source_text count)) tt

pub returns-in-Err-OutOfMemory-clause-status : goal.returns-in-Err-OutOfMemory-clause-status
returns-in-Err-OutOfMemory-clause-status g c = out_of_memory _ _

pub returns-in-Err-OutOfMemory-clause-served : goal.returns-in-Err-OutOfMemory-clause-served
returns-in-Err-OutOfMemory-clause-served g c = λ asked time word back coming is ready has.
    let olds = map g.K.Keeper.state c.args.keepers.now.items in
    none_read time asked.count word back coming _ _ _ _ (g.W.Sink.written c.args.sink.now) ready (g.S.Source.left c.args.source.now) asked.name (take 1 olds) olds
    (omega (arith, one_keeper _ asked _ is c.requires, length-map c.args.keepers.now.items g.K.Keeper.state, c.args.keepers.now.ok.0)) (all_kept (take 1 olds))

pub returns-in-Err-clause-served : goal.returns-in-Err-clause-served
returns-in-Err-clause-served g c = λ asked time word back coming is ready has.
    let olds = map g.K.Keeper.state c.args.keepers.now.items in
    subst (λ status. IfSome (g.S.Source.left c.args.source.now) (λ left. IfOk (described left) (λ (net : Description). IfSome (host_named asked.name net) (λ host.
    HasServed host time asked.count word back coming (take 1 olds) (take 1 olds) (g.T.Clock.next_word c.args.clock.now) (g.D.Door.back c.args.door.now) (g.D.Door.coming c.args.door.now)
    (g.W.Sink.written c.args.sink.now) (g.W.Sink.written c.args.sink.now) status))))
    (sym (unread_memory c.in-Err.status c.in-Err.ensures.others has))
    (none_read time asked.count word back coming _ _ _ _ (g.W.Sink.written c.args.sink.now) ready (g.S.Source.left c.args.source.now) asked.name (take 1 olds) olds
    (omega (arith, one_keeper _ asked _ is c.requires, length-map c.args.keepers.now.items g.K.Keeper.state, c.args.keepers.now.ok.0)) (all_kept (take 1 olds)))

-- ---- connections were served

pub returns-clause-served : goal.returns-clause-served
returns-clause-served g c = λ asked time word back coming is ready has.
    let olds = map g.K.Keeper.state c.args.keepers.now.items in
    let news = map g.K.Keeper.state c.serve_source.new.keepers.items in
    served_here (g.S.Source.left c.args.source.now) c.in-Ok-source_bytes.bytes.items c.deref-in-Serve.result.now asked (serve_data c.in-Serve.words)
    (λ (d : ServeData) (net : Description). IfSome (host_named d.name net) (λ host.
    HasServed host time d.count word back coming (take 1 olds) (take 1 news) (g.T.Clock.next_word c.serve_source.new.clock) (g.D.Door.back c.serve_source.new.door) (g.D.Door.coming c.serve_source.new.door)
    (g.W.Sink.written c.args.sink.now) (g.W.Sink.written c.serve_source.new.sink) c.serve_source.result))
    (rw c.in-Serve.is at c.in-Ok-source_bytes.ensures.bytes) c.deref-in-Serve.ensures.value (words_read _ asked c.in-Ok.command.now c.in-Serve.words is c.in-Ok.ensures.read c.in-Serve.is)
    (c.serve_source.ensures.served time word back coming ready has)

-- ---- it was synchronised

pub returns-in-Err-clause-synced : goal.returns-in-Err-clause-synced
returns-in-Err-clause-synced g c = λ asked is has. absurd (no_line_read c.in-Err.status c.in-Err.ensures.others has)

pub returns-in-Err-OutOfMemory-clause-cut_synced : goal.returns-in-Err-OutOfMemory-clause-cut_synced
returns-in-Err-OutOfMemory-clause-cut_synced g c = λ asked is out.
    not_read asked _ _ (dialled (g.L.Dial.asks c.args.dial.now) (g.L.Dial.faults c.args.dial.now)) (all_kept (take 1 (map g.K.Keeper.state c.args.keepers.now.items)))
    (g.S.Source.left c.args.source.now)

pub returns-in-Err-clause-cut_synced : goal.returns-in-Err-clause-cut_synced
returns-in-Err-clause-cut_synced g c = λ asked is out.
    not_read asked _ _ (dialled (g.L.Dial.asks c.args.dial.now) (g.L.Dial.faults c.args.dial.now)) (all_kept (take 1 (map g.K.Keeper.state c.args.keepers.now.items)))
    (g.S.Source.left c.args.source.now)

pub returns-in-Sync-clause-synced : goal.returns-in-Sync-clause-synced
returns-in-Sync-clause-synced g c = λ asked is has.
    let olds = map g.K.Keeper.state c.args.keepers.now.items in
    let news = map g.K.Keeper.state c.sync_source.new.keepers.items in
    synced_here (g.S.Source.left c.args.source.now) c.in-Ok-source_bytes.bytes.items c.deref-in-Sync.result.now asked (sync_data c.in-Sync.words)
    (λ (d : SyncData) (net : Description). IfSome (host_named d.name net) (λ host.
    HasSynced host d net.instances (take 1 olds) (take 1 news)
    (dialled (g.L.Dial.asks c.args.dial.now) (g.L.Dial.faults c.args.dial.now)) (dialled (g.L.Dial.asks c.sync_source.new.dial) (g.L.Dial.faults c.sync_source.new.dial))
    (g.W.Sink.written c.args.sink.now) (g.W.Sink.written c.sync_source.new.sink) c.sync_source.result))
    (rw c.in-Sync.is at c.in-Ok-source_bytes.ensures.bytes) c.deref-in-Sync.ensures.value (sync_read _ asked c.in-Ok.command.now c.in-Sync.words is c.in-Ok.ensures.read c.in-Sync.is)
    (c.sync_source.ensures.synced has)

pub returns-in-Sync-clause-cut_synced : goal.returns-in-Sync-clause-cut_synced
returns-in-Sync-clause-cut_synced g c = λ asked is out.
    let olds = map g.K.Keeper.state c.args.keepers.now.items in
    let news = map g.K.Keeper.state c.sync_source.new.keepers.items in
    synced_here (g.S.Source.left c.args.source.now) c.in-Ok-source_bytes.bytes.items c.deref-in-Sync.result.now asked (sync_data c.in-Sync.words)
    (λ (d : SyncData) (net : Description). IfSome (host_named d.name net) (λ host.
    IsCutSync host d net.instances (take 1 olds) (take 1 news)
    (dialled (g.L.Dial.asks c.args.dial.now) (g.L.Dial.faults c.args.dial.now)) (dialled (g.L.Dial.asks c.sync_source.new.dial) (g.L.Dial.faults c.sync_source.new.dial))))
    (rw c.in-Sync.is at c.in-Ok-source_bytes.ensures.bytes) c.deref-in-Sync.ensures.value (sync_read _ asked c.in-Ok.command.now c.in-Sync.words is c.in-Ok.ensures.read c.in-Sync.is)
    (c.sync_source.ensures.cut out)

-- ---- how it ended

pub returns-in-Net-clause-status : goal.returns-in-Net-clause-status
returns-in-Net-clause-status g c =
    status_read _ (command_data c.in-Ok.command.now) (g.S.Source.left c.args.source.now) c.in-Ok-source_bytes.bytes.items c.deref.result.now c.run_source.result c.in-Ok.ensures.read
    c.in-Ok-source_bytes.ensures.bytes c.deref.ensures.value c.in-Ok-source_bytes.ensures.bound (rw c.in-Net.is c.run_source.ensures.status)

pub returns-in-Gen-clause-status : goal.returns-in-Gen-clause-status
returns-in-Gen-clause-status g c =
    status_read _ (command_data c.in-Ok.command.now) (g.S.Source.left c.args.source.now) c.in-Ok-source_bytes.bytes.items c.deref-in-Gen.result.now c.run_source-in-Gen.result c.in-Ok.ensures.read
    c.in-Ok-source_bytes.ensures.bytes c.deref-in-Gen.ensures.value c.in-Ok-source_bytes.ensures.bound (rw c.in-Gen.is (generated_ends _ _ _ c.run_source-in-Gen.ensures.status))

pub returns-in-Check-clause-status : goal.returns-in-Check-clause-status
returns-in-Check-clause-status g c =
    status_read _ (command_data c.in-Ok.command.now) (g.S.Source.left c.args.source.now) c.in-Ok-source_bytes.bytes.items c.deref-in-Check.result.now c.check_source.result c.in-Ok.ensures.read
    c.in-Ok-source_bytes.ensures.bytes c.deref-in-Check.ensures.value c.in-Ok-source_bytes.ensures.bound (rw c.in-Check.is c.check_source.ensures.status)

pub returns-in-Sync-clause-status : goal.returns-in-Sync-clause-status
returns-in-Sync-clause-status g c =
    status_read _ (command_data c.in-Ok.command.now) (g.S.Source.left c.args.source.now) c.in-Ok-source_bytes.bytes.items c.deref-in-Sync.result.now c.sync_source.result c.in-Ok.ensures.read
    c.in-Ok-source_bytes.ensures.bytes c.deref-in-Sync.ensures.value c.in-Ok-source_bytes.ensures.bound (rw c.in-Sync.is c.sync_source.ensures.status)

pub returns-clause-status : goal.returns-clause-status
returns-clause-status g c =
    status_read _ (command_data c.in-Ok.command.now) (g.S.Source.left c.args.source.now) c.in-Ok-source_bytes.bytes.items c.deref-in-Serve.result.now c.serve_source.result c.in-Ok.ensures.read
    c.in-Ok-source_bytes.ensures.bytes c.deref-in-Serve.ensures.value c.in-Ok-source_bytes.ensures.bound (rw c.in-Serve.is c.serve_source.ensures.status)

pub returns-in-Err-clause-status : goal.returns-in-Err-clause-status
returns-in-Err-clause-status g c = rw c.in-Ok.ensures.read c.in-Err.ensures.status

pub returns-in-Sync-clause-keeper : goal.returns-in-Sync-clause-keeper
returns-in-Sync-clause-keeper g c = λ is.
    of_source _ (command_data c.in-Ok.command.now) (g.S.Source.left c.args.source.now) c.in-Ok-source_bytes.bytes.items c.deref-in-Sync.result.now
    (λ left. HasFailed (described left) (map g.K.Keeper.state c.args.keepers.now.items) (map g.K.Keeper.state c.sync_source.new.keepers.items))
    c.in-Ok.ensures.read c.in-Ok-source_bytes.ensures.bytes c.deref-in-Sync.ensures.value (c.sync_source.ensures.keeper is)

pub returns-in-Sync-clause-bad_row : goal.returns-in-Sync-clause-bad_row
returns-in-Sync-clause-bad_row g c = λ is.
    of_source _ (command_data c.in-Ok.command.now) (g.S.Source.left c.args.source.now) c.in-Ok-source_bytes.bytes.items c.deref-in-Sync.result.now
    (λ left. IsUnsound (described left) (map g.K.Keeper.state c.sync_source.new.keepers.items))
    c.in-Ok.ensures.read c.in-Ok-source_bytes.ensures.bytes c.deref-in-Sync.ensures.value (c.sync_source.ensures.bad_row is)

pub returns-in-Sync-clause-told : goal.returns-in-Sync-clause-told
returns-in-Sync-clause-told g c = λ is.
    of_source _ (command_data c.in-Ok.command.now) (g.S.Source.left c.args.source.now) c.in-Ok-source_bytes.bytes.items c.deref-in-Sync.result.now
    (λ left. IsTold (described left) (Wrote c.sync_source.result (g.W.Sink.written c.args.sink.now) (g.W.Sink.written c.sync_source.new.sink)))
    c.in-Ok.ensures.read c.in-Ok-source_bytes.ensures.bytes c.deref-in-Sync.ensures.value (c.sync_source.ensures.told is)

pub returns-in-Sync-clause-others : goal.returns-in-Sync-clause-others
returns-in-Sync-clause-others g c =
    of_source _ (command_data c.in-Ok.command.now) (g.S.Source.left c.args.source.now) c.in-Ok-source_bytes.bytes.items c.deref-in-Sync.result.now
    (λ left. OthersStay (described left) (map g.K.Keeper.state c.args.keepers.now.items) (map g.K.Keeper.state c.sync_source.new.keepers.items))
    c.in-Ok.ensures.read c.in-Ok-source_bytes.ensures.bytes c.deref-in-Sync.ensures.value c.sync_source.ensures.others

-- ---- no instance was opened

pub returns-in-Sync-clause-unopened : goal.returns-in-Sync-clause-unopened
returns-in-Sync-clause-unopened g c = λ is.
    (syncs_unchecked _ c.in-Ok.command.now c.in-Sync.words c.in-Ok.ensures.read c.in-Sync.is, kept_or_opened _ _ (c.sync_source.ensures.unopened is))

pub returns-clause-unopened : goal.returns-clause-unopened
returns-clause-unopened g c = λ is.
    (serves_unchecked _ c.in-Ok.command.now c.in-Serve.words c.in-Ok.ensures.read c.in-Serve.is, kept_or_opened _ _ (c.serve_source.ensures.unopened is))
