use Rattle.std.proofs.Common.{◌≡◌, ℕ, List, Some, length, map, take, refl}
use Rattle.misp_effects.proofs.KeeperStates.{all_kept, first_kept}
use Rattle.misp_net.specs.Hosts.{described_host}
use Rattle.misp_words.specs.Words.{sync_data}
use Rattle.misp_app.specs.Source.{host_named}
use Rattle.misp_app.specs.Synchronising.{HasSynced, IsCutSync, address_beside, dialled}
use Rattle.misp_app.proofs.Endings.{named_done, sync_ends}
use Rattle.misp_app.proofs.Hosted.{drop_more}
use Rattle.misp_app.proofs.Synchronised.{cut_among, named, not_begun, synced_among}
use Rattle.misp_app.proofs.synchronising.sync_net.Goals as goal

-- memory ran out for the instance and the others
pub returns-in-Err-clause-cut : goal.returns-in-Err-clause-cut
returns-in-Err-clause-cut g c = λ is.
    not_begun (sync_data c.args.words.now) _ _ (dialled (g.L.Dial.asks c.args.dial.now) (g.L.Dial.faults c.args.dial.now)) (all_kept (take 1 (map g.K.Keeper.state c.args.keepers.now.items)))
    (host_named c.args.words.now.name c.args.net) c.args.net

pub returns-in-Ok-Some-clause-others : goal.returns-in-Ok-Some-clause-others
returns-in-Ok-Some-clause-others g c =
    drop_more (length c.args.net.instances) _ _ (rw c.in-Ok-Some.field-0-is at c.in-Ok-Some.ensures.some refl) c.sync_entry.ensures.others

-- it was synchronised, among the others
pub returns-in-Ok-Some-clause-synced : goal.returns-in-Ok-Some-clause-synced
returns-in-Ok-Some-clause-synced g c = λ has.
    let olds = take 1 (map g.K.Keeper.state c.args.keepers.now.items) in
    let news = take 1 (map g.K.Keeper.state c.sync_entry.new.keepers.items) in
    let before = dialled (g.L.Dial.asks c.args.dial.now) (g.L.Dial.faults c.args.dial.now) in
    let after = dialled (g.L.Dial.asks c.sync_entry.new.dial) (g.L.Dial.faults c.sync_entry.new.dial) in
    let said : Some (described_host c.in-Ok-Some.entry) ≡ host_named c.args.words.now.name c.args.net = rw c.in-Ok-Some.field-0-is at c.in-Ok-Some.ensures.host in
    let same : (name : List ℕ) → address_beside c.in-Ok-Some.entry.name c.in-Ok-Some.others.items name ≡ address_beside c.in-Ok-Some.entry.name c.args.net.instances name = rw c.in-Ok-Some.field-0-is at c.in-Ok-Some.ensures.others in
    named (host_named c.args.words.now.name c.args.net) (described_host c.in-Ok-Some.entry)
    (λ host. HasSynced host (sync_data c.args.words.now) c.args.net.instances olds news before after (g.W.Sink.written c.args.sink.now) (g.W.Sink.written c.sync_entry.new.sink) c.sync_entry.result)
    said
    (synced_among (described_host c.in-Ok-Some.entry) (sync_data c.args.words.now) c.in-Ok-Some.others.items c.args.net.instances same olds news before after
    (g.W.Sink.written c.args.sink.now) (g.W.Sink.written c.sync_entry.new.sink) c.sync_entry.result (rw c.deref.ensures.value at c.sync_entry.ensures.synced has))

pub returns-in-Ok-Some-clause-cut : goal.returns-in-Ok-Some-clause-cut
returns-in-Ok-Some-clause-cut g c = λ is.
    let olds = take 1 (map g.K.Keeper.state c.args.keepers.now.items) in
    let news = take 1 (map g.K.Keeper.state c.sync_entry.new.keepers.items) in
    let before = dialled (g.L.Dial.asks c.args.dial.now) (g.L.Dial.faults c.args.dial.now) in
    let after = dialled (g.L.Dial.asks c.sync_entry.new.dial) (g.L.Dial.faults c.sync_entry.new.dial) in
    let said : Some (described_host c.in-Ok-Some.entry) ≡ host_named c.args.words.now.name c.args.net = rw c.in-Ok-Some.field-0-is at c.in-Ok-Some.ensures.host in
    let same : (name : List ℕ) → address_beside c.in-Ok-Some.entry.name c.in-Ok-Some.others.items name ≡ address_beside c.in-Ok-Some.entry.name c.args.net.instances name = rw c.in-Ok-Some.field-0-is at c.in-Ok-Some.ensures.others in
    named (host_named c.args.words.now.name c.args.net) (described_host c.in-Ok-Some.entry)
    (λ host. IsCutSync host (sync_data c.args.words.now) c.args.net.instances olds news before after)
    said
    (cut_among (described_host c.in-Ok-Some.entry) (sync_data c.args.words.now) c.in-Ok-Some.others.items c.args.net.instances same olds news before after (rw c.deref.ensures.value at c.sync_entry.ensures.cut is))

pub returns-in-Ok-Some-clause-status : goal.returns-in-Ok-Some-clause-status
returns-in-Ok-Some-clause-status g c =
    let said : Some (described_host c.in-Ok-Some.entry) ≡ host_named c.args.words.now.name c.args.net = rw c.in-Ok-Some.field-0-is at c.in-Ok-Some.ensures.host in
    sync_ends (sync_data c.args.words.now) _ c.sync_entry.result c.sync_entry.ensures.ends (named_done c.args.words.now.name c.args.net (described_host c.in-Ok-Some.entry) said)

-- the others are as they were
pub returns-in-Ok-Some-clause-unopened : goal.returns-in-Ok-Some-clause-unopened
returns-in-Ok-Some-clause-unopened g c = λ is. first_kept 1 _ _ (c.sync_entry.ensures.unopened is) c.sync_entry.ensures.others
