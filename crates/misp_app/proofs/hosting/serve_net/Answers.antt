use Rattle.std.proofs.Common.{◌≡◌, Some, length, map, take, refl, arith}
use Rattle.std.proofs.lemmas.List.{length-map}
use Rattle.misp_effects.proofs.KeeperStates.{all_kept, first_kept}
use Rattle.misp_net.specs.Hosts.{described_host}
use Rattle.misp_words.specs.Words.{serve_data}
use Rattle.misp_app.specs.Source.{host_named}
use Rattle.misp_app.proofs.Endings.{host_ends, named_done}
use Rattle.misp_app.proofs.Hosted.{drop_more, none_named}
use Rattle.misp_app.proofs.hosting.serve_net.Goals as goal

pub returns-in-Ok-Some-clause-others : goal.returns-in-Ok-Some-clause-others
returns-in-Ok-Some-clause-others g c =
    drop_more (length c.args.net.instances) _ _ (rw c.in-Ok-Some.field-0-is at c.in-Ok-Some.ensures.some refl) c.serve_entry.ensures.others

-- memory ran out
pub returns-in-Err-clause-served : goal.returns-in-Err-clause-served
returns-in-Err-clause-served g c = λ time word back coming ready has.
    let olds = map g.K.Keeper.state c.args.keepers.now.items in
    none_named time c.args.words.now.count word back coming _ _ _ _ (g.W.Sink.written c.args.sink.now) ready (host_named c.args.words.now.name c.args.net) (take 1 olds) olds
    (omega (arith, c.requires, length-map c.args.keepers.now.items g.K.Keeper.state, c.args.keepers.now.ok.0)) (all_kept (take 1 olds))

pub returns-in-Ok-Some-clause-status : goal.returns-in-Ok-Some-clause-status
returns-in-Ok-Some-clause-status g c =
    let said : Some (described_host c.in-Ok-Some.entry) ≡ host_named c.args.words.now.name c.args.net = rw c.in-Ok-Some.field-0-is at c.in-Ok-Some.ensures.host in
    host_ends (serve_data c.args.words.now) _ c.serve_entry.result c.serve_entry.ensures.ends (named_done c.args.words.now.name c.args.net (described_host c.in-Ok-Some.entry) said)

-- the others are as they were
pub returns-in-Ok-Some-clause-unopened : goal.returns-in-Ok-Some-clause-unopened
returns-in-Ok-Some-clause-unopened g c = λ is. first_kept 1 _ _ (c.serve_entry.ensures.unopened is) c.serve_entry.ensures.others
