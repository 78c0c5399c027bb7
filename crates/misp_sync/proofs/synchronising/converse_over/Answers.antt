use Rattle.std.proofs.Common.{◌≡◌, ℕ, ap, drop, rules, sym}
use Rattle.misp_core.specs.Prelude.{Host}
use Rattle.misp_orgs.specs.declared.link.Link.{Link}
use Rattle.misp_sync.specs.WireAnswers.{WireSetting}
use Rattle.misp_sync.proofs.Ending.{by_pull, by_push}
use Rattle.misp_sync.proofs.synchronising.converse_over.Goals as goal

pub returns-in-Pull-clause-conversed : goal.returns-in-Pull-clause-conversed
returns-in-Pull-clause-conversed g c =
    let first = c.new-peer.ensures in
    let own_first = c.new-own.ensures in
    let name = ap (λ (s : WireSetting). s.through) c.converse.ensures.source in
    let own_name = ap (λ (s : (Host × Link) × ℕ). s.1) c.converse.ensures.sink in
    let wire : c.converse.new.source.wire.now ≡ c.wire-1.given.0 = search rules in
    let instance : c.converse.new.sink.instance.now ≡ c.instance-1.given.0 = search rules in
    rw (sym wire, sym instance)
    (by_pull c.args.direction c.args.link.now c.args.instance.now _ _ _ c.converse.result _ c.new-leader.ensures
    (rw own_first.now at (ap (λ (s : (Host × Link) × ℕ). s.0.0) c.converse.ensures.sink))
    (rw first.now at (ap (λ (s : WireSetting). s.host) c.converse.ensures.source)) c.in-Pull.is
    (rw (first.now, first.key, own_first.now, own_first.link) at c.converse.ensures.replies))

pub returns-in-Pull-clause-through : goal.returns-in-Pull-clause-through
returns-in-Pull-clause-through g c =
    let first = c.new-peer.ensures in
    let name = ap (λ (s : WireSetting). s.through) c.converse.ensures.source in
    let wire : c.converse.new.source.wire.now ≡ c.wire-1.given.0 = search rules in
    rw (sym wire) (rw first.now at (ap (drop 1) name))

pub returns-clause-conversed : goal.returns-clause-conversed
returns-clause-conversed g c =
    let first = c.new-peer.ensures in
    let own_first = c.new-own.ensures in
    let name = ap (λ (s : WireSetting). s.through) c.converse-in-Push.ensures.sink in
    let own_name = ap (λ (s : (Host × Link) × ℕ). s.1) c.converse-in-Push.ensures.source in
    let wire : c.converse-in-Push.new.sink.wire.now ≡ c.wire-in-Push-1.given.0 = search rules in
    let instance : c.converse-in-Push.new.source.instance.now ≡ c.instance-in-Push-1.given.0 = search rules in
    rw (sym wire, sym instance)
    (by_push c.args.direction c.args.link.now c.args.instance.now _ _ _ c.converse-in-Push.result _ c.new-leader.ensures
    (rw own_first.now at (ap (λ (s : (Host × Link) × ℕ). s.0.0) c.converse-in-Push.ensures.source))
    (rw first.now at (ap (λ (s : WireSetting). s.host) c.converse-in-Push.ensures.sink)) c.in-Push.is
    (rw (first.now, first.key, own_first.now, own_first.link) at c.converse-in-Push.ensures.replies))

pub returns-clause-through : goal.returns-clause-through
returns-clause-through g c =
    let first = c.new-peer.ensures in
    let name = ap (λ (s : WireSetting). s.through) c.converse-in-Push.ensures.sink in
    let wire : c.converse-in-Push.new.sink.wire.now ≡ c.wire-in-Push-1.given.0 = search rules in
    rw (sym wire) (rw first.now at (ap (drop 1) name))
