use Rattle.std.proofs.Common.{◌≡◌, Some, None, sym, ◌∙◌, ap, option_map}
use Rattle.misp_orgs.specs.Admin.{link_of}
use Rattle.misp_words.specs.Words.{sync_data}
use Rattle.misp_app.specs.Synchronising.{address_beside, dialled, peer_address}
use Rattle.misp_app.proofs.Synchronised.{alone_over, barred_over, peer_over}
use Rattle.misp_app.proofs.synchronising.sync_over.Goals as goal

-- the link is not there, or is off
pub returns-in-Err : goal.returns-in-Err
returns-in-Err g c =
    rw c.refused.ensures
    (barred_over (sync_data c.args.words.now) (peer_address c.args.instance.now.name c.args.others.now (link_of c.args.instance.now.admin.links c.args.words.now.link)) c.args.instance.now
    (dialled (g.L.Dial.asks c.args.dial.now) (g.L.Dial.faults c.args.dial.now)) c.in-Err.cause (sym c.usable.ensures ∙ c.in-Err.is))

-- its peer is one of the others
pub returns-in-Some : goal.returns-in-Some
returns-in-Some g c =
    let there : Some c.in-Some.address.now ≡ address_beside c.args.instance.now.name c.args.others.now c.in-Ok.link.peer =
    ap (option_map (λ address. address.now)) (sym c.in-Some.is) ∙ (rw c.name.ensures at c.address_beside.ensures) in
    peer_over (sync_data c.args.words.now) c.args.others.now c.args.instance.now c.in-Ok.link (sym c.usable.ensures ∙ c.in-Ok.is) c.synchronise_at.new.instance
    (dialled (g.L.Dial.asks c.args.dial.now) (g.L.Dial.faults c.args.dial.now)) (dialled (g.L.Dial.asks c.synchronise_at.new.dial) (g.L.Dial.faults c.synchronise_at.new.dial))
    c.synchronise_at.result c.in-Some.address.now there c.synchronise_at.ensures.synced

-- there is none
pub returns-in-None : goal.returns-in-None
returns-in-None g c =
    let nobody : None ≡ address_beside c.args.instance.now.name c.args.others.now c.in-Ok.link.peer =
    ap (option_map (λ address. address.now)) (sym c.in-None.is) ∙ (rw c.name.ensures at c.address_beside.ensures) in
    rw c.refused-in-None.ensures
    (alone_over (sync_data c.args.words.now) c.args.others.now c.args.instance.now c.in-Ok.link (sym c.usable.ensures ∙ c.in-Ok.is)
    (dialled (g.L.Dial.asks c.args.dial.now) (g.L.Dial.faults c.args.dial.now)) nobody)
