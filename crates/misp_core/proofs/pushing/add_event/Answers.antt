use Rattle.std.proofs.Common.{◌≡◌, ◌++◌, OnOk, subst}
use Rattle.misp_core.proofs.Sending.{are_numbered}
use Rattle.misp_core.proofs.pushing.add_event.Goals as goal

pub returns-clause-added : goal.returns-clause-added
returns-clause-added c = λ table ours.
    subst (λ ps. OnOk c.add_all.result (c.add_all.new.all.items ≡ c.args.all.now.items ++ ps))
    (are_numbered c.args.event.now c.in_ok-more.more.items _ c.in_ok-more.ensures.numbered (c.in_ok-more.ensures.packed table ours))
    c.add_all.ensures.added
