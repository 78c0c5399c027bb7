use Rattle.std.proofs.Common.{◌∙◌, ap, refl, sym}
use Rattle.misp_admins.specs.Made.{put_item, with_items}
use Rattle.misp_core.proofs.OpenedWhole.{items_more}
use Rattle.misp_core.proofs.opening.with_items.Goals as goal

pub loop-item-init : goal.loop-item-init
unfolding with_items
loop-item-init c = refl

pub loop-item-preserved : goal.loop-item-preserved
loop-item-preserved c =
    c.put-made.ensures
    ∙ (λ i. put_item (c.in_ok-room.ensures.ok i).item (c.in_ok-room.ensures.ok i).admin)
    ∙ ap (put_item c.in-Some.item) c.loop-item.invariant
    ∙ sym (items_more c.args.admin c.loop-item.yielded c.in-Some.item)
