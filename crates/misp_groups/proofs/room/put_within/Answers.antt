use Rattle.std.proofs.Common.{◌∙◌, ap, sym, insert}
use Rattle.misp_lists.proofs.Lists.{where_ok}
use Rattle.misp_groups.specs.Groups.{IsPlaceOf, IsGapFor}
use Rattle.misp_groups.proofs.Places.{place_as, gap_as, sorted_set, sorted_insert}
use Rattle.misp_groups.proofs.Putting.{put_set, put_insert}
use Rattle.misp_groups.proofs.room.put_within.Goals as goal

pub returns-in-Ok-clause-put : goal.returns-in-Ok-clause-put
returns-in-Ok-clause-put c =
    let place : IsPlaceOf c.args.groups.now.items c.args.group.id c.in-Ok.place = place_as c.as_slice.ensures.value (ap (λ g. g.id) c.group.view_is) c.in-Ok.ensures.found in
    sym (put_set c.args.group c.args.groups.now.items c.in-Ok.place place c.requires.ascend)

pub returns-in-Ok-clause-ascend : goal.returns-in-Ok-clause-ascend
returns-in-Ok-clause-ascend c =
    let place : IsPlaceOf c.args.groups.now.items c.args.group.id c.in-Ok.place = place_as c.as_slice.ensures.value (ap (λ g. g.id) c.group.view_is) c.in-Ok.ensures.found in
    sorted_set _ _ _ place c.requires.ascend

pub returns-in-Err-clause-put : goal.returns-in-Err-clause-put
returns-in-Err-clause-put c =
    let gap : IsGapFor c.args.groups.now.items c.args.group.id c.in-Err.gap = gap_as c.as_slice.ensures.value (ap (λ g. g.id) c.group.view_is) c.in-Err.ensures.absent in
    c.insert.ensures.items ∙ where_ok c.insert.result _ _ (c.insert.ensures.succeeds c.requires.room) ∙ sym (put_insert c.args.group c.args.groups.now.items c.in-Err.gap gap)

pub returns-in-Err-clause-ascend : goal.returns-in-Err-clause-ascend
returns-in-Err-clause-ascend c =
    let gap : IsGapFor c.args.groups.now.items c.args.group.id c.in-Err.gap = gap_as c.as_slice.ensures.value (ap (λ g. g.id) c.group.view_is) c.in-Err.ensures.absent in
    rw (c.insert.ensures.items, where_ok c.insert.result (insert c.args.groups.now.items c.in-Err.gap c.args.group) c.args.groups.now.items (c.insert.ensures.succeeds c.requires.room))
    (sorted_insert _ _ _ gap c.requires.ascend)
