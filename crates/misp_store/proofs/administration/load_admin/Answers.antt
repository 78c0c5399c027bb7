use Rattle.misp_store.proofs.AdminRows.{groups_held}
use Rattle.misp_store.proofs.administration.load_admin.Goals as goal

pub returns-clause-groups : goal.returns-clause-groups
returns-clause-groups g c =
    groups_held _ c.in_ok-rows.rows.items c.in_ok-decode_admin.field-0.groups c.in_ok-rows.ensures.found c.in_ok-rows.ensures.order
    (rw (← c.deref.ensures.value) c.in_ok-decode_admin.ensures.groups)
