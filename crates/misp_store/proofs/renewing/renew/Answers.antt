use Rattle.std.proofs.Common.{ap, ◌∙◌}
use Rattle.misp_store.specs.Renewing.{put_anew}
use Rattle.misp_store.proofs.Opened.{all_read, all_same, known_before, old_counted}
use Rattle.misp_store.proofs.Renewed.{renewed_held}
use Rattle.misp_outside.proofs.Reporting.{reported_later}
use Rattle.misp_store.proofs.renewing.renew.Goals as goal

pub returns-clause-put : goal.returns-clause-put
returns-clause-put g c =
    reported_later _ _ _ _ c.in_ok-raws.ensures.held
    (renewed_held _ _ c.in_ok-raws.raws.items c.in_ok-anew.anew.items c.in_ok-raws.ensures.found c.in_ok-raws.ensures.order (c.in_ok-anew.ensures.ok ∙ ap put_anew c.deref.ensures.value) c.in_ok-put_rows.ensures.put)

pub returns-clause-count : goal.returns-clause-count
returns-clause-count g c =
    known_before _ _ _ _ _ c.in_ok-raws.ensures.held
    (old_counted _ c.in_ok-raws.raws.items c.in_ok-anew.anew.items _ c.in_ok-raws.ensures.found (c.in_ok-anew.ensures.ok ∙ ap put_anew c.deref.ensures.value) c.in_ok-put_rows.ensures.count)
    c.in_ok-put_rows.ensures.put

pub returns-clause-read : goal.returns-clause-read
returns-clause-read g c =
    known_before _ _ _ _ _ c.in_ok-raws.ensures.held
    (all_read _ c.in_ok-raws.raws.items c.in_ok-raws.ensures.found (rw (← c.deref.ensures.value) c.in_ok-anew.ensures.read)) c.in_ok-put_rows.ensures.put

pub returns-clause-same : goal.returns-clause-same
returns-clause-same g c =
    known_before _ _ _ _ _ c.in_ok-raws.ensures.held
    (all_same _ c.in_ok-raws.raws.items c.in_ok-raws.ensures.found (rw (← c.deref.ensures.value) c.in_ok-anew.ensures.same)) c.in_ok-put_rows.ensures.put
