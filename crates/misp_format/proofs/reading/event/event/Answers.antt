use Rattle.std.proofs.Common.{◌≡◌, ◌+◌, ◌-◌, ◌^◌, length, min, true, ap, ◌∙◌}
use Rattle.misp_format.specs.Prelude.{body_of, is_utf8, tags_size}
use Rattle.misp_format.proofs.Fitting.{within_limit, event_fits, event_label_fits}
use Rattle.misp_format.proofs.reading.event.event.Goals as goal

-- what is read fits a row
pub invariant_of-body : goal.invariant_of-body
invariant_of-body c =
    let it = body_of c.args.it.now in
    let info : is_utf8 c.in_ok-info.info ≡ true = rw (← c.info.view_is) c.info.invariant in
    let short = within_limit it _ _ c.in_ok-tags-2.ensures.gives (c.size-bytes.ensures ∙ ap (λ ts. min (length c.in_ok-info.info + tags_size ts) (2 ^ 64 - 1)) c.as_slice.ensures) in
    rw c.in_ok-tags-2.ensures.same (event_fits it _ c.in_ok-info.ensures.long info c.in_ok-date.ensures c.in_ok-threat_level_id.ensures c.in_ok-analysis.ensures c.in_ok-extends_uuid.ensures.in_range c.in_ok-tags.ensures.fits short)

pub returns-clause-own : goal.returns-clause-own
returns-clause-own c = event_label_fits (body_of c.args.it.now) _ c.in_ok-label.ensures.gives c.in_ok-label.ensures.fits
