use Rattle.std.proofs.Common.{sym, ap, ◌∙◌}
use Rattle.std.specs.Prelude.{bytes_eq}
use Rattle.std.specs.Int.{w128, to_be_bytes}
use Rattle.misp_sqlite.proofs.Loads.{spelled}
use Rattle.misp_sqlite.proofs.Stored.{same_bytes}
use Rattle.misp_sqlite.proofs.loading.spells.Goals as goal

pub returns-clause-is : goal.returns-clause-is
returns-clause-is c h = (spelled c.args.event c.args.bytes.now c.ranges.event.fits
    (sym (same_bytes (to_be_bytes w128 c.args.event) c.args.bytes.now (ap (λ b. bytes_eq b c.args.bytes.now) (sym (c.as_slice.ensures ∙ c.to_be_bytes.ensures)) ∙ sym c.eq.ensures ∙ h)))).0

pub returns-clause-event : goal.returns-clause-event
returns-clause-event c h = (spelled c.args.event c.args.bytes.now c.ranges.event.fits
    (sym (same_bytes (to_be_bytes w128 c.args.event) c.args.bytes.now (ap (λ b. bytes_eq b c.args.bytes.now) (sym (c.as_slice.ensures ∙ c.to_be_bytes.ensures)) ∙ sym c.eq.ensures ∙ h)))).1
