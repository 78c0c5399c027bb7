use Rattle.std.proofs.Common.{◌≤◌, codes}
use Rattle.misp_elem.specs.Prelude.{IsBetween, text_limit}
use Rattle.misp_model.specs.Edit.{given_size}
use Rattle.misp_format.specs.Prelude.{body_of}
use Rattle.misp_format.proofs.Fitting.{passed_limit, date_fits}
use Rattle.misp_format.proofs.Kept.{number_ok}
use Rattle.misp_format.proofs.Edits.{given_row_keeps, event_label_given, some_text_given, date_given, uuid_given}
use Rattle.misp_format.proofs.reading.event_edit.read_event_edit.Goals as goal

-- what is read fits a row
pub of-requires-2 : goal.of-requires-2
of-requires-2 c =
    let it = body_of c.in_ok-it.it in
    let short : given_size c.in_ok-info.info ≤ text_limit = rw (← c.given_size-bytes.ensures) (passed_limit it _ c.in_ok-fields.ensures.gives) in rw c.in_ok-fields.ensures.same (
      event_label_given it _ c.in_ok-label.ensures.gives c.in_ok-label.ensures.fits,
      (
        some_text_given _ c.in_ok-info.ensures.long short,
        (
          date_given _ (date_fits it _ c.in_ok-date.ensures),
          (
            given_row_keeps (IsBetween 1 4) it (codes "threat_level_id") _ (number_ok 1 4) _ c.in_ok-threat_level_id.ensures,
            (
              given_row_keeps (IsBetween 0 2) it (codes "analysis") _ (number_ok 0 2) _ c.in_ok-analysis.ensures,
              uuid_given _ c.in_ok-extends_uuid.ensures.in_range,
            ),
          ),
        ),
      ),
    )
