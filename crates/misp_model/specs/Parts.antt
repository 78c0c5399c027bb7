-- What is added to an event that is there.
use Rattle.std.specs.Prelude.{◌≡◌, None}
use Rattle.misp_elem.specs.Prelude.{IsUid, Label}
use Rattle.misp_elem.specs.Draft.{SubmissionFields}

-- elements alone: no body, and the label that goes with none
abbrev pub IsParts : SubmissionFields → Type 0
IsParts s = IsUid s.event.0 × ((s.body ≡ None) × (s.label ≡ Label.Inherit))
