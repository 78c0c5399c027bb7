-- The numbers of labels.
use Rattle.std.specs.Prelude.{ℕ}
use Rattle.misp_ids.specs.declared.label.Label.{Label}

-- the number of its form, by which it is written
abbrev pub label_kind : Label → ℕ
label_kind Label.Own = 0
label_kind Label.Community = 1
label_kind Label.Connected = 2
label_kind Label.All = 3
label_kind (Label.Group g) = 4
label_kind Label.Inherit = 5
