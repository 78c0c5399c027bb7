use Rattle.std.proofs.Common.{refl}
use Rattle.misp_elem.specs.Prelude.{event_key}
use Rattle.misp_wanted.specs.ManifestReading.{first_key_at}
use Rattle.misp_wanted.proofs.reading.keys.first_key_at.Goals as goal

pub returns : goal.returns
unfolding first_key_at event_key
returns c = rw (c.in_ok-between.ensures, c.in_ok-own.ensures, c.in_ok-between-2.ensures) refl
