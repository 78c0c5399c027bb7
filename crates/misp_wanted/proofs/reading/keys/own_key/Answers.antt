use Rattle.std.proofs.Common.{refl}
use Rattle.misp_elem.specs.KeyReading.{key_of}
use Rattle.misp_wanted.specs.ManifestReading.{own_key_of}
use Rattle.misp_wanted.proofs.KeyReadings.{key_fault, not_decoded}
use Rattle.misp_wanted.proofs.reading.keys.own_key.Goals as goal

pub returns-in-Err-BadRow : goal.returns-in-Err-BadRow
unfolding own_key_of
returns-in-Err-BadRow c =
    let read = not_decoded c.args.bytes.now c.in-Err-BadRow.place (key_of c.args.bytes.now) (key_fault c.args.bytes.now) (rw c.in-Err-BadRow.field-0-is at c.in-Err-BadRow.ensures.exact) in
    rw (c.in_ok-front.ensures, read, c.saturating_sub.ensures) refl
