use Rattle.std.proofs.Common.{◌≡◌, ℕ, ◌+◌, List, length, Ok, ap, sym, ◌∙◌, arith}
use Rattle.misp_package.specs.PackageReading.{before_others}
use Rattle.misp_wanted.specs.ManifestReading.{framed_at, list_key_of}
use Rattle.misp_wanted.proofs.KeyReadings.{list_fault}
use Rattle.misp_wanted.proofs.ListFields.{framed_is, read_before, refused_before}
use Rattle.misp_wanted.proofs.reading.keys.framed_key.Goals as goal
use Rattle.misp_wanted.proofs.reading.keys.framed_key.Goals.{in-Ok, in-Err-Bad, in-Err-NoMemory}

pub returns : goal.returns
returns c =
    let front : List ℕ = c.split_at.result.0.now in
    let back : List ℕ = c.split_at.result.1.now in
    let len : ℕ = c.in_ok-len.field-0 in
    let after = c.in_ok-len.ensures ∙ ap (λ (rest : List ℕ). Ok (len, rest)) (sym c.reader.view_is) in
    let read : framed_at (list_key_of c.args.own_first c.args.event c.args.before) c.args.reader.now ≡ before_others back (list_key_of c.args.own_first c.args.event c.args.before front) =
    framed_is (list_key_of c.args.own_first c.args.event c.args.before) c.args.reader.now len c.reader.inside.rest.now front back after c.if-reader-len.false c.split_at.ensures.front c.split_at.ensures.back in
    elim c.match-list_key.branch [
      | in-Ok w ↦ rw (w.result-is, read) (read_before back (list_key_of c.args.own_first c.args.event c.args.before front) w.in-Ok.key w.in-Ok.ensures)
      | in-Err-Bad w ↦
          let refused = rw w.in-Err-Bad.field-0-is at w.in-Err-Bad.ensures in
          let sizes : length front + length back ≡ length c.reader.inside.rest.now = omega (arith, c.split_at.ensures.front_len, c.split_at.ensures.back_len) in
          rw (w.result-is, read, w.saturating_sub-in-Err-Bad.ensures, w.saturating_sub.ensures)
          (refused_before front back (length c.reader.inside.rest.now) w.in-Err-Bad.left (list_key_of c.args.own_first c.args.event c.args.before front) (list_fault c.args.own_first c.args.event c.args.before front w.in-Err-Bad.left refused) sizes refused)
      | in-Err-NoMemory w ↦ rw w.result-is tt
    ]
