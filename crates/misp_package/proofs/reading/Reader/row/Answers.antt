use Rattle.std.proofs.Common.{◌≡◌, ℕ, ◌+◌, List, length, Ok, ap, sym, ◌∙◌, arith}
use Rattle.misp_elem.specs.WireReading.{row_of_wire}
use Rattle.misp_package.specs.PackageReading.{before_others, framed_row_at}
use Rattle.misp_package.proofs.RowFaults.{row_fault}
use Rattle.misp_package.proofs.RowsRead.{framed_is, row_read, row_refused}
use Rattle.misp_package.proofs.reading.Reader.row.Goals as goal
use Rattle.misp_package.proofs.reading.Reader.row.Goals.{in-Ok, in-Err-BadRow, in-Err-NoMemory}

pub returns : goal.returns
returns c =
    let front : List ℕ = c.split_at.result.0.now in
    let back : List ℕ = c.split_at.result.1.now in
    let len : ℕ = c.in_ok-len.field-0 in
    let after = c.in_ok-len.ensures ∙ ap (λ (rest : List ℕ). Ok (len, rest)) (sym c.self.view_is) in
    let read : framed_row_at c.args.event c.args.before c.args.self.now ≡ before_others back (row_of_wire c.args.event c.args.before front) =
    framed_is c.args.event c.args.before c.args.self.now len c.self.inside.rest.now front back after c.if-self-len.false c.split_at.ensures.front c.split_at.ensures.back in
    elim c.match-decode_on_wire.branch [
      | in-Ok w ↦ rw (w.result-is, read) (row_read front back (row_of_wire c.args.event c.args.before front) w.in-Ok.row w.in-Ok.ensures.exact)
      | in-Err-BadRow w ↦
          let exact = rw w.in-Err-BadRow.field-0-is at w.in-Err-BadRow.ensures.exact in
          let sizes : length front + length back ≡ length c.self.inside.rest.now = omega (arith, c.split_at.ensures.front_len, c.split_at.ensures.back_len) in
          rw (w.result-is, read, w.saturating_sub.ensures)
          (row_refused front back (length c.self.inside.rest.now) w.in-Err-BadRow.place (row_of_wire c.args.event c.args.before front) (row_fault c.args.event c.args.before front) sizes exact)
      | in-Err-NoMemory w ↦ rw w.result-is tt
    ]
