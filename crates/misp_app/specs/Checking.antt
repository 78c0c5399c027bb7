-- A check of the description of a source.
use Rattle.std.specs.Prelude.{ℕ, List, codes, IfOk, IfSome, Option}
use Rattle.std.specs.Io.KnownBytes.{Appends}
use Rattle.misp_http.specs.Streams.{AppendsSome}
use Rattle.misp_app.specs.Source.{described}
use Rattle.misp_app.specs.declared.status.Status.{Status}
use Rattle.misp_app.specs.declared.status.Status.TheVariants.{Done, WriteFault}

-- what is written of a description that has no fault
abbrev pub ok_line : List ℕ
ok_line = codes "ok\n"

-- By how it ended: that is written, or some of it where the sink failed.
abbrev pub EndsCheck : Status → Option (List ℕ) → Option (List ℕ) → Option (List ℕ) → Type 0
EndsCheck Done source written behind = Appends written behind ok_line
EndsCheck WriteFault source written behind =
    IfSome source (λ left. IfOk (described left) (λ _. AppendsSome written behind ok_line))
EndsCheck status source written behind = Unit {0}
