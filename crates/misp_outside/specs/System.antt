-- What is told of the streams of the system: what their reader or writer tells, and how often they
-- have failed. And what is told of sockets, and of the words of the clock.
use Rattle.std.specs.Prelude.{ℕ, Bool, ◌*◌, ◌==◌, List, take, drop, Option, if◌then◌else◌}
use Rattle.std.specs.Int.{w128, from_be_bytes}
use Rattle.misp_outside.specs.declared.adapters.clock.SystemClock.{SystemClock}
use Rattle.misp_outside.specs.declared.adapters.input.StandardInput.{StandardInput}
use Rattle.misp_outside.specs.declared.adapters.output.StandardOutput.{StandardOutput}
use Rattle.misp_outside.specs.declared.adapters.dial.TcpDial.{TcpDial}
use Rattle.misp_outside.specs.declared.adapters.tcp.TcpDoor.{TcpDoor}
use Rattle.misp_outside.specs.declared.adapters.tcp.TcpSource.{TcpSource}
use Rattle.misp_outside.specs.declared.adapters.tcp.TcpSink.{TcpSink}

-- the bytes that are left in the reader, by what that tells
abbrev pub input_left : {R : Type 0} → (R → Option (List ℕ)) → StandardInput R → Option (List ℕ)
input_left remaining input = remaining input.reader

-- the bytes that the writer has, by what that tells
abbrev pub output_written : {W : Type 0}
    → (W → Option (List ℕ)) → StandardOutput W → Option (List ℕ)
output_written contents output = contents output.writer

-- the errors of the reader
abbrev pub input_faults : {R : Type 0} → StandardInput R → ℕ
input_faults input = input.faults

-- the errors of the writer
abbrev pub output_faults : {W : Type 0} → StandardOutput W → ℕ
output_faults output = output.faults

-- whether a connection of the socket is out
abbrev pub tcp_is_out : TcpDoor → Bool
tcp_is_out door = door.out

-- how often the door on a socket has failed
abbrev pub tcp_faults : TcpDoor → ℕ
tcp_faults door = door.faults

-- how often reading a connection has failed
abbrev pub tcp_source_faults : TcpSource → ℕ
tcp_source_faults source = input_faults source.input

-- how often writing to a connection has failed
abbrev pub tcp_sink_faults : TcpSink → ℕ
tcp_sink_faults sink = output_faults sink.output

-- how often the dial over sockets has failed
abbrev pub tcp_dial_faults : TcpDial → ℕ
tcp_dial_faults dial = dial.faults

-- how many words a clock has left of those that it had from the system
abbrev pub words_left : SystemClock → ℕ
words_left clock = clock.left

-- how many it gives the next word of: those that are left, or 16 new ones
abbrev pub words_to_give : ℕ → ℕ
words_to_give left = if left == 0 then 16 else left

-- the word at a place of those that it had from the system
abbrev pub random_word : SystemClock → ℕ → ℕ
random_word clock place = from_be_bytes w128 (take 16 (drop (16 * place) clock.random))
