-- Requests that are not read.
use Rattle.std.specs.Prelude.{◌≡◌}
use Rattle.misp_core.specs.Prelude.{FormatFault, RuleName, refused_by}
use Rattle.misp_core.specs.declared.reply.Reply.{Reply}
use Rattle.misp_api.specs.declared.request.AskFault.{AskFault}
use Rattle.misp_api.specs.Request.{refusal_of}

-- the refusal is that of the fault, unless memory ran out
abbrev pub Refuses : FormatFault → AskFault → Type 0
Refuses FormatFault.NoMemory (AskFault.Refused refusal) = ⊥
Refuses fault (AskFault.Refused refusal) = refusal ≡ refusal_of fault
Refuses fault AskFault.NoMemory = Unit {0}

-- the reply to a request that was not read
abbrev pub fault_reply : AskFault → Reply
fault_reply (AskFault.Refused refusal) = Reply.Refused refusal
fault_reply AskFault.NoMemory = refused_by RuleName.NoMemory
