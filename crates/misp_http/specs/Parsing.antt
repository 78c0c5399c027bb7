-- What the parser says of the bytes that are looked at for a head.
use Rattle.std.specs.Prelude.{◌≡◌, ℕ, List, length, Ok}
use Rattle.httparse.specs.Grammar.{RequestHead, print_request}
use Rattle.misp_http.specs.Headers.{headers_of, body_length, key_of, asks_to_close}
use Rattle.misp_http.specs.Reading.{Begins, NeverBegins, IsUndecided, HasBadHead}
use Rattle.misp_http.specs.declared.fault.Fault.{Fault}
use Rattle.misp_http.specs.declared.fault.Fault.TheVariants.{NoHead, LongHead, BadHead}
use Rattle.misp_http.specs.declared.head.Head.{Head}
use Rattle.misp_http.specs.declared.parsing.HeadState.{HeadState}
use Rattle.misp_http.specs.declared.parsing.HeadState.TheVariants as states

-- what is wrong with the bytes
abbrev pub IsFaulty : List ℕ → Fault → Type 0
IsFaulty bytes NoHead = NeverBegins bytes
IsFaulty bytes LongHead = ⊥
IsFaulty bytes (BadHead fault) = HasBadHead bytes fault

-- what the head says, and where it ends
pub record IsHeadOf (h : RequestHead) (head : Head) : Type 0 where
  pub method : head.method ≡ h.method
  pub target : head.target ≡ h.target
  pub key : head.key ≡ key_of (headers_of h)
  pub close : head.close ≡ asks_to_close h.minor (headers_of h)
  pub body_size : body_length (headers_of h) ≡ Ok head.body_size
  pub size : head.size ≡ length (print_request h)

-- the bytes begin with a head that says this
abbrev pub BeginsAs : List ℕ → Head → Type 0
BeginsAs bytes head = (h : RequestHead) × Begins bytes h × IsHeadOf h head

abbrev pub IsHeadState : List ℕ → HeadState → Type 0
IsHeadState bytes (states.Whole head) = BeginsAs bytes head
IsHeadState bytes (states.Faulty fault) = IsFaulty bytes fault
IsHeadState bytes states.Undecided = IsUndecided bytes

-- the same, where Undecided says nothing
abbrev pub IsSeen : List ℕ → HeadState → Type 0
IsSeen bytes (states.Whole head) = BeginsAs bytes head
IsSeen bytes (states.Faulty fault) = IsFaulty bytes fault
IsSeen bytes states.Undecided = Unit {0}
