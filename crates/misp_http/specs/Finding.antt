-- How the parts of the reader go together: the head that is found, and the body after it.
use Rattle.std.specs.Prelude.{◌≡◌, ◌+◌, ◌++◌, ℕ, List, [], slice_range, Option, Result, Ok, Err}
use Rattle.misp_http.specs.Parsing.{BeginsAs}
use Rattle.misp_http.specs.Reading.{looked_at, Refuses, IsUndecided, EndsInHead, EndsInBody, IsRequest}
use Rattle.misp_http.specs.declared.fault.Fault.{Fault}
use Rattle.misp_http.specs.declared.head.Head.{Head}
use Rattle.misp_http.specs.declared.parsing.HeadState.{HeadState}
use Rattle.misp_http.specs.declared.parsing.HeadState.TheVariants as states
use Rattle.misp_http.specs.declared.request.Request.{Request}
use Rattle.misp_http.specs.declared.request.ReadEnd.{ReadEnd}
use Rattle.misp_http.specs.declared.request.ReadEnd.TheVariants as ends

-- ---- the head

-- the head that bytes begin with, or what is wrong
abbrev pub Found : Type 0
Found = Result (Result Head Fault) ReadEnd

abbrev pub Finds : List ℕ → Found → Type 0
Finds bytes (Ok (Ok head)) = BeginsAs (looked_at bytes) head
Finds bytes (Ok (Err fault)) = Refuses bytes fault
Finds bytes (Err ends.Ended) = bytes ≡ []
Finds bytes (Err ends.Cut) = EndsInHead bytes
Finds bytes (Err ends.ReadFault) = Unit {0}
Finds bytes (Err ends.NoMemory) = Unit {0}

-- what is found, whatever bytes follow, unless it is undecided
abbrev pub FindsSoFar : List ℕ → HeadState → Type 0
FindsSoFar bytes (states.Whole head) = (more : List ℕ) → Finds (bytes ++ more) (Ok (Ok head))
FindsSoFar bytes (states.Faulty fault) = (more : List ℕ) → Finds (bytes ++ more) (Ok (Err fault))
FindsSoFar bytes states.Undecided = IsUndecided bytes

-- the bytes that were read begin with the head that was found
abbrev pub HasFound : List ℕ → Found → Type 0
HasFound bytes (Ok (Ok head)) = BeginsAs (looked_at bytes) head
HasFound bytes (Ok (Err fault)) = Unit {0}
HasFound bytes (Err end) = Unit {0}

-- the source failed, or memory ran out
abbrev pub IsFailure : ReadEnd → Type 0
IsFailure ends.Ended = ⊥
IsFailure ends.Cut = ⊥
IsFailure ends.ReadFault = Unit {0}
IsFailure ends.NoMemory = Unit {0}

-- ---- the body

-- what ends the reading of a body: its bytes were cut, or a failure
abbrev pub IsBodyEnd : ReadEnd → Type 0
IsBodyEnd ends.Ended = ⊥
IsBodyEnd ends.Cut = Unit {0}
IsBodyEnd ends.ReadFault = Unit {0}
IsBodyEnd ends.NoMemory = Unit {0}

-- the request of a head that is known, and of the body after it
abbrev pub IsTaken : List ℕ → Head → Request → Type 0
IsTaken bytes head request = request ≡ record {
  method = head.method;
  target = head.target;
  key = head.key;
  body = slice_range bytes head.size (head.size + head.body_size);
  close = head.close;
}

-- what the bytes are as a request whose head is known
abbrev pub IsRequestRead : List ℕ → Result Request ReadEnd → Option (List ℕ) → Type 0
IsRequestRead bytes (Ok request) rest = IsRequest bytes request rest
IsRequestRead bytes (Err ends.Ended) rest = ⊥
IsRequestRead bytes (Err ends.Cut) rest = EndsInBody bytes
IsRequestRead bytes (Err ends.ReadFault) rest = Unit {0}
IsRequestRead bytes (Err ends.NoMemory) rest = Unit {0}
