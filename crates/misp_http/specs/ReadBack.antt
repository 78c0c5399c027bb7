-- Requests that are written: they are read back, or refused for a body that is too long.
use Rattle.std.specs.Prelude.{◌≡◌, ◌<◌, ◌≤◌, ◌+◌, ℕ, Bool, true, ◌&&◌, not, List, ◌++◌, length, Option, Some, IfSome, IsUtf8}
use Rattle.std.specs.List.{list_all}
use Rattle.std.specs.Str.{is_utf8}
use Rattle.httparse.specs.Grammar.{IsToken, AllPass, is_uri_byte, is_value_byte, is_ows}
use Rattle.misp_http.specs.Limits.{head_limit, body_limit}
use Rattle.misp_http.specs.Texts.{request_text}
use Rattle.misp_http.specs.Reading.{IsRequest, Refuses}
use Rattle.misp_http.specs.declared.fault.Fault.TheVariants.{BadHead}
use Rattle.misp_http.specs.declared.fault.HeadFault.TheVariants.{LongBody}

-- a byte of a value that is no white space
abbrev pub is_visible : ℕ → Bool
is_visible b = is_value_byte b && not (is_ows b)

-- a text of such bytes
abbrev pub IsVisible : List ℕ → Type 0
IsVisible key = (list_all is_visible key ≡ true) × (is_utf8 key ≡ true)

-- the parts have the forms that a head takes, and the head is short enough
pub record HasForms
    (method target : List ℕ) (key : Option (List ℕ)) (body : List ℕ) (close : Bool) : Type 0 where
  pub method_is : IsToken method
  pub target_is : (0 < length target) × AllPass is_uri_byte target
  pub target_text : IsUtf8 target
  pub key_is : IfSome key IsVisible
  pub short : length (request_text method target key body close) ≤ head_limit + length body

-- and so is the body
pub record IsWritable
    (method target : List ℕ) (key : Option (List ℕ)) (body : List ℕ) (close : Bool) : Type 0 where
  pub forms : HasForms method target key body close
  pub small : length body ≤ body_limit

-- whatever follows a request, it is read back
abbrev pub IsReadBack : List ℕ → List ℕ → Option (List ℕ) → List ℕ → Bool → Type 0
IsReadBack method target key body close =
    (rest : List ℕ)
    → IsRequest (request_text method target key body close ++ rest)
    (record { method = method; target = target; key = key; body = body; close = close })
    (Some rest)

-- whatever follows a request, its body is too long
abbrev pub IsTooLong : List ℕ → List ℕ → Option (List ℕ) → List ℕ → Bool → Type 0
IsTooLong method target key body close =
    (rest : List ℕ) → Refuses (request_text method target key body close ++ rest) (BadHead LongBody)
