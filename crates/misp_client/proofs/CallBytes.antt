-- The bytes of a call: they are read as its request, or refused for a body that is too long.
use Rattle.std.proofs.Common.{◌≡◌, ◌^◌, ◌<◌, ◌≤◌, ℕ, Bool, true, false, List, length, refl, arith, Some, Ok, [], if◌then◌else◌}
use Rattle.std.specs.Prelude.{nat_le}
use Rattle.std.specs.List.{list_all}
use Rattle.std.proofs.lemmas.Bool.Decides.{nat_tests}
use Rattle.httparse.specs.Grammar.{IsToken}
use Rattle.misp_http.specs.Limits.{body_limit}
use Rattle.misp_http.specs.Reading.{IsRead}
use Rattle.misp_http.specs.declared.fault.Fault.TheVariants.{BadHead}
use Rattle.misp_http.specs.declared.fault.HeadFault.TheVariants.{LongBody}
use Rattle.misp_http.specs.declared.request.Read.TheVariants as reads
use Rattle.misp_client.specs.Calling.{IsCallable, is_short}
use Rattle.misp_client.specs.Calls.{body_of, call_text, method_of, target_of}
use Rattle.misp_client.specs.Requests.{read_of_call, request_of}
use Rattle.misp_client.specs.declared.call.Call.{Call}
use Rattle.misp_client.proofs.RequestBytes.{IsSendable, asking_back, asking_long, get_is, is_path_byte, post_is}

-- ---- how long its body is

short_is : (n : ℕ) → nat_le n body_limit ≡ true → n ≤ body_limit
short_is n short = grind (arith, nat_tests)

long_is : (n : ℕ) → nat_le n body_limit ≡ false → body_limit < n
long_is n long = grind (arith, nat_tests)

-- ---- its method and its target

method_is : (call : Call) → IsToken (method_of call)
method_is Call.Groups = get_is
method_is Call.Manifest = get_is
method_is (Call.Rows w) = post_is
method_is (Call.TakeGroups groups) = post_is
method_is (Call.TakePart p) = post_is

method_short : (call : Call) → length (method_of call) ≤ 4
method_short Call.Groups = omega arith
method_short Call.Manifest = omega arith
method_short (Call.Rows w) = omega arith
method_short (Call.TakeGroups groups) = omega arith
method_short (Call.TakePart p) = omega arith

target_some : (call : Call) → 0 < length (target_of call)
target_some Call.Groups = omega arith
target_some Call.Manifest = omega arith
target_some (Call.Rows w) = omega arith
target_some (Call.TakeGroups groups) = omega arith
target_some (Call.TakePart p) = omega arith

target_short : (call : Call) → length (target_of call) ≤ 64
target_short Call.Groups = omega arith
target_short Call.Manifest = omega arith
target_short (Call.Rows w) = omega arith
target_short (Call.TakeGroups groups) = omega arith
target_short (Call.TakePart p) = omega arith

target_path : (call : Call) → list_all is_path_byte (target_of call) ≡ true
target_path Call.Groups = refl
target_path Call.Manifest = refl
target_path (Call.Rows w) = refl
target_path (Call.TakeGroups groups) = refl
target_path (Call.TakePart p) = refl

-- ---- THE LAW

module _ (key : List ℕ) (call : Call) (is : IsCallable key call) (small : length (body_of call) < 2 ^ 63) where
  sendable : IsSendable (method_of call) (target_of call) key (body_of call)
  sendable = record {
    method_is = method_is call;
    method_short = method_short call;
    target_some = target_some call;
    target_short = target_short call;
    target_path = target_path call;
    key_is = is.key_is;
    body_small = small;
  }

  read_by : (short : Bool) → is_short (body_of call) ≡ short → IsRead (call_text key call) (Ok (if short then reads.Request (request_of key call) else reads.Refused (BadHead LongBody))) (Some [])
  read_by true length_is = asking_back (method_of call) (target_of call) key (body_of call) sendable (short_is (length (body_of call)) length_is)
  read_by false length_is = asking_long (method_of call) (target_of call) key (body_of call) sendable (long_is (length (body_of call)) length_is)

  pub call_back : IsRead (call_text key call) (Ok (read_of_call key call)) (Some [])
  call_back = read_by (is_short (body_of call)) refl
