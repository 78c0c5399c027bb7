use Rattle.std.proofs.Common.{◌≡◌, ◌<◌, ◌^◌, take}
use Rattle.std.specs.Str.Parse.{digits_value}
use Rattle.misp_script.proofs.numbers.hex_value.Given as goal

abbrev pub invariant-loop-byte : goal.invariant-loop-byte
invariant-loop-byte l = record {
  is : l.value ≡ digits_value 16 (take l.byte-index l.digits);
  bound : l.value < 16 ^ l.byte-index;
}
