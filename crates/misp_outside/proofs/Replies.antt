-- A reply that is read to its end.
use Rattle.std.proofs.Common.{◌≡◌, ℕ, ◌<◌, List, [], ◌++◌, length, take, Option, None, Some, IfSome, option_map, ap, ◌∙◌, arith}
use Rattle.std.proofs.lemmas.List.{length-take, take_all}

-- where fewer bytes came than were asked for, all came
pub all_came : (left : Option (List ℕ)) (asked most : ℕ) (start reply : List ℕ) → IfSome (option_map (take asked) left) (λ came. reply ≡ start ++ came) → asked ≡ most → start ≡ [] → length reply < most → IfSome left (λ left. reply ≡ left)
all_came None asked most start reply read is none fewer = tt
all_came (Some left) asked most start reply read is none fewer =
    let came : reply ≡ take asked left = read ∙ ap (λ front. front ++ take asked left) none in
    let short : length left < asked = omega (arith, is, fewer, ap length came, length-take asked left) in
    came ∙ take_all asked left (omega (arith, short))
