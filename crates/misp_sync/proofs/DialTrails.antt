-- What an ask of a dial adds to the trail of a wire to its address.
use Rattle.std.proofs.Common.{◌≡◌, ℕ, List, [], ◌∷◌, ◌++◌, append-nil, Option, None, Some, Result, Ok, Err, IfOk, MatchResult, refl, sym, ap, subst, ◌∙◌, inl, inr}
use Rattle.std.proofs.lemmas.Grind.{flat_map-append}
use Rattle.std.proofs.lemmas.Slice.Eq.{bytes_eq-Decides}
use Rattle.misp_outside.specs.Wires.{Asked, GrowsByOne}
use Rattle.misp_outside.specs.declared.fault.WireFault.{WireFault}
use Rattle.misp_sync.specs.Dialled.{ask_trail, ask_trail_to, asks_trail, trail_to}
use Rattle.misp_dialogue.specs.Parties.{GrowsBy}
use Rattle.misp_sync.specs.Wire.{IsUnanswered}
use Rattle.misp_sync.proofs.Growing.{grows_none, grows_so}

-- an ask of these bytes
abbrev ask_of : List ℕ → List ℕ → Option (List ℕ) → Asked
ask_of address bytes reply = record { address = address; bytes = bytes; reply = reply }

module _ (address : List ℕ) where
  -- one that went there adds its bytes
  went_there : (ask : Asked) → ask.address ≡ address → ask_trail_to address ask ≡ ask_trail ask
  went_there ask here = rw ((bytes_eq-Decides ask.address address).1 here) refl

  -- the trail grows by what the ask adds
  grows_by_ask : (old new : Option (List Asked)) (ask : Asked) → ask.address ≡ address → GrowsByOne old new ask → GrowsBy (trail_to address old) (trail_to address new) (λ more. more ≡ ask_trail ask)
  grows_by_ask None new ask here grew = tt
  grows_by_ask (Some old) None ask here grew = absurd grew
  grows_by_ask (Some old) (Some new) ask here grew = (
    ask_trail ask,
    ap (asks_trail address) grew
        ∙ flat_map-append (ask_trail_to address) old (ask ∷ [])
        ∙ ap (λ trail. asks_trail address old ++ trail) (append-nil (ask_trail_to address ask) ∙ went_there ask here),
    refl,
  )

  -- what the dial reports of an ask, the wire reports
  pub told_by : {A : Type 0} (items : A → List ℕ) (bytes : List ℕ) (old new : Option (List Asked)) (result : Result A WireFault)
      → IfOk result (λ reply. GrowsByOne old new (record { address = address; bytes = bytes; reply = Some (items reply) }))
      → (result ≡ Err WireFault.Failed → GrowsByOne old new (record { address = address; bytes = bytes; reply = None }))
      → (result ≡ Err WireFault.NoMemory → new ≡ old)
      → GrowsBy (trail_to address old) (trail_to address new) (λ more. MatchResult result (λ reply. more ≡ bytes ∷ items reply ∷ []) (λ _. IsUnanswered bytes more))
  told_by items bytes old new (Ok reply) answered failed same = grows_by_ask old new (ask_of address bytes (Some (items reply))) refl answered
  told_by items bytes old new (Err WireFault.Failed) answered failed same =
      grows_so (trail_to address old) (trail_to address new) (λ more. more ≡ bytes ∷ []) (IsUnanswered bytes) (λ more is. inr is)
      (grows_by_ask old new (ask_of address bytes None) refl (failed refl))
  told_by items bytes old new (Err WireFault.NoMemory) answered failed same =
      subst (λ asks. GrowsBy (trail_to address old) (trail_to address asks) (IsUnanswered bytes)) (sym (same refl)) (grows_none (trail_to address old) (IsUnanswered bytes) (inl refl))
