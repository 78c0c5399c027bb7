-- No two instances of a description have one name.
use Rattle.std.proofs.Common.{◌≡◌, ℕ, ◌<◌, List, [], true, map, length, sym, ◌∙◌, subst, inl, inr, arith, bytes_eq}
use Rattle.std.proofs.lemmas.Bool.{cases_order}
use Rattle.std.proofs.lemmas.List.{get_or-map}
use Rattle.std.proofs.lemmas.Map.Made.{AllPairs-from_IsDistinct}
use Rattle.misp_script.specs.Names.{IsNet}
use Rattle.misp_model.proofs.Prelude.{IsDistinct, bytes_eq-Decides, length-map, map-map, same_inst}
use Rattle.misp_net.specs.Prelude.{AreDistinct, Description, Host, described_host, described_hosts, host_at}
use Rattle.misp_net.specs.Hosts.{nobody}

abbrev name_in : Host → List ℕ
name_in host = host.name

module _ (hosts : List Host) (names : IsDistinct bytes_eq (map name_in hosts)) where
  -- one of them is not named as one before it
  later : (p q : ℕ) → p < q → q < length hosts → same_inst (host_at p hosts).name (host_at q hosts).name ≡ true → ⊥
  unfolding same_inst
  later p q before inside same =
      let long : q < length (map name_in hosts) = omega (arith, inside, length-map hosts name_in) in
      AllPairs-from_IsDistinct bytes_eq-Decides (map name_in hosts) names p q [] before long
      (get_or-map name_in hosts p nobody [] (omega (arith, before, inside))
      ∙ (bytes_eq-Decides (host_at p hosts).name (host_at q hosts).name).0 same
      ∙ sym (get_or-map name_in hosts q nobody [] inside))

  are_distinct : AreDistinct hosts
  unfolding same_inst
  are_distinct p q p_in q_in same = elim (cases_order p q) [
    | inl is ↦ is
    | inr (inl before) ↦ absurd (later p q before q_in same)
    | inr (inr after) ↦ absurd (later q p after p_in ((bytes_eq-Decides (host_at q hosts).name (host_at p hosts).name).1
        (sym ((bytes_eq-Decides (host_at p hosts).name (host_at q hosts).name).0 same))))
  ]

pub net_is_distinct : (net : Description) → IsNet net → AreDistinct (described_hosts net)
net_is_distinct net is = are_distinct (described_hosts net) (subst (IsDistinct bytes_eq) (sym (map-map name_in described_host net.instances)) is.names)
