use Rattle.std.proofs.Common.{◌≡◌, ◌+◌, ◌≤◌, map, length, take, drop, vec_len, vec_capacity}
use Rattle.misp_store.specs.Sharing.{WereSound}
use Rattle.misp_net.specs.Opening.{opened_states}
use Rattle.misp_net.specs.Prelude.{AreKept, described_host, states_of}
use Rattle.misp_net.proofs.Openings.{AreOpenedAs}
use Rattle.misp_net.proofs.places.open_all.Given as goal

-- the first keepers have been taken, each into its instance
abbrev pub invariant-loop-entry : goal.invariant-loop-entry
invariant-loop-entry g l =
    let seen = map g.K.Keeper.state in
    record {
      hosts : AreOpenedAs (map described_host l.yielded) l.instances.items;
      opened : AreKept (opened_states (take (length l.yielded) (seen l.fn.keepers.items))) (states_of l.instances.items);
      rest : seen l.keepers.items ≡ drop (length l.yielded) (seen l.fn.keepers.items);
      sound : WereSound (take (length l.yielded) (seen l.fn.keepers.items)) (states_of l.instances.items);
      count : vec_len l.instances ≡ length l.yielded;
      room : vec_len l.fn.entries ≤ vec_capacity l.instances;
      others : vec_len l.instances + vec_len l.keepers ≡ vec_len l.fn.keepers;
      places : vec_len l.fn.keepers ≤ vec_capacity l.keepers;
    }
