-- The definitions and types that many files name, passed on from one place. Declares nothing.
unfoldable pub use Rattle.misp_outside.specs.Held.{nothing_held}
unfoldable pub use Rattle.misp_script.specs.Network.{description_at}
unfoldable pub use Rattle.misp_script.specs.Step.{step_of}
pub use Rattle.misp_script.specs.Step.{GroupData, SyncData}
pub use Rattle.misp_script.specs.declared.description.Description.{Description}
pub use Rattle.misp_effects.specs.Effect.{Stopped}
pub use Rattle.misp_effects.specs.KeeperStates.{AreKept, held_at}
pub use Rattle.misp_effects.specs.Prelude.{Tables}
unfoldable pub use Rattle.misp_erasure.specs.Kept.{start}
unfoldable pub use Rattle.misp_core.specs.Prelude.{step}
pub use Rattle.misp_core.specs.Prelude.{KeeperState, Outcome, Seen, Tell, Went, World, host_of, spelled}
unfoldable pub use Rattle.misp_api.specs.Administering.{group_form}
pub use Rattle.misp_api.specs.Prelude.{Effect, Host, OrgId, Reply, Standing, Stop, grouped, seen_in}
pub use Rattle.misp_net.specs.History.{AreDistinct, told_output}
pub use Rattle.misp_net.specs.Hosts.{described_host, described_hosts, host_at}
pub use Rattle.misp_net.specs.Acts.{Act, AreAmong, AreDone, Done, acts_of, outputs_of}
pub use Rattle.misp_net.specs.Lines.{Line, lines_of}
pub use Rattle.misp_net.specs.Links.{links_of}
pub use Rattle.misp_net.specs.Meaning.{meaning, stop_in}
pub use Rattle.misp_net.specs.Promise.{HasRun, IsCut}
pub use Rattle.misp_net.specs.Run.{IsDone, Ran}
pub use Rattle.misp_net.specs.Running.{hosts_of, state_of, states_of}
pub use Rattle.misp_net.specs.declared.line.Output.{Output}
pub use Rattle.misp_net.specs.declared.line.Output.TheVariants.{Bad, Nothing, Replied, Synced, Unanswered}
