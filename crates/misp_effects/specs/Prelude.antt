-- The definitions and types that many files name, passed on from one place. Declares nothing.
unfoldable pub use Rattle.misp_groups.specs.Groups.{put_groups}
unfoldable pub use Rattle.misp_groups.specs.Prelude.{put_group}
pub use Rattle.misp_groups.specs.declared.group.GroupFields.{GroupFields as Group}
pub use Rattle.misp_outside.specs.Causes.{RoseBy}
unfoldable pub use Rattle.misp_outside.specs.Held.{put_admins, with_batch}
pub use Rattle.misp_outside.specs.Held.{Held}
pub use Rattle.misp_outside.specs.KeeperState.{KeeperState}
pub use Rattle.misp_outside.specs.declared.row.AdminRow.{AdminRow}
pub use Rattle.misp_outside.specs.declared.row.RawRow.{RawRow}
unfoldable pub use Rattle.misp_elem.specs.Spelling.{uid}
pub use Rattle.misp_elem.specs.declared.row.RowFields.{RowFields as Row}
pub use Rattle.misp_effects.specs.Batches.{Spelling}
pub use Rattle.misp_effects.specs.Effect.{Effect, nothing_of}
pub use Rattle.misp_effects.specs.KeeperStates.{Tables, Tell}
pub use Rattle.misp_effects.specs.Meanings.{Meaning}
pub use Rattle.misp_effects.specs.declared.stop.Side.TheVariants.{Here, There}
pub use Rattle.misp_effects.specs.declared.stop.Stop.{Stop}
