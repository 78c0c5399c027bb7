-- The definitions and types that many files name, passed on from one place. Declares nothing.
pub use Rattle.misp_groups.specs.Prelude.{RuleName}
pub use Rattle.misp_orgs.specs.Admin.{AdminFields as Admin}
pub use Rattle.misp_outside.specs.declared.fault.KeeperFault.{KeeperFault}
pub use Rattle.misp_elem.specs.Row.{AreRows}
pub use Rattle.misp_effects.specs.Batches.{Batch}
pub use Rattle.misp_effects.specs.Prelude.{Effect, Held}
pub use Rattle.misp_effects.specs.declared.stop.Side.TheVariants.{Here}
pub use Rattle.misp_effects.specs.declared.stop.Stop.{Stop}
pub use Rattle.misp_format.specs.Prelude.{IsGroup, Refusal}
pub use Rattle.misp_model.specs.Prelude.{AllByRecursion, Group, Row}
pub use Rattle.misp_store.specs.Batches.{spelled}
pub use Rattle.misp_store.specs.Reach.{reach_of}
unfoldable pub use Rattle.misp_store.specs.Sharing.{groups_in}
