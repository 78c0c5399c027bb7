-- The definitions and types that many files name, passed on from one place. Declares nothing.
pub use Rattle.std.specs.Map.{lookup}
pub use Rattle.misp_ids.specs.Moments.{Stamp}
pub use Rattle.misp_ids.specs.Refusal.{bare}
unfoldable pub use Rattle.misp_ids.specs.Same.{same_group, same_org}
pub use Rattle.misp_ids.specs.declared.refusal.RuleName.{RuleName}
pub use Rattle.misp_ids.specs.declared.uid.GroupId.{GroupId}
pub use Rattle.misp_ids.specs.declared.uid.OrgId.{OrgId}
pub use Rattle.misp_ids.specs.declared.uid.Uid.{Uid}
unfoldable pub use Rattle.misp_lists.specs.Prelude.{IsStrictlySortedBy}
pub use Rattle.misp_lists.specs.Prelude.{AllByRecursion, list_any}
unfoldable pub use Rattle.misp_groups.specs.Audience.{is_known_group, known_group}
unfoldable pub use Rattle.misp_groups.specs.Changes.{group_now, put_group}
pub use Rattle.misp_groups.specs.Groups.{IsGapFor, IsPlaceOf, by_id, by_name, why_not}
pub use Rattle.misp_groups.specs.declared.group.GroupFields.{GroupFields as Group}
