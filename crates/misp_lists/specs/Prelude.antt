-- The definitions and types that many files name, passed on from one place. Declares nothing.
pub use Rattle.std.specs.BTreeMap.{BTreeMap}
pub use Rattle.std.specs.BTreeSet.{contains}
pub use Rattle.std.specs.Cmp.{IsTotalOrder}
pub use Rattle.std.specs.Cmp.Lexicographic.{slice_cmp}
unfoldable pub use Rattle.std.specs.List.{IsDistinct}
pub use Rattle.std.specs.List.{AllByRecursion, list_all, list_any}
unfoldable pub use Rattle.std.specs.List.Sorted.{IsStrictlySortedBy}
pub use Rattle.std.specs.Option.{option_map_or}
pub use Rattle.std.specs.Ordering.{nat_cmp, ordering_reverse, ordering_then}
pub use Rattle.std.specs.declared.cmp.Ordering.{Ordering}
unfoldable pub use Rattle.misp_lists.specs.Order.{in_order, put}
