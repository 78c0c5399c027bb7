-- The names that many proofs cite, passed on from one place. Declares nothing.
pub use Rattle.std.proofs.lemmas.Bool.{and_from, and_parts, cases_Bool, false_from_ne_true, false≢true}
pub use Rattle.std.proofs.lemmas.Bool.Decides.{nat_tests}
pub use Rattle.std.proofs.lemmas.Cmp.{nat_cmp_total, nat_list_cmp_total, on_total}
pub use Rattle.std.proofs.lemmas.Fn.{always_returns_same}
pub use Rattle.std.proofs.lemmas.Grind.{common_steps}
pub use Rattle.std.proofs.lemmas.List.{length-map}
pub use Rattle.std.proofs.lemmas.List.Folds.{list_any_more}
pub use Rattle.std.proofs.lemmas.List.Sums.{sum_by-cons}
pub use Rattle.std.proofs.lemmas.Map.Text.{is_eq-slice_cmp}
pub use Rattle.std.proofs.lemmas.Result.{on_ok_weaker}
pub use Rattle.std.proofs.lemmas.Slice.Eq.{bytes_eq-Decides}
pub use Rattle.std.proofs.lemmas.Str.{IsUtf8-from_is_utf8, is_utf8-from_IsUtf8}
pub use Rattle.std.specs.BTreeMap.{insert_entry}
pub use Rattle.std.specs.Map.{keys_of, lookup}
unfoldable pub use Rattle.std.specs.Str.{is_utf8}
pub use Rattle.misp_lists.proofs.Bytes.{IsBytes}
pub use Rattle.misp_lists.proofs.Lists.{all_implies}
pub use Rattle.misp_lists.proofs.Ordering.{all_in_order}
pub use Rattle.misp_lists.proofs.Orders.{less_of, numbers_equal}
pub use Rattle.misp_lists.proofs.Readings.{bind_keeps, bind_ok, ok_keeps}
pub use Rattle.misp_lists.proofs.Searching.{searched}
unfoldable pub use Rattle.misp_lists.specs.Order.{ascend}
unfoldable pub use Rattle.misp_lists.specs.Prelude.{IsDistinct, IsStrictlySortedBy, put}
pub use Rattle.misp_lists.specs.Prelude.{AllByRecursion, IsTotalOrder, list_all, list_any, option_map_or, ordering_reverse, ordering_then, slice_cmp}
