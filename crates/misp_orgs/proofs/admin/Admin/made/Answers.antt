use Rattle.std.proofs.Common.{sym}
use Rattle.misp_lists.proofs.Prelude.{is_eq-slice_cmp, nat_cmp_total, nat_list_cmp_total, numbers_equal, on_total}
use Rattle.misp_lists.proofs.Sorting.{ascend_sorted}
use Rattle.misp_orgs.specs.Admin.{by_uuid, by_key, by_name, same_uuid, same_key, same_name}
use Rattle.misp_orgs.proofs.admin.Admin.made.Goals as goal

pub invariant_of-result : goal.invariant_of-result
invariant_of-result c = record {
  orgs = rw (c.of.ensures, c.in_ok-sort_orgs.ensures) (ascend_sorted by_uuid (on_total (λ o. o.uuid.0.0) nat_cmp_total) same_uuid (λ a b. sym (numbers_equal a.uuid.0.0 b.uuid.0.0)) c.args.orgs.items c.requires.distinct.uuids);
  keys = rw (c.of-2.ensures, c.in_ok-sort_keys.ensures) (ascend_sorted by_key (on_total (λ k. k.key) nat_list_cmp_total) same_key (λ a b. sym (is_eq-slice_cmp a.key b.key)) c.args.keys.items c.requires.distinct.texts);
  links = rw (c.of-3.ensures, c.in_ok-sort_links.ensures) (ascend_sorted by_name (on_total (λ l. l.name) nat_list_cmp_total) same_name (λ a b. sym (is_eq-slice_cmp a.name b.name)) c.args.links.items c.requires.distinct.names);
}
