-- The servers of a group, which ascend by the bytes of their names.
use Rattle.std.proofs.Common.{◌≡◌, ℕ, false, ◌&&◌, List, length, get_or, find, Some, None, Result, nat_cmp, MatchResult}
use Rattle.std.specs.List.Sorted.{IsSearchInRange, IsBinarySearchResult}
use Rattle.misp_lists.proofs.Prelude.{IsStrictlySortedBy, list_any, nat_list_cmp_total, option_map_or, searched, slice_cmp}
use Rattle.misp_lists.proofs.Searching.{any_of_one}
use Rattle.misp_ids.specs.Same.{Inst, same_inst}
use Rattle.misp_groups.specs.declared.group.GroupServer.{GroupServer}
use Rattle.misp_groups.specs.Group.{by_server}
use Rattle.misp_groups.proofs.Ids.{same_by_bytes}

module _ (servers : List GroupServer) (up : IsStrictlySortedBy by_server servers) (name : Inst) where
  -- a search by a name ends at the first server of the name, and else there is none
  pub server_searched : (r : Result ℕ ℕ) → IsSearchInRange r (length servers) → IsBinarySearchResult (λ s. slice_cmp nat_cmp s.name name) servers r
      → MatchResult r (λ i. (d : GroupServer) → find (λ s. same_inst s.name name) servers ≡ Some (get_or servers i d)) (λ i. find (λ s. same_inst s.name name) servers ≡ None)
  server_searched r = searched (λ (s : GroupServer). s.name) (slice_cmp nat_cmp) nat_list_cmp_total name (λ s. same_inst s.name name) (λ s. same_by_bytes s.name name) servers r up

  -- the server of the name has all organisations
  pub all_orgs_of_one : list_any (λ s. same_inst s.name name && s.all_orgs) servers ≡ option_map_or (λ s. s.all_orgs) (find (λ s. same_inst s.name name) servers) false
  all_orgs_of_one = any_of_one (λ (s : GroupServer). s.name) (slice_cmp nat_cmp) nat_list_cmp_total name (λ s. same_inst s.name name) (λ s. same_by_bytes s.name name) (λ s. s.all_orgs) servers up
