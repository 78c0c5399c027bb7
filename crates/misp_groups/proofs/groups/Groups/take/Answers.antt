use Rattle.std.proofs.Common.{◌∙◌, ap, sym, subst}
use Rattle.misp_groups.specs.Prelude.{IsGapFor, IsPlaceOf, IsStrictlySortedBy, by_name, put_group}
use Rattle.misp_groups.proofs.Places.{place_as, gap_as}
use Rattle.misp_groups.proofs.Taking.{held_stays, held_told, newer_put, newer_told, new_put, new_told}
use Rattle.misp_groups.proofs.groups.Groups.take.Goals as goal

pub returns-then-not-is_older-clause-ok : goal.returns-then-not-is_older-clause-ok
returns-then-not-is_older-clause-ok c =
    let is = c.as_slice-groups.ensures.value ∙ c.self.view_is in
    let up : IsStrictlySortedBy by_name c.args.self.now = subst (IsStrictlySortedBy by_name) c.self.view_is c.self.invariant in
    let place : IsPlaceOf c.args.self.now c.args.group.id c.in-Ok.place = place_as is (ap (λ g. g.id) c.group.view_is) c.in-Ok.ensures.found in
    held_stays c.args.self.now c.args.group up c.in-Ok.place c.index-groups-place.result place (rw is at c.index-groups-place.is) (sym c.is_older.ensures ∙ c.if-not-is_older.true)

pub returns-then-not-is_older-clause-taken : goal.returns-then-not-is_older-clause-taken
returns-then-not-is_older-clause-taken c =
    let is = c.as_slice-groups.ensures.value ∙ c.self.view_is in
    let up : IsStrictlySortedBy by_name c.args.self.now = subst (IsStrictlySortedBy by_name) c.self.view_is c.self.invariant in
    let place : IsPlaceOf c.args.self.now c.args.group.id c.in-Ok.place = place_as is (ap (λ g. g.id) c.group.view_is) c.in-Ok.ensures.found in
    held_told c.args.self.now c.args.group up c.in-Ok.place c.index-groups-place.result place (rw is at c.index-groups-place.is) (sym c.is_older.ensures ∙ c.if-not-is_older.true)

pub returns-else-not-is_older-clause-ok : goal.returns-else-not-is_older-clause-ok
returns-else-not-is_older-clause-ok c =
    let is = c.as_slice-groups.ensures.value ∙ c.self.view_is in
    let up : IsStrictlySortedBy by_name c.args.self.now = subst (IsStrictlySortedBy by_name) c.self.view_is c.self.invariant in
    let place : IsPlaceOf c.args.self.now c.args.group.id c.in-Ok.place = place_as is (ap (λ g. g.id) c.group.view_is) c.in-Ok.ensures.found in
    newer_put c.args.self.now c.args.group up c.in-Ok.place c.index-groups-place.result c.put_at.new.self place (rw is at c.index-groups-place.is)
    (sym c.is_older.ensures ∙ c.if-not-is_older.false) (c.put_at.ensures.put ∙ ap (λ g. put_group g c.args.self.now) c.carried.ensures)

pub returns-else-not-is_older-clause-taken : goal.returns-else-not-is_older-clause-taken
returns-else-not-is_older-clause-taken c =
    let is = c.as_slice-groups.ensures.value ∙ c.self.view_is in
    let up : IsStrictlySortedBy by_name c.args.self.now = subst (IsStrictlySortedBy by_name) c.self.view_is c.self.invariant in
    let place : IsPlaceOf c.args.self.now c.args.group.id c.in-Ok.place = place_as is (ap (λ g. g.id) c.group.view_is) c.in-Ok.ensures.found in
    newer_told c.args.self.now c.args.group up c.in-Ok.place c.index-groups-place.result place (rw is at c.index-groups-place.is) (sym c.is_older.ensures ∙ c.if-not-is_older.false)

pub returns-in_ok-put_into-in-Err-clause-ok : goal.returns-in_ok-put_into-in-Err-clause-ok
returns-in_ok-put_into-in-Err-clause-ok c =
    let is = c.as_slice-groups.ensures.value ∙ c.self.view_is in
    let up : IsStrictlySortedBy by_name c.args.self.now = subst (IsStrictlySortedBy by_name) c.self.view_is c.self.invariant in
    let gap : IsGapFor c.args.self.now c.args.group.id c.in-Err.gap = gap_as is (ap (λ g. g.id) c.group.view_is) c.in-Err.ensures.absent in
    new_put c.args.self.now c.args.group up c.in-Err.gap c.put_into.new.self gap (c.in_ok-put_into-in-Err.ensures.ok ∙ ap (λ g. put_group g c.args.self.now) c.carried-in-Err.ensures)

pub returns-in_ok-put_into-in-Err-clause-taken : goal.returns-in_ok-put_into-in-Err-clause-taken
returns-in_ok-put_into-in-Err-clause-taken c =
    let is = c.as_slice-groups.ensures.value ∙ c.self.view_is in
    let up : IsStrictlySortedBy by_name c.args.self.now = subst (IsStrictlySortedBy by_name) c.self.view_is c.self.invariant in
    let gap : IsGapFor c.args.self.now c.args.group.id c.in-Err.gap = gap_as is (ap (λ g. g.id) c.group.view_is) c.in-Err.ensures.absent in
    new_told c.args.self.now c.args.group up c.in-Err.gap gap
