use Rattle.std.proofs.Common.{ap, ◌∙◌, map, subst, Bool}
use Rattle.misp_copies.specs.CopyView.{IsSeen}
use Rattle.misp_view.specs.declared.kinds.Kind.{Kind}
use Rattle.misp_view.specs.Form.{attribute_in}
use Rattle.misp_view.specs.Inside.{in_list}
use Rattle.misp_view.proofs.Grouping.{grouped_rises, objects_same}
use Rattle.misp_view.proofs.inside.inside_of.Goals as goal

pub returns : goal.returns
returns c = record {
  seen = c.in_ok-seen.seen;
  are_seen = subst (λ (b : Bool). IsSeen c.in_ok-seen.seen c.args.copy_view.now b c.args.rows.now) c.are_linked.ensures c.in_ok-seen.ensures;
  attributes = c.in_ok-attributes.ensures ∙ ap (map (attribute_in c.args.proposals.now c.args.sightings.now)) (ap (map (λ r. r.now)) c.as_slice.ensures.value ∙ c.in_ok-plain.ensures);
  objects = c.in_ok-objects.ensures
      (grouped_rises c.as_slice-3.result.now c.in_ok-inner.inner.items _ c.as_slice-3.ensures.value c.in_ok-inner.ensures)
      (grouped_rises c.as_slice-4.result.now c.in_ok-references.references.items _ c.as_slice-4.ensures.value c.in_ok-references.ensures)
      ∙ objects_same c.in_ok-list.list.items c.as_slice-2.result.now c.in_ok-inner.inner.items c.as_slice-3.result.now c.in_ok-references.references.items c.as_slice-4.result.now
      (in_list Kind.Object c.args.copy_view.now c.in_ok-seen.seen c.args.rows.now) (in_list Kind.Inner c.args.copy_view.now c.in_ok-seen.seen c.args.rows.now) (in_list Kind.Reference c.args.copy_view.now c.in_ok-seen.seen c.args.rows.now)
      c.args.proposals.now c.args.sightings.now
      c.as_slice-2.ensures.value c.as_slice-3.ensures.value c.as_slice-4.ensures.value c.in_ok-list.ensures c.in_ok-inner.ensures c.in_ok-references.ensures;
}
