use Rattle.std.proofs.Common.{◌≡◌, ap, ◌∙◌, not, arith}
use Rattle.std.specs.List.{insert, position_or_len}
use Rattle.std.proofs.lemmas.List.Sums.{prefix_len-le-length}
use Rattle.misp_lists.specs.Order.{is_less}
use Rattle.misp_model.specs.Prelude.{Tag, tagged, untagged}
use Rattle.misp_edit.proofs.TagPlaces.{put_at}
use Rattle.misp_edit.proofs.tags.tagged.Goals as goal

pub insert-requires : goal.insert-requires
insert-requires c = omega (arith, prefix_len-le-length (λ (other : Tag). not (is_less c.args.tag.now.name other.name)) c.as_slice.result.now, c.count_before-count.ensures, c.as_slice.ensures.len)

pub returns : goal.returns
unfolding tagged
returns c =
    let kept : c.as_slice.result.now ≡ untagged c.args.tag.now.name c.args.tags.now = c.as_slice.ensures.value ∙ c.in_ok-made.ensures in
    c.in_ok-insert.ensures.items
    ∙ (λ i. insert (c.in_ok-made.ensures i) ((c.count_before-count.ensures ∙ ap (position_or_len (λ (other : Tag). is_less c.args.tag.now.name other.name)) kept) i) (c.in_ok-copy_of.ensures i))
    ∙ put_at (λ (a b : Tag). is_less a.name b.name) c.args.tag.now (untagged c.args.tag.now.name c.args.tags.now)
