use Rattle.misp_elem.proofs.writing.tags.put_tags.Goals as goal

pub put_tag-requires : goal.put_tag-requires
put_tag-requires c = rw c.tag-item.is (c.requires.short c.loop-tag.tag-index _ c.loop-tag-test.true)
