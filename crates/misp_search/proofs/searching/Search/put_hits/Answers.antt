use Rattle.misp_search.proofs.Finding.{of_event}
use Rattle.misp_search.proofs.searching.Search.put_hits.Goals as goal

pub returns : goal.returns
returns c =
    of_event c.args.self.now c.args.event c.takes_tags-tagged.result c.takes_tags-tagged.ensures c.takes_event-wanted.result c.args.hits.now c.put_where.new.hits c.parts_of-attributes.result.0 c.parts_of-attributes.result.1
    c.takes_event-wanted.ensures c.parts_of-attributes.ensures.attributes c.parts_of-attributes.ensures.objects c.in_ok-put_where.ensures
