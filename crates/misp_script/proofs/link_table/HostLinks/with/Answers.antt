use Rattle.std.proofs.Common.{◌&&◌, ◌||◌, ◌∙◌, ap, sym, bytes_eq}
use Rattle.misp_script.specs.Tables.{has_link}
use Rattle.misp_script.proofs.Lookups.{any_last}
use Rattle.misp_script.proofs.link_table.HostLinks.with.Goals as goal

pub invariant_of-result : goal.invariant_of-result
invariant_of-result c = λ at name.
    c.in_ok-put_pair.ensures.more at name
    ∙ ap (λ t. t || (bytes_eq c.text-2.result.now name && bytes_eq c.text.result.now at)) (c.self.invariant at name)
    ∙ rw (c.text-2.ensures.spelling, c.text.ensures.spelling) (sym (any_last (λ k. bytes_eq k.link.name name && bytes_eq k.at at) c.self.inside.list.items c.args.next))
    ∙ ap (λ items. has_link items at name) (sym c.in_ok-push.ensures.items)
