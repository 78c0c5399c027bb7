use Rattle.std.proofs.Common.{◌≡◌, ◌&&◌, ◌||◌, ◌∙◌, ap, sym, bytes_eq}
use Rattle.misp_script.specs.Tables.{has_key}
use Rattle.misp_script.proofs.Lookups.{any_last}
use Rattle.misp_script.proofs.key_table.HostKeys.with.Goals as goal

pub invariant_of-result : goal.invariant_of-result
invariant_of-result c = λ at key.
    let text_is : c.text-2.result.now ≡ c.args.next.key.key = c.text-2.ensures.spelling ∙ ap (λ n. n.key.key) c.next.view_is in
    let at_is : c.text.result.now ≡ c.args.next.at = c.text.ensures.spelling ∙ ap (λ n. n.at) c.next.view_is in
    c.in_ok-put_pair.ensures.more at key
    ∙ ap (λ t. t || (bytes_eq c.text-2.result.now key && bytes_eq c.text.result.now at)) (c.self.invariant at key)
    ∙ rw (text_is, at_is) (sym (any_last (λ k. bytes_eq k.key.key key && bytes_eq k.at at) c.self.inside.list.items c.args.next))
    ∙ ap (λ items. has_key items at key) (sym c.in_ok-push.ensures.items)
