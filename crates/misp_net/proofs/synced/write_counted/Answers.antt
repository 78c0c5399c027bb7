use Rattle.serde_json.proofs.Texts.{print-outline}
use Rattle.misp_net.specs.SyncText.{counted_data}
use Rattle.misp_net.proofs.synced.write_counted.Goals as goal

pub returns : goal.returns
unfolding counted_data
returns c =
    rw (
      c.into_inner.ensures.items,
      c.in_ok-end_object.ensures.room.0,
      c.in_ok-end_object.ensures.ok,
      c.in_ok-put_count-4.ensures.before,
      c.in_ok-put_count-4.ensures.tokens,
      c.in_ok-put_count-3.ensures.before,
      c.in_ok-put_count-3.ensures.tokens,
      c.in_ok-put_count-2.ensures.before,
      c.in_ok-put_count-2.ensures.tokens,
      c.in_ok-put_count.ensures.before,
      c.in_ok-put_count.ensures.tokens,
      c.in_ok-begin_object.ensures.room.0,
      c.in_ok-begin_object.ensures.ok,
      c.new-out.ensures.before,
      c.new-out.ensures.tokens,
      c.new.ensures.items,
    )
    (print-outline (counted_data c.args.count.now))
