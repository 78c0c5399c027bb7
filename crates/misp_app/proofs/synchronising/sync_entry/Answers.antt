use Rattle.std.proofs.Common.{take, ap, inl, inr, refl}
use Rattle.misp_app.proofs.Synchronised.{no_line}
use Rattle.misp_app.proofs.synchronising.sync_entry.Goals as goal

-- the instance did not open
pub returns-in-Err-clause-synced : goal.returns-in-Err-clause-synced
returns-in-Err-clause-synced g c = λ has. absurd (no_line c.in-Err.fault c.from.result c.from.ensures has)

pub returns-in-Err-clause-cut : goal.returns-in-Err-clause-cut
returns-in-Err-clause-cut g c = λ is. inl (c.in-Err.ensures.back, refl)

-- it was synchronised
pub returns-clause-synced : goal.returns-clause-synced
returns-clause-synced g c = λ has. record {
  reply = c.sync_over-reply.result;
  synced = record {
    start = c.in-Ok.instance;
    end = c.sync_over-reply.new.instance;
    host_is = c.in-Ok.ensures.host;
    opened = c.in-Ok.ensures.opened;
    closed = ap (take 1) c.close_first.ensures.keepers;
    sound = c.in-Ok.ensures.sound;
    syncs = c.sync_over-reply.ensures;
  };
  ends = c.tell_reply.ensures.status has;
  wrote = c.tell_reply.ensures.wrote has;
}

pub returns-clause-cut : goal.returns-clause-cut
returns-clause-cut g c = λ is. inr (
  c.sync_over-reply.result,
  record {
    start = c.in-Ok.instance;
    end = c.sync_over-reply.new.instance;
    host_is = c.in-Ok.ensures.host;
    opened = c.in-Ok.ensures.opened;
    closed = ap (take 1) c.close_first.ensures.keepers;
    sound = c.in-Ok.ensures.sound;
    syncs = c.sync_over-reply.ensures;
  },
)

pub returns-clause-later : goal.returns-clause-later
returns-clause-later g c = c.sync_over-reply.ensures.link.later
