use Rattle.std.proofs.Common.{rules}
use Rattle.std.proofs.lemmas.Fn.{filter_same}
use Rattle.misp_store.specs.Seeking.{ends_among}
use Rattle.misp_store.proofs.Sought.{ending_added}
use Rattle.misp_store.proofs.uuids_sought.add_ending.Goals as goal

pub returns-clause-found : goal.returns-clause-found
returns-clause-found g c =
    ending_added _ c.args.event.now c.args.front.now c.args.numbers.now c.in_ok-rows.rows.items c.retain.new.self.items c.args.found.now.items c.append.new.self.items
    c.in_ok-rows.ensures.found (filter_same _ (ends_among c.args.numbers.now) _ (λ x r f k. search rules) _ _ c.retain.ensures.filtered) c.in_ok-append.ensures.items
