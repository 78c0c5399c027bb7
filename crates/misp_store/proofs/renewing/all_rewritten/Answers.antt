use Rattle.std.proofs.Common.{rules, sym, ◌∙◌, arith}
use Rattle.misp_store.proofs.Renewed.{none_anew, reads_first}
use Rattle.misp_store.proofs.Rewriting.{anew_all, anew_next, bad_here, read_all, reads_more}
use Rattle.misp_store.proofs.renewing.all_rewritten.Goals as goal

pub loop-raw-init : goal.loop-raw-init
loop-raw-init c = record { anew = c.new-anew.ensures.items ∙ sym none_anew; reads = reads_first c.args.raws.now }

pub loop-raw-preserved : goal.loop-raw-preserved
loop-raw-preserved c = record {
  anew = anew_next c.args.raws.now c.loop-raw.raw-index c.raw-item.result c.loop-raw-test.true c.raw-item.is _ _ c.loop-raw.invariant.anew c.in_ok-add_rewritten.ensures.ok;
  reads = reads_more c.args.raws.now c.loop-raw.raw-index c.raw-item.result c.loop-raw-test.true c.raw-item.is c.in_ok-add_rewritten.ensures.read c.loop-raw.invariant.reads;
}

pub returns-in_err-add_rewritten-clause-bad : goal.returns-in_err-add_rewritten-clause-bad
returns-in_err-add_rewritten-clause-bad c =
    let bad = bad_here c.args.raws.now c.loop-raw.raw-index c.raw-item.result c.loop-raw-test.true c.raw-item.is _ c.in_err-add_rewritten.ensures.bad c.loop-raw.invariant.reads in
    search (rules, bad)

pub returns-clause-ok : goal.returns-clause-ok
returns-clause-ok c = anew_all c.args.raws.now c.loop-raw.raw-index (omega (arith, c.loop-raw-test.false)) _ c.loop-raw.invariant.anew

pub returns-clause-read : goal.returns-clause-read
returns-clause-read c = (read_all c.args.raws.now c.loop-raw.raw-index (omega (arith, c.loop-raw-test.false)) c.loop-raw.invariant.reads).0

pub returns-clause-same : goal.returns-clause-same
returns-clause-same c = (read_all c.args.raws.now c.loop-raw.raw-index (omega (arith, c.loop-raw-test.false)) c.loop-raw.invariant.reads).1
