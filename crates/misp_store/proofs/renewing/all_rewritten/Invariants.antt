use Rattle.std.proofs.Common.{◌≡◌, take, drop}
use Rattle.misp_store.specs.Renewing.{put_anew}
use Rattle.misp_store.proofs.Renewed.{Reads}
use Rattle.misp_store.proofs.renewing.all_rewritten.Given as goal

-- the first are put anew, and what is read of the others is read of all
abbrev pub invariant-loop-raw : goal.invariant-loop-raw
invariant-loop-raw l = record {
  anew : l.anew.items ≡ put_anew (take l.raw-index l.raws);
  reads : Reads l.raws (drop l.raw-index l.raws);
}
