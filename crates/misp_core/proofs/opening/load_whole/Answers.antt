use Rattle.std.proofs.Common.{◌≡◌, rules}
use Rattle.misp_outside.proofs.Reporting.{reported_later, stays_then}
use Rattle.misp_store.specs.Renewing.{renewed}
use Rattle.misp_store.proofs.Opened.{group_bad, groups_renewed}
use Rattle.misp_core.proofs.OpenedWhole.{items_renewed, row_left_bad, whole_read}
use Rattle.misp_core.proofs.opening.load_whole.Goals as goal

pub returns-in-Ok-clause-ok : goal.returns-in-Ok-clause-ok
returns-in-Ok-clause-ok g c = groups_renewed _ _ c.in_ok-setup.setup.0 c.in-Ok.ensures.put c.in_ok-setup.ensures.groups

pub returns-in-Ok-clause-admin : goal.returns-in-Ok-clause-admin
returns-in-Ok-clause-admin g c = items_renewed _ _ c.args.admin c.in_ok-setup.setup.1 c.in-Ok.ensures.put c.in_ok-setup.ensures.admin

pub returns-in-Ok-clause-renewed : goal.returns-in-Ok-clause-renewed
returns-in-Ok-clause-renewed g c = reported_later _ _ _ (λ held now. now ≡ renewed held) c.in_ok-setup.ensures.held c.in-Ok.ensures.put

pub returns-in-Ok-clause-read : goal.returns-in-Ok-clause-read
returns-in-Ok-clause-read g c = whole_read _ _ _ c.in_ok-setup.setup.0 c.in_ok-setup.ensures.held c.in_ok-setup.ensures.groups c.in-Ok.ensures.read

pub returns-in-Err-clause-bad : goal.returns-in-Err-clause-bad
returns-in-Err-clause-bad g c = row_left_bad _ _ c.in_ok-setup.setup.0 c.in-Err.fault c.in-Err.ensures.err c.in_ok-setup.ensures.groups c.in-Err.ensures.bad

pub returns-in-Err-clause-err : goal.returns-in-Err-clause-err
returns-in-Err-clause-err g c = stays_then _ _ _ c.in_ok-setup.ensures.held c.in-Err.ensures.err

pub returns-in_err-setup-clause-bad : goal.returns-in_err-setup-clause-bad
returns-in_err-setup-clause-bad g c = let bad = group_bad _ _ c.in_err-setup.ensures.bad in search (rules, bad)
