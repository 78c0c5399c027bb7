use Rattle.std.proofs.Common.{sym, option_copied}
use Rattle.misp_ids.specs.declared.label.Label.{Label}
use Rattle.misp_copies.specs.Barring.{rule_of}
use Rattle.misp_edit.proofs.LateRules.{late_group, late_nothing, late_older, late_limit, late_free}
use Rattle.misp_edit.proofs.barring.late_fault.Goals as goal

pub returns-in-Some-clause-rule : goal.returns-in-Some-clause-rule
unfolding rule_of
returns-in-Some-clause-rule c = late_group c.args.who.now.groups.now c.args.who.now.here c.args.who.now.org c.args.label c.args.stamp (option_copied c.args.own) (Label.Group c.in-Some.group) c.in-Some.ensures

pub returns-in-None-clause-rule : goal.returns-in-None-clause-rule
returns-in-None-clause-rule c =
    rw c.in-None.is (late_nothing c.args.who.now.groups.now c.args.who.now.here c.args.who.now.org c.args.label c.args.stamp c.in_default.ensures)

pub returns-then-is_newer_than-clause-rule : goal.returns-then-is_newer_than-clause-rule
unfolding rule_of
returns-then-is_newer_than-clause-rule c =
    rw c.in-Some-own.is (late_older c.args.who.now.groups.now c.args.who.now.here c.args.who.now.org c.args.label c.args.stamp c.in-Some-own.row.now c.in_default.ensures (sym c.if-is_newer_than.ensures))

pub returns-then-has_last_stamp-clause-rule : goal.returns-then-has_last_stamp-clause-rule
unfolding rule_of
returns-then-has_last_stamp-clause-rule c =
    rw c.in-Some-own.is (late_limit c.args.who.now.groups.now c.args.who.now.here c.args.who.now.org c.args.label c.args.stamp c.in-Some-own.row.now c.in_default.ensures (sym c.if-is_newer_than.ensures) (sym c.if-has_last_stamp.ensures))

pub returns-clause-rule : goal.returns-clause-rule
returns-clause-rule c =
    rw c.in-Some-own.is (late_free c.args.who.now.groups.now c.args.who.now.here c.args.who.now.org c.args.label c.args.stamp c.in-Some-own.row.now c.in_default.ensures (sym c.if-is_newer_than.ensures) (sym c.if-has_last_stamp.ensures))
