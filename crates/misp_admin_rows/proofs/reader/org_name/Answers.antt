use Rattle.misp_elem.proofs.Texts.{is_text-false}
use Rattle.misp_admin_rows.proofs.Texts.{name_is, name_isnt}
use Rattle.misp_admin_rows.proofs.reader.org_name.Goals as goal
use Rattle.misp_admin_rows.proofs.reader.org_name.Goals.{in_default-via-in-Ok+else-is_short, in_default-via-in_default}

pub returns-in-Ok : goal.returns-in-Ok
returns-in-Ok c = name_is _ c.args.bytes.now _ c.in-Ok.ensures.cases.0 c.in-Ok.ensures.cases.1 c.is_short.ensures.short c.if-is_short.true

pub returns-in_default : goal.returns-in_default
returns-in_default c = elim c.in_default.branch [
  | in_default-via-in-Ok+else-is_short w ↦ name_isnt _ c.args.bytes.now _ w.in-Ok.ensures.cases.0 w.is_short.ensures.short w.if-is_short.false
  | in_default-via-in_default w ↦ is_text-false 0 _ c.args.bytes.now w.in_default.ensures.cases.0
]
