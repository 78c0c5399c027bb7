use Rattle.std.proofs.Common.{sym, ◌∙◌}
use Rattle.misp_sqlite.proofs.Tables.{schema_is}
use Rattle.misp_sqlite.proofs.schema.is_kept.Goals as goal

pub returns : goal.returns
returns c empty =
    schema_is c.args.schema.now (sym c.as_slice.ensures ∙ c.are_tables.ensures c.if-not-are_tables.false)
    (sym c.as_slice-2.ensures ∙ c.are_indexes.ensures c.if-not-are_indexes.false) (c.is_empty.ensures.0 empty)
