-- The laws are lemmas of proofs/OneRow.antt and proofs/AsNew.antt.
use Rattle.misp_model.proofs.OneRow.{put_is_table, is_unmixed, part_is_table}
use Rattle.misp_history.proofs.AsNew.{tables_are_tables}
use Rattle.misp_history.proofs.table.tables_have_one_row_for_each_key.Goals as goal

pub returns : goal.returns
returns c = record { written = tables_are_tables; put = put_is_table; unmixed = is_unmixed; part = part_is_table }
