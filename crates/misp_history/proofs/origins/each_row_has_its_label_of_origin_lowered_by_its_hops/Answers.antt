-- The laws are lemmas of proofs/Descent.antt.
use Rattle.misp_history.proofs.Descent.{hop_lands, row_stands, version_stands}
use Rattle.misp_history.proofs.origins.each_row_has_its_label_of_origin_lowered_by_its_hops.Goals as goal

pub returns : goal.returns
returns c = record { rows = row_stands; versions = version_stands; hop = hop_lands }
