-- The laws are lemmas of proofs/Numbers.antt and proofs/NumberedWrites.antt.
use Rattle.misp_model.proofs.Numbers.{accepted_as, rules_as}
use Rattle.misp_history.proofs.NumberedWrites.{answer_as, brings_as, fresh_as, scene_is}
use Rattle.misp_history.proofs.laws.a_request_is_decided_without_its_number.Goals as goal

pub returns : goal.returns
returns c = record { scene = scene_is; rules = rules_as; accepted = accepted_as; answer = answer_as; versions = brings_as; rows = fresh_as }
