-- The law is a lemma of proofs/Alike.antt.
use Rattle.misp_core.proofs.Alike.{asked_as}
use Rattle.misp_core.proofs.laws.a_request_is_replied_without_its_number.Goals as goal

pub returns : goal.returns
returns c = record { same = λ n admin s ask. asked_as n s admin ask }
