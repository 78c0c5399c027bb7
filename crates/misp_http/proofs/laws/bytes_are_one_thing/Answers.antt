use Rattle.misp_http.proofs.Readings.{one_reading, one_left}
use Rattle.misp_http.proofs.laws.bytes_are_one_thing.Goals as goal

pub returns-clause-read : goal.returns-clause-read
returns-clause-read c = one_reading

pub returns-clause-left : goal.returns-clause-left
returns-clause-left c = one_left
