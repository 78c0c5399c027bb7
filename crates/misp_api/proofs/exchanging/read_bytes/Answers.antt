use Rattle.std.proofs.Common.{◌∙◌}
use Rattle.misp_api.proofs.Exchanges.{read_whole}
use Rattle.misp_api.proofs.exchanging.read_bytes.Goals as goal

-- the bytes are there, and the source has none
pub returns-clause-read : goal.returns-clause-read
returns-clause-read c = (_, read_whole c.args.bytes.items _ c.read_request.result _ (c.new-source.ensures ∙ c.new.ensures.items) c.read_request.ensures.read)
