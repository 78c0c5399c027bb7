use Rattle.misp_net.proofs.requesting.request_read.Goals as goal

-- the bytes are those of the line
pub returns-clause-read : goal.returns-clause-read
returns-clause-read c = rw c.in-Ok.ensures at c.read_bytes.ensures.read
