use Rattle.std.proofs.Common.{ap, ◌∙◌}
use Rattle.misp_elem.specs.KeyReading.{key_at}
use Rattle.misp_elem.proofs.reading.Reader.later_key.Goals as goal

pub key_from-next-requires : goal.key_from-next-requires
key_from-next-requires c = (c.key.new.self, ap key_at c.self.view_is ∙ c.in_ok-key.ensures)
