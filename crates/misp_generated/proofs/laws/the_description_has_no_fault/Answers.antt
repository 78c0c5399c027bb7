use Rattle.std.proofs.Common.{◌≡◌, true, is_ok, refl}
use Rattle.std.specs.Str.{chars, is_utf8}
use Rattle.toml.proofs.OnLiterals.{toml_on_literals}
use Rattle.uuid.proofs.OnLiterals.{uuid_on_literals}
use Rattle.misp_script.specs.Network.{description_at, network_at}
use Rattle.misp_script.specs.Tables.{org_at, host_at, internal_at, key_at, link_at, not_internal_at}
use Rattle.misp_generated.specs.Network.{description_text}
use Rattle.misp_generated.proofs.laws.the_description_has_no_fault.Goals as goal

-- by computation
no_fault : is_ok (description_at description_text) ≡ true
unfolding description_at network_at org_at host_at internal_at key_at link_at not_internal_at description_text chars is_utf8 toml_on_literals uuid_on_literals
no_fault = refl

pub returns : goal.returns
returns c = no_fault
