-- What the value of an attribute has to be, by the attribute's type.
use Rattle.std.specs.Prelude.{ℕ, ◌||◌, List, codes, if◌then◌else◌, bytes_eq}
use Rattle.misp_types.specs.declared.kinds.Form.{Form}
use Rattle.misp_types.specs.declared.kinds.Rule.{Rule}

-- the form of a value of one part
unfoldable pub form_of : List ℕ → Form
form_of kind =
    if bytes_eq kind (codes "md5") then Form.Digest 32
    else if bytes_eq kind (codes "sha1") then Form.Digest 40
    else if bytes_eq kind (codes "sha256") then Form.Digest 64
    else if bytes_eq kind (codes "sha512") then Form.Digest 128
    else if bytes_eq kind (codes "ip-src") || bytes_eq kind (codes "ip-dst") then Form.Address
    else if bytes_eq kind (codes "domain") || bytes_eq kind (codes "hostname") then Form.Domain
    else if bytes_eq kind (codes "port") then Form.Port
    else if bytes_eq kind (codes "AS") then Form.System
    else Form.Any

-- a value of two parts, a file, or a value of one part
unfoldable pub rule_of : List ℕ → Rule
rule_of kind =
    if bytes_eq kind (codes "filename|md5") then Rule.Two Form.Any (Form.Digest 32)
    else if bytes_eq kind (codes "filename|sha1") then Rule.Two Form.Any (Form.Digest 40)
    else if bytes_eq kind (codes "filename|sha256") then Rule.Two Form.Any (Form.Digest 64)
    else if bytes_eq kind (codes "domain|ip") then Rule.Two Form.Domain Form.Address
    else if bytes_eq kind (codes "ip-src|port") || bytes_eq kind (codes "ip-dst|port")
    then Rule.Two Form.Address Form.Port
    else if bytes_eq kind (codes "attachment") || bytes_eq kind (codes "malware-sample")
    then Rule.File
    else Rule.One (form_of kind)
