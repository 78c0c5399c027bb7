-- Names that are texts.
use Rattle.std.proofs.Common.{◌≡◌, ℕ, ◌≤◌, List, length, le-leb, subst, arith}
use Rattle.std.specs.Str.{IsUtf8}
use Rattle.misp_lists.proofs.Prelude.{and_from, is_utf8-from_IsUtf8}
use Rattle.misp_elem.specs.Fields.{IsText}
use Rattle.misp_orgs.specs.Org.{name_limit}

-- a text that is short is the name of an organisation
pub short_text : (text name : List ℕ) → IsUtf8 text → text ≡ name → length name ≤ name_limit → IsText 0 name_limit name
short_text text name utf8 is short =
    and_from _ _ (and_from _ _ (le-leb 0 (length name) (omega arith)) (le-leb (length name) name_limit short)) (is_utf8-from_IsUtf8 name (subst IsUtf8 is utf8))
