-- The description of the generated network: four instances in a ring, each of an organisation that
-- writes there, and each pulled from by the organisation of the next.
use Rattle.std.specs.Prelude.{ℕ, List, [], ◌∷◌, ◌++◌, codes, flat_map, replicate}

-- an organisation and its instance; the name and the key of the link by which the next instance
-- pulls from this one; the organisation and the name of the next instance
pub record Station : Type 0 where
  pub org : List ℕ
  pub uuid : List ℕ
  pub inst : List ℕ
  pub key : ℕ
  pub link_key : ℕ
  pub next_org : List ℕ
  pub next : List ℕ

abbrev pub stations : List Station
stations =
    record {
      org = codes "Alpha";
      uuid = codes "aaaaaaaa-0000-4000-8000-000000000001";
      inst = codes "a";
      key = 65;
      link_key = 80;
      next_org = codes "Beta";
      next = codes "b";
    }
    ∷ record {
      org = codes "Beta";
      uuid = codes "bbbbbbbb-0000-4000-8000-000000000002";
      inst = codes "b";
      key = 66;
      link_key = 81;
      next_org = codes "Gamma";
      next = codes "c";
    }
    ∷ record {
      org = codes "Gamma";
      uuid = codes "cccccccc-0000-4000-8000-000000000003";
      inst = codes "c";
      key = 67;
      link_key = 82;
      next_org = codes "Delta";
      next = codes "d";
    }
    ∷ record {
      org = codes "Delta";
      uuid = codes "dddddddd-0000-4000-8000-000000000004";
      inst = codes "d";
      key = 68;
      link_key = 83;
      next_org = codes "Alpha";
      next = codes "a";
    }
    ∷ []

-- a key is a letter forty times
abbrev pub key_of : ℕ → List ℕ
key_of letter = replicate 40 letter

-- ---- the tables

abbrev pub org_table : Station → List ℕ
org_table s =
    codes "[[org]]\nname = \"" ++ s.org ++ codes "\"\nuuid = \"" ++ s.uuid ++ codes "\"\n"

abbrev pub instance_table : Station → List ℕ
instance_table s = codes "[[instance]]\nname = \"" ++ s.inst ++ codes "\"\n"

-- the key of an organisation that writes at its instance
abbrev pub writer_table : Station → List ℕ
writer_table s =
    codes "[[key]]\ninstance = \"" ++ s.inst ++ codes "\"\nkey = \"" ++ key_of s.key
    ++ codes "\"\norg = \"" ++ s.org ++ codes "\"\nrole = \"publisher\"\n"

-- the key by which the next instance pulls
abbrev pub partner_table : Station → List ℕ
partner_table s =
    codes "[[key]]\ninstance = \"" ++ s.inst ++ codes "\"\nkey = \"" ++ key_of s.link_key
    ++ codes "\"\norg = \"" ++ s.next_org ++ codes "\"\nrole = \"sync\"\npartner = \"" ++ s.next
    ++ codes "\"\n"

-- the link of the next instance, which is named for both
abbrev pub link_table : Station → List ℕ
link_table s =
    codes "[[link]]\nname = \"" ++ s.next ++ s.inst ++ codes "\"\nat = \"" ++ s.next
    ++ codes "\"\nto = \"" ++ s.inst ++ codes "\"\nkey = \"" ++ key_of s.link_key
    ++ codes "\"\nholder = \"" ++ s.next_org ++ codes "\"\npush_org = \"" ++ s.next_org
    ++ codes "\"\n"

-- DESCRIPTION: the tables of all, kind after kind
unfoldable pub description_text : List ℕ
description_text =
    flat_map org_table stations ++ flat_map instance_table stations
    ++ flat_map writer_table stations ++ flat_map partner_table stations
    ++ flat_map link_table stations
