-- What is written of a whole sharing group: the members of each object, in ascending order of their
-- names.
use Rattle.std.specs.Prelude.{ℕ, List, ◌++◌, codes, false}
use Rattle.serde_json.specs.Data.{Data, boolean, string, object, member, no_members}
use Rattle.serde_json.specs.Written.{compact_text}
use Rattle.misp_groups.specs.declared.group.GroupFields.{GroupFields as Group}
use Rattle.misp_groups.specs.declared.group.GroupOrg.{GroupOrg}
use Rattle.misp_groups.specs.declared.group.GroupServer.{GroupServer}
use Rattle.misp_format.specs.Fields.{number_data, uuid_data, list_data, org_data}

-- an organisation of a group
unfoldable pub group_org_data : GroupOrg → Data
group_org_data o = object (
    member (codes "Organisation") (org_data o.org o.name) (
    member (codes "extend") (boolean o.extend)
    no_members))

-- the place of an instance in the web, which is made of its name
abbrev pub server_url : List ℕ → List ℕ
server_url name = codes "http://" ++ name ++ codes "/"

abbrev pub named_server_data : List ℕ → Data
named_server_data name = object (
    member (codes "name") (string name) (
    member (codes "url") (string (server_url name))
    no_members))

-- an instance of a group
unfoldable pub group_server_data : GroupServer → Data
group_server_data s = object (
    member (codes "Server") (named_server_data s.name) (
    member (codes "all_orgs") (boolean s.all_orgs)
    no_members))

-- WHOLE GROUP: whether it came by a synchronisation is not written
unfoldable pub whole_group_data : Group → Data
whole_group_data g = object (
    member (codes "SharingGroupOrg") (list_data group_org_data g.orgs) (
    member (codes "SharingGroupServer") (list_data group_server_data g.servers) (
    member (codes "active") (boolean g.active) (
    member (codes "description") (string g.description) (
    member (codes "modified") (number_data g.modified) (
    member (codes "name") (string g.name) (
    member (codes "organisation_uuid") (uuid_data g.id.creator.0) (
    member (codes "releasability") (string g.releasability) (
    member (codes "roaming") (boolean g.roaming) (
    member (codes "uuid") (uuid_data g.id.uuid)
    no_members))))))))))

-- ---- texts

-- the text of a group
abbrev pub group_text : Group → List ℕ
group_text g = compact_text (whole_group_data g)

-- the text of a list of groups
abbrev pub groups_text : List Group → List ℕ
groups_text gs = compact_text (list_data whole_group_data gs)

-- what a text keeps of a group
abbrev pub uncarried : Group → Group
uncarried g = record g { carried = false }
