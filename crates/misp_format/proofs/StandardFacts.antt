-- Bodies that the tables read, so that a wrong default or a wrong order in the specs does not check.
use Rattle.std.proofs.Common.{◌≡◌, ℕ, List, [], ◌∷◌, map, Ok, Err, None, Some, refl, false, true, codes}
use Rattle.misp_types.specs.Kinds.{rule_of, form_of}
use Rattle.std.specs.Str.{chars}
use Rattle.serde_json.specs.Data.{null}
use Rattle.misp_orgs.specs.declared.role.Role.{Role}
use Rattle.misp_admins.specs.declared.ask.LinkEdit.{LinkEdit}
use Rattle.misp_format.specs.Prelude.{Body, Content, Data, FormatFault, Label, Need, Place, array, attributes_at, boolean, category_of, event_at, item, item_path, kept_of, label_at, made_uid, member, member_path, no_items, no_members, object}
use Rattle.misp_format.specs.Prelude.{objects_at, string, tags_at, tags_size, text_size}
use Rattle.misp_format.specs.Administering.{api_key_of, link_at, link_edit_at, org_name_of, organisation_at, partner_at, peer_of, revoked_at, role_of}
use Rattle.misp_format.specs.Elements.{attribute_at, seen_at, tag_at, object_at, object_and_others_at}
use Rattle.misp_format.specs.Labels.{group_at}
use Rattle.misp_format.specs.Tables.{event_itself_at}

pub known_categories :
    map (λ name. category_of (string name))
    (codes "Internal reference" ∷ codes "Targeting data" ∷ codes "Antivirus detection" ∷ codes "Payload delivery" ∷ codes "Artifacts dropped" ∷ codes "Payload installation"
    ∷ codes "Persistence mechanism" ∷ codes "Network activity" ∷ codes "Payload type" ∷ codes "Attribution" ∷ codes "External analysis" ∷ codes "Financial fraud"
    ∷ codes "Support Tool" ∷ codes "Social network" ∷ codes "Person" ∷ codes "Other" ∷ codes "other" ∷ [])
    ≡ Ok 0 ∷ Ok 1 ∷ Ok 2 ∷ Ok 3 ∷ Ok 4 ∷ Ok 5 ∷ Ok 6 ∷ Ok 7 ∷ Ok 8 ∷ Ok 9 ∷ Ok 10 ∷ Ok 11 ∷ Ok 12 ∷ Ok 13 ∷ Ok 14 ∷ Ok 15 ∷ Err Need.Range ∷ []
known_categories = refl

-- an event that says nothing but its title
pub known_event : event_at 0 (object (member (codes "info") (string (codes "Wave")) no_members))
    ≡ Ok (record {
      event = record { 0 = made_uid 0 0 };
      body = Some (record { info = codes "Wave"; date = None; threat_level_id = 4; analysis = 0; extends_uuid = None; tags = [] });
      label = Label.Own;
      parts = [];
      references = [];
    })
unfolding event_at event_itself_at label_at tags_at attributes_at objects_at tags_size
known_event = refl

-- an attribute that has no more than its type and its value
pub known_attribute : attribute_at (codes "Attribute") None 0 0 (object (member (codes "type") (string (codes "domain")) (member (codes "value") (string (codes "Example.ORG")) no_members)))
    ≡ Ok (record {
      number = 0;
      place = Place.Attribute (record { 0 = made_uid 0 0 });
      label = Label.Inherit;
      content = Content.Attribute (record { kind = codes "domain"; category = 15; to_ids = false; comment = []; deleted = false; value = codes "example.org"; tags = []; object_relation = []; first_seen = None; last_seen = None });
    })
unfolding attribute_at seen_at label_at tags_at text_size tags_size kept_of rule_of form_of
known_attribute = refl

-- a tag that has no more than its name
pub known_tag : tag_at (codes "Tag") (object (member (codes "name") (string (codes "tlp:green")) no_members))
    ≡ Ok (record { name = codes "tlp:green"; colour = 255 ∷ 255 ∷ 255 ∷ []; exportable = true })
unfolding tag_at
known_tag = refl

-- of two faults the one whose member is read first
pub known_faults : (event_at 0 (object (member (codes "analysis") (boolean true) (member (codes "info") (string []) no_members)))
    ≡ Err (FormatFault.BadField (codes "Event.info") Need.Range))
    × (event_at 0
    (object (member (codes "Event")
    (object (member (codes "Object")
    (array (item
    (object (member (codes "Attribute")
    (array (item (object (member (codes "type") (string (codes "md5")) (member (codes "value") (string (codes "abc")) no_members))) no_items))
    (member (codes "name") (string (codes "file")) no_members)))
    no_items))
    (member (codes "info") (string (codes "Wave")) no_members)))
    no_members))
    ≡ Err (FormatFault.BadField (member_path (item_path (member_path (item_path (member_path (codes "Event") (codes "Object")) 0) (codes "Attribute")) 0) (codes "value")) Need.Length))
unfolding event_at event_itself_at label_at tags_at attributes_at objects_at object_and_others_at object_at attribute_at seen_at text_size tags_size kept_of rule_of form_of
known_faults = (refl, refl)

-- a group is read with the distribution 4, by its creator first, and with no other
pub known_labels : (label_at (record { path = codes "Event"; value = object (member (codes "SharingGroup") (boolean true) (member (codes "distribution") (string (codes "3")) no_members)) }) 4 0
    ≡ Ok Label.All)
    × ((label_at (record { path = codes "Event"; value = object (member (codes "distribution") (string (codes "4")) no_members) }) 4 0
    ≡ Err (FormatFault.BadField (codes "Event.SharingGroup") Need.Present))
    × (label_at (record { path = codes "Event"; value = object (member (codes "SharingGroup") (object (member (codes "uuid") (boolean true) no_members)) (member (codes "distribution") (string (codes "4")) no_members)) }) 4 0
    ≡ Err (FormatFault.BadField (codes "Event.SharingGroup.organisation_uuid") Need.Present)))
unfolding label_at group_at
known_labels = (refl, (refl, refl))

-- ---- administering bodies

-- a name is not empty and has no control character
pub known_names : (map (λ text. org_name_of (string text)) (codes "CIRCL" ∷ [] ∷ (65 ∷ 10 ∷ []) ∷ []) ≡ Ok (codes "CIRCL") ∷ Err Need.Range ∷ Err Need.Range ∷ [])
    × (org_name_of (boolean true) ≡ Err Need.Text)
unfolding chars
known_names = (refl, refl)

abbrev a_key : List ℕ
a_key = codes "0123456789012345678901234567890123456789"

pub known_keys : (map (λ text. api_key_of (string text)) (a_key ∷ codes "0123" ∷ []) ≡ Ok a_key ∷ Err Need.Key ∷ []) × (api_key_of (boolean true) ≡ Err Need.Text)
known_keys = (refl, refl)

pub known_roles : (map (λ text. role_of (string text)) (codes "orgadmin" ∷ codes "sync" ∷ codes "Sync" ∷ []) ≡ Ok Role.OrgAdmin ∷ Ok Role.Sync ∷ Err Need.Range ∷ [])
    × (role_of (boolean true) ≡ Err Need.Text)
known_roles = (refl, refl)

abbrev with_partner : Data → Body
with_partner d = record { path = codes "AuthKey"; value = object (member (codes "partner") d no_members) }

-- a partner beside another role is a fault, whatever it is
pub known_partners : (partner_at Role.Sync (with_partner (string (codes "beta"))) ≡ Ok (Some (codes "beta")))
    × ((partner_at Role.Sync (with_partner null) ≡ Err (FormatFault.BadField (codes "AuthKey.partner") Need.Present))
    × ((map (λ d. partner_at Role.User (with_partner d)) (null ∷ boolean true ∷ string (codes "beta") ∷ [])
    ≡ Ok None ∷ Err (FormatFault.BadField (codes "AuthKey.partner") Need.Range) ∷ Err (FormatFault.BadField (codes "AuthKey.partner") Need.Range) ∷ [])))
known_partners = (refl, (refl, refl))

-- what is revoked is named by the key alone
pub known_revoked : revoked_at (object (member (codes "AuthKey") (object (member (codes "authkey") (string a_key) (member (codes "org") (boolean true) no_members))) no_members)) ≡ Ok a_key
unfolding revoked_at
known_revoked = refl

-- a link is not to its own instance
pub known_peers : map (λ text. peer_of (codes "alpha") (string text)) (codes "beta" ∷ codes "alpha" ∷ codes "Beta" ∷ []) ≡ Ok (codes "beta") ∷ Err Need.Range ∷ Err Need.Range ∷ []
known_peers = refl

-- an edit of a link gives what it names, and no peer
pub known_edit : link_edit_at (object (member (codes "name") (string (codes "up")) (member (codes "on") (boolean false) (member (codes "peer") (boolean true) no_members))))
    ≡ Ok (record { name = codes "up"; key = None; holder = None; push_org = None; on = Some false })
unfolding link_edit_at
known_edit = refl

-- the first member that is absent
pub known_absent : (organisation_at (object (member (codes "name") (boolean true) no_members)) ≡ Err (FormatFault.BadField (codes "Organisation.uuid") Need.Present))
    × (link_at (codes "alpha") (object (member (codes "name") (string (codes "up")) (member (codes "peer") (string (codes "beta")) no_members)))
    ≡ Err (FormatFault.BadField (codes "Server.key") Need.Present))
unfolding organisation_at link_at
known_absent = (refl, refl)
