-- The text of a group is read to the group.
use Rattle.std.proofs.Common.{◌≡◌, ℕ, ◌<◌, ◌≤◌, ◌^◌, true, List, Some, None, Ok, IsUtf8, inl, refl, ap, ◌∙◌, arith, lit<, codes, decimal, if◌then◌else◌}
use Rattle.std.proofs.lemmas.Fmt.{IsAscii-decimal}
use Rattle.std.proofs.lemmas.Str.{IsUtf8-append, IsUtf8-from_ascii, IsUtf8-from_is_utf8, is_utf8-from_IsUtf8}
use Rattle.json.proofs.Printed.Utf8.{IsUtf8-are_ascii}
use Rattle.uuid.specs.Text.{lower}
use Rattle.uuid.proofs.TextLemmas.{hyphenated_ascii}
use Rattle.misp_ids.specs.Uid.{bytes_of, text_of}
use Rattle.misp_ids.proofs.NamesLemmas.{IsUtf8-inst_name}
use Rattle.misp_format.specs.Prelude.{◌>>=◌, Group, GroupOrg, GroupServer, IsGroup, IsOrg, IsServer, LAST_SECOND, Uid, group_in_text, is_utf8, json_in, read, uncarried, whole_group_data}
use Rattle.misp_format.specs.Groups.{group_body_at}
use Rattle.misp_format.specs.Json.{json_or_fault}
use Rattle.misp_format.specs.WholeGroup.{group_org_data, server_url, group_server_data, group_text}
use Rattle.misp_format.proofs.GroupBack.{whole_back}
use Rattle.misp_format.proofs.Depths.{Shallow, shallow_items}
use Rattle.misp_format.proofs.ReadBack.{Returns, returned, return_items}
use Rattle.misp_format.proofs.Utf8.{IsText, text_utf8, are_texts}

-- ---- no float, and not deep

shallow_org : (o : GroupOrg) → Shallow 2 (group_org_data o)
unfolding group_org_data
shallow_org o = record { levels = omega arith }

shallow_server : (s : GroupServer) → Shallow 2 (group_server_data s)
unfolding group_server_data
shallow_server s = record { levels = omega arith }

pub shallow_whole : (g : Group) → Shallow 4 (whole_group_data g)
unfolding whole_group_data
shallow_whole g =
    let orgs = shallow_items 2 group_org_data shallow_org g.orgs in
    let servers = shallow_items 2 group_server_data shallow_server g.servers in
    record { levels = omega arith }

-- ---- its text is read to the same data

return_org : (o : GroupOrg) → Returns (group_org_data o)
unfolding group_org_data
return_org o = record { no_number = refl; back = refl }

return_server : (s : GroupServer) → Returns (group_server_data s)
unfolding group_server_data
return_server s = record { no_number = refl; back = refl }

pub whole_returned : (g : Group) → read (group_text g) ≡ Some (whole_group_data g)
unfolding whole_group_data
whole_returned g =
    let orgs = return_items group_org_data return_org g.orgs in
    let servers = return_items group_server_data return_server g.servers in
    returned (whole_group_data g) (record { no_number = rw (orgs.no_number, servers.no_number) refl; back = rw (orgs.back, servers.back) refl }) (omega (arith, (shallow_whole g).levels))

-- ---- its text is UTF-8

pub uuid_utf8 : (u : Uid) → IsUtf8 (text_of u)
uuid_utf8 u = IsUtf8-from_ascii (text_of u) (hyphenated_ascii lower (bytes_of u) (inl refl))

org_utf8 : (o : GroupOrg) → IsOrg o → IsText (group_org_data o)
unfolding group_org_data
org_utf8 o h = (refl, ((refl, (IsUtf8-from_is_utf8 o.name h.1, (refl, (uuid_utf8 o.org.0, tt)))), (refl, (tt, tt))))

pub url_utf8 : (name : List ℕ) → IsUtf8 name → IsUtf8 (server_url name)
url_utf8 name h = IsUtf8-append (codes "http://") _ (IsUtf8-are_ascii (codes "http://") refl) (IsUtf8-append name (codes "/") h (IsUtf8-are_ascii (codes "/") refl))

server_utf8 : (s : GroupServer) → IsServer s → IsText (group_server_data s)
unfolding group_server_data
server_utf8 s h =
    let name = IsUtf8-inst_name s.name h in
    (refl, ((refl, (name, (refl, (url_utf8 s.name name, tt)))), (refl, (tt, tt))))

pub number_utf8 : (n : ℕ) → n ≤ LAST_SECOND → IsUtf8 (decimal n)
number_utf8 n h =
    let large : LAST_SECOND < 2 ^ 64 = lit< tt in
    IsUtf8-from_ascii (decimal n) (IsAscii-decimal n (omega arith))

whole_utf8 : (g : Group) → IsGroup g → IsUtf8 (group_text g)
unfolding whole_group_data
whole_utf8 g h =
    text_utf8 (whole_group_data g) (
      refl,
      (
        are_texts group_org_data org_utf8 g.orgs h.orgs,
        (
          refl,
          (
            are_texts group_server_data server_utf8 g.servers h.servers,
            (
              refl,
              (
                tt,
                (
                  refl,
                  (
                    IsUtf8-from_is_utf8 g.description h.description,
                    (
                      refl,
                      (
                        number_utf8 g.modified h.modified,
                        (
                          refl,
                          (
                            IsUtf8-from_is_utf8 g.name h.name,
                            (
                              refl,
                              (
                                uuid_utf8 g.id.creator.0,
                                (
                                  refl,
                                  (
                                    IsUtf8-from_is_utf8 g.releasability h.releasability,
                                    (refl, (tt, (refl, (uuid_utf8 g.id.uuid, tt)))),
                                  ),
                                ),
                              ),
                            ),
                          ),
                        ),
                      ),
                    ),
                  ),
                ),
              ),
            ),
          ),
        ),
      ),
    )

-- ---- THE LAW: a group is read from its text

pub text_back : (g : Group) → IsGroup g → group_in_text (group_text g) ≡ Ok (uncarried g)
unfolding group_in_text json_in
text_back g h =
    let utf8 : is_utf8 (group_text g) ≡ true = is_utf8-from_IsUtf8 (group_text g) (whole_utf8 g h) in
    ap (λ b. json_or_fault (if b then read (group_text g) else None) >>= group_body_at) utf8
    ∙ ap (λ o. json_or_fault o >>= group_body_at) (whole_returned g)
    ∙ whole_back g h
