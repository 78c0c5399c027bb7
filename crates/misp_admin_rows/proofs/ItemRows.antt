-- The row of an item is read as that item, and no other row is.
use Rattle.std.proofs.Common.{◌≡◌, ℕ, true, cond, eqb, length, List, None, Some, Result, Ok, Err, refl, ◌∙◌, ap, subst, arith, eqb-true, inl, inr}
use Rattle.misp_lists.proofs.Bytes.{IsBytes}
use Rattle.misp_ids.specs.Names.{is_inst_name}
use Rattle.misp_ids.specs.Uid.{IsUid}
use Rattle.misp_outside.specs.declared.row.AdminRow.{AdminRow}
use Rattle.misp_orgs.specs.declared.link.Link.{Link}
use Rattle.misp_orgs.specs.Org.{OrgFields, name_limit}
use Rattle.misp_orgs.specs.Keys.{KeyFields}
use Rattle.misp_elem.specs.Fields.{IsText}
use Rattle.misp_elem.specs.Reading.{◌>>=◌, org_at, text_at}
use Rattle.misp_elem.specs.Spelling.{text, uid}
use Rattle.misp_elem.proofs.Exact.{all_again, all_takes, bind_ok, chosen, keep_ok, ok_is}
use Rattle.misp_elem.proofs.Keys.{org_field}
use Rattle.misp_elem.proofs.Numbers.{text_field}
use Rattle.misp_admins.specs.declared.item.Item.{Item}
use Rattle.misp_admins.specs.Made.{IsItem, IsKeyItem, IsLinkItem}
use Rattle.misp_admin_rows.specs.Rows.{all_of, api_key_at, as_item, item_in, item_row, key_in, key_kind, key_of, key_told_at, link_in, link_kind, link_of, link_told_at, name_in, org_in, org_kind}
use Rattle.misp_admin_rows.specs.Rows.{key_row, link_row}
use Rattle.misp_admin_rows.proofs.Fields.{api_key_field, is_same, key_told_field, link_told_field, same_is}

-- ---- what was written is read

org_again : (o : OrgFields) → IsUid o.uuid.0 × IsText 0 name_limit o.name → org_in (uid o.uuid.0) (text o.name) ≡ Ok o
org_again o h =
    ap (λ r. r >>= λ uuid. all_of (text_at 0 name_limit) (text o.name) >>= λ t. Ok (record { uuid = uuid; name = t })) (all_again org_field o.uuid h.0)
    ∙ ap (λ r. r >>= λ t. Ok (record { uuid = o.uuid; name = t })) (all_again (text_field 0 name_limit (omega arith)) o.name h.1)

key_again : (k : KeyFields) → IsKeyItem k → key_in k.key (key_row k).bytes ≡ Ok k
key_again k h =
    ap (λ r. r >>= λ key. all_of key_told_at (key_row k).bytes >>= λ t. Ok (key_of key t)) (all_again api_key_field k.key h.key)
    ∙ ap (λ r. r >>= λ t. Ok (key_of k.key t))
    (all_again key_told_field (k.org, (k.role, ((k.revoked, k.internal), k.partner))) (h.org, (tt, (tt, (h.partner, is_same _ _ h.has)))))

link_again : (l : Link) → IsLinkItem l → link_in l.name (link_row l).bytes ≡ Ok l
link_again l h =
    ap (λ b. cond b (Ok l.name) (Err (length l.name)) >>= λ own. all_of link_told_at (link_row l).bytes >>= λ t. Ok (link_of own t)) h.name
    ∙ ap (λ r. r >>= λ t. Ok (link_of l.name t))
    (all_again link_told_field (l.peer, (l.key, (l.holder, (l.push_org, (l.on, l.internal))))) (h.peer, (h.key, (h.holder, (h.push_org, tt)))))

-- the row of an item is read as that item
pub item_again : (i : Item) → IsItem i → item_in (item_row i) ≡ Some i
unfolding item_in item_row
item_again (Item.Org o) h = ap (as_item Item.Org) (org_again o h)
item_again (Item.Key k) h = ap (as_item Item.Key) (key_again k h)
item_again (Item.Link l) h = ap (as_item Item.Link) (link_again l h)

-- ---- what is read was written

org_takes : (name bytes : List ℕ) (o : OrgFields) → IsBytes name → IsBytes bytes → org_in name bytes ≡ Ok o
    → (IsUid o.uuid.0 × IsText 0 name_limit o.name) × ((name ≡ uid o.uuid.0) × (bytes ≡ text o.name))
org_takes name bytes o fits all e =
    let s = bind_ok (all_of org_at name) (λ uuid. all_of (text_at 0 name_limit) bytes >>= λ t. Ok (record { uuid = uuid; name = t })) o e in
    let t = bind_ok (all_of (text_at 0 name_limit) bytes) (λ t. Ok (record { uuid = s.0; name = t })) o s.2 in
    let a = all_takes org_field name s.0 fits s.1 in
    let b = all_takes (text_field 0 name_limit (omega arith)) bytes t.0 all t.1 in
    subst (λ (x : OrgFields). (IsUid x.uuid.0 × IsText 0 name_limit x.name) × ((name ≡ uid x.uuid.0) × (bytes ≡ text x.name))) (ok_is _ o t.2) ((a.0, b.0), (a.1, b.1))

key_takes : (name bytes : List ℕ) (k : KeyFields) → IsBytes name → IsBytes bytes → key_in name bytes ≡ Ok k → IsKeyItem k × ((name ≡ k.key) × (bytes ≡ (key_row k).bytes))
key_takes name bytes k fits all e =
    let s = bind_ok (all_of api_key_at name) (λ key. all_of key_told_at bytes >>= λ t. Ok (key_of key t)) k e in
    let t = bind_ok (all_of key_told_at bytes) (λ t. Ok (key_of s.0 t)) k s.2 in
    let a = all_takes api_key_field name s.0 fits s.1 in
    let b = all_takes key_told_field bytes t.0 all t.1 in
    subst (λ (x : KeyFields). IsKeyItem x × ((name ≡ x.key) × (bytes ≡ (key_row x).bytes))) (ok_is _ k t.2)
    (record { key = a.0; org = b.0.0; partner = b.0.1.1.1.0; has = same_is _ _ b.0.1.1.1.1 }, (a.1, b.1))

link_takes : (name bytes : List ℕ) (l : Link) → IsBytes bytes → link_in name bytes ≡ Ok l → IsLinkItem l × ((name ≡ l.name) × (bytes ≡ (link_row l).bytes))
link_takes name bytes l all e =
    let s = bind_ok (name_in name) (λ own. all_of link_told_at bytes >>= λ t. Ok (link_of own t)) l e in
    let k = keep_ok (is_inst_name name) (length name) name s.0 s.1 in
    let t = bind_ok (all_of link_told_at bytes) (λ t. Ok (link_of s.0 t)) l s.2 in
    let b = all_takes link_told_field bytes t.0 all t.1 in
    subst (λ (x : Link). IsLinkItem x × ((name ≡ x.name) × (bytes ≡ (link_row x).bytes))) (ok_is _ l t.2)
    (record { name = subst (λ n. is_inst_name n ≡ true) k.1 k.0; peer = b.0.0; key = b.0.1.0; holder = b.0.1.1.0; push_org = b.0.1.1.1.0 }, (k.1, b.1))

item_is : {A : Type 0} (make : A → Item) (r : Result A ℕ) (i : Item) → as_item make r ≡ Some i → (x : A) × (r ≡ Ok x) × (make x ≡ i)
item_is make (Ok x) i e = let same : make x ≡ i = cc in (x, refl, same)
item_is make (Err left) i e = absurd cc

row_is : (row : AdminRow) (kind : ℕ) (name bytes : List ℕ) → row.kind ≡ kind → row.name ≡ name → row.bytes ≡ bytes → row ≡ record { kind = kind; name = name; bytes = bytes }
row_is row kind name bytes k n b = λ j. record { kind = k j; name = n j; bytes = b j }

-- a row that is read as an item is the row of that item
pub item_takes : (row : AdminRow) (i : Item) → IsBytes row.name → IsBytes row.bytes → item_in row ≡ Some i → IsItem i × (row ≡ item_row i)
unfolding item_in item_row
item_takes row i fits all e =
    elim (chosen (eqb row.kind org_kind) (as_item Item.Org (org_in row.name row.bytes)) _ _ e) [
      | inl found ↦
          let x = item_is Item.Org (org_in row.name row.bytes) i found.1 in
          let t = org_takes row.name row.bytes x.0 fits all x.1 in
          subst (λ (y : Item). IsItem y × (row ≡ item_row y)) x.2 (t.0, row_is row org_kind _ _ (eqb-true _ _ found.0) t.1.0 t.1.1)
      | inr other ↦ elim (chosen (eqb row.kind key_kind) (as_item Item.Key (key_in row.name row.bytes)) _ _ other.1) [
        | inl found ↦
            let x = item_is Item.Key (key_in row.name row.bytes) i found.1 in
            let t = key_takes row.name row.bytes x.0 fits all x.1 in
            subst (λ (y : Item). IsItem y × (row ≡ item_row y)) x.2 (t.0, row_is row key_kind _ _ (eqb-true _ _ found.0) t.1.0 t.1.1)
        | inr other ↦ elim (chosen (eqb row.kind link_kind) (as_item Item.Link (link_in row.name row.bytes)) _ _ other.1) [
          | inl found ↦
              let x = item_is Item.Link (link_in row.name row.bytes) i found.1 in
              let t = link_takes row.name row.bytes x.0 all x.1 in
              subst (λ (y : Item). IsItem y × (row ≡ item_row y)) x.2 (t.0, row_is row link_kind _ _ (eqb-true _ _ found.0) t.1.0 t.1.1)
          | inr other ↦ absurd (let no_ : None ≡ Some i = other.1 in cc)
        ]
      ]
    ]
