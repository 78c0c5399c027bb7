-- Each field of a row of the administration is read as it is written.
use Rattle.std.proofs.Common.{◌≡◌, ℕ, zero, suc, Bool, true, false, length, take, drop, List, [], ◌∷◌, ◌++◌, Option, None, Some, Ok, refl, sym, ◌∙◌, ap, subst, arith, is_some, take_at, drop_at, leb-true, eqb-true}
use Rattle.std.proofs.lemmas.Bool.{and_parts}
use Rattle.std.proofs.lemmas.List.{take-append-drop}
use Rattle.misp_lists.proofs.Bytes.{IsBytes, IsBytes-drop}
use Rattle.misp_ids.specs.Names.{is_api_key}
use Rattle.misp_ids.specs.Uid.{IsUid}
use Rattle.misp_orgs.specs.declared.role.Role.{Role}
use Rattle.misp_orgs.specs.Roles.{is_sync}
use Rattle.misp_elem.specs.Fields.{IsBetween}
use Rattle.misp_elem.specs.Key.{IsInstName}
use Rattle.misp_elem.specs.Reading.{◌>>=◌, flag_at}
use Rattle.misp_elem.specs.Spelling.{uid, flag, flags, inst_name}
use Rattle.misp_elem.proofs.Exact.{IsField, Takes, Takes-then, bind_ok, first, keep_ok, last, ok_is, tested, whole}
use Rattle.misp_elem.proofs.Keys.{inst_field, org_field}
use Rattle.misp_elem.proofs.Labels.{flags_field}
use Rattle.misp_elem.proofs.Numbers.{between_field, flag_field}
use Rattle.misp_admins.specs.Made.{IsOptionalInst}
use Rattle.misp_admin_rows.specs.Rows.{KeyTold, LinkTold, api_key_at, are_same, key_told_at, link_told_at, optional_inst, optional_inst_at, optional_inst_of, partner_at, role_at, role_number, role_numbered}

-- ---- roles

roles_back : (r : Role) → role_numbered (role_number r) ≡ r
roles_back Role.Reader = refl
roles_back Role.User = refl
roles_back Role.Publisher = refl
roles_back Role.OrgAdmin = refl
roles_back Role.Sync = refl
roles_back Role.SiteAdmin = refl

roles_between : (r : Role) → IsBetween 0 5 (role_number r)
roles_between Role.Reader = refl
roles_between Role.User = refl
roles_between Role.Publisher = refl
roles_between Role.OrgAdmin = refl
roles_between Role.Sync = refl
roles_between Role.SiteAdmin = refl

numbers_back : (n : ℕ) → IsBetween 0 5 n → role_number (role_numbered n) ≡ n
numbers_back zero h = refl
numbers_back (suc zero) h = refl
numbers_back (suc (suc zero)) h = refl
numbers_back (suc (suc (suc zero))) h = refl
numbers_back (suc (suc (suc (suc zero)))) h = refl
numbers_back (suc (suc (suc (suc (suc zero))))) h = refl
numbers_back (suc (suc (suc (suc (suc (suc n)))))) h = absurd (omega (arith, leb-true (suc (suc (suc (suc (suc (suc n)))))) 5 (and_parts _ _ h).1))

pub role_field : IsField (λ (r : Role). Unit {0}) (λ r. role_number r ∷ []) role_at
unfolding role_at
role_field =
    whole role_number (λ r. Unit {0}) (λ r. role_number r ∷ []) roles_back (λ r h. roles_between r) (λ n h. tt) (λ n h. ap (λ (m : ℕ). m ∷ []) (numbers_back n h))
    (last role_numbered (between_field 0 5 (omega arith)))

-- ---- the name of an instance after a flag

optional_takes : (bytes : List ℕ) (o : Option (List ℕ)) (rest : List ℕ) → IsBytes bytes → optional_inst_at bytes ≡ Ok (o, rest) → IsOptionalInst o × Takes bytes (optional_inst o) rest
unfolding optional_inst_at
optional_takes bytes o rest fits e =
    let s = bind_ok (flag_at bytes) (λ f. optional_inst_of f.0 f.1) (o, rest) e in
    let t = flag_field.takes bytes s.0.0 s.0.1 fits s.1 in
    behind s.0.0 s.0.1 t.1 s.2 where
      behind : (f : Bool) (after : List ℕ) → Takes bytes (flag f) after → optional_inst_of f after ≡ Ok (o, rest) → IsOptionalInst o × Takes bytes (optional_inst o) rest
      behind false after t e =
          let made : Option (List ℕ) × List ℕ = (None, after) in
          subst (λ (x : Option (List ℕ) × List ℕ). IsOptionalInst x.0 × Takes bytes (optional_inst x.0) x.1) (ok_is made (o, rest) e) (tt, t)
      behind true after t e =
          let u = (last (λ (name : List ℕ). Some name) inst_field).takes after o rest t.rest_fits e in
          subst (λ (x : Option (List ℕ)). IsOptionalInst x × Takes bytes (optional_inst x) rest) u.1 (u.2, Takes-then bytes (1 ∷ []) after (inst_name u.0) rest t u.3)

optional_again : (o : Option (List ℕ)) (rest : List ℕ) → IsOptionalInst o → optional_inst_at (optional_inst o ++ rest) ≡ Ok (o, rest)
unfolding optional_inst_at
optional_again None rest h = ap (λ r. r >>= λ f. optional_inst_of f.0 f.1) (flag_field.again false rest tt)
optional_again (Some name) rest h =
    ap (λ r. r >>= λ f. optional_inst_of f.0 f.1) (flag_field.again true (inst_name name ++ rest) tt)
    ∙ (last (λ (name : List ℕ). Some name) inst_field).again name rest h

pub optional_inst_field : IsField IsOptionalInst optional_inst optional_inst_at
optional_inst_field = record { takes = optional_takes; again = optional_again }

abbrev pub IsPartner : Role → Option (List ℕ) → Type 0
IsPartner role p = IsOptionalInst p × (are_same (is_some p) (is_sync role) ≡ true)

pub partner_field : (role : Role) → IsField (IsPartner role) optional_inst (partner_at role)
unfolding partner_at
partner_field role = tested (λ p. are_same (is_some p) (is_sync role)) optional_inst_field

pub same_is : (a b : Bool) → are_same a b ≡ true → a ≡ b
same_is true b h = sym h
same_is false false h = refl
same_is false true h = absurd cc

pub is_same : (a b : Bool) → a ≡ b → are_same a b ≡ true
is_same true b h = sym h
is_same false false h = refl
is_same false true h = absurd cc

-- ---- keys

abbrev pub IsApiKey : List ℕ → Type 0
IsApiKey key = is_api_key key ≡ true

key_takes : (bytes key rest : List ℕ) → IsBytes bytes → api_key_at bytes ≡ Ok (key, rest) → IsApiKey key × Takes bytes key rest
unfolding api_key_at
key_takes bytes key rest fits e =
    let made : List ℕ × List ℕ = (take 40 bytes, drop 40 bytes) in
    let k = keep_ok (is_api_key (take 40 bytes)) (length bytes) made (key, rest) e in
    subst (λ (x : List ℕ × List ℕ). IsApiKey x.0 × Takes bytes x.0 x.1) k.1 (k.0, record { parts = sym (take-append-drop 40 bytes); rest_fits = IsBytes-drop 40 bytes fits })

key_again : (key rest : List ℕ) → IsApiKey key → api_key_at (key ++ rest) ≡ Ok (key, rest)
unfolding api_key_at
key_again key rest h =
    let long : length key ≡ 40 = eqb-true _ _ (and_parts _ _ h).0 in
    rw (take_at key rest 40 long, h, drop_at key rest 40 long) refl

pub api_key_field : IsField IsApiKey (λ key. key) api_key_at
api_key_field = record { takes = key_takes; again = key_again }

-- ---- all that is held under a name

abbrev pub key_told : KeyTold → List ℕ
key_told t = uid t.0.0 ++ ((role_number t.1.0 ∷ []) ++ (flags t.1.1.0 ++ optional_inst t.1.1.1))

abbrev pub IsKeyTold : KeyTold → Type 0
IsKeyTold t = IsUid t.0.0 × (Unit {0} × (Unit {0} × IsPartner t.1.0 t.1.1.1))

pub key_told_field : IsField IsKeyTold key_told key_told_at
unfolding key_told_at
key_told_field =
    whole (λ t. t) IsKeyTold key_told (λ t. refl) (λ t h. h) (λ t h. h) (λ t h. refl)
    (first org_field (λ org. first role_field (λ role. first flags_field (λ f. last (λ p. (org, (role, (f, p)))) (partner_field role)))))

abbrev pub link_told : LinkTold → List ℕ
link_told t = inst_name t.0 ++ (t.1.0 ++ (uid t.1.1.0.0 ++ (uid t.1.1.1.0.0 ++ flags t.1.1.1.1)))

abbrev pub IsLinkTold : LinkTold → Type 0
IsLinkTold t = IsInstName t.0 × (IsApiKey t.1.0 × (IsUid t.1.1.0.0 × (IsUid t.1.1.1.0.0 × Unit {0})))

pub link_told_field : IsField IsLinkTold link_told link_told_at
unfolding link_told_at
link_told_field =
    whole (λ t. t) IsLinkTold link_told (λ t. refl) (λ t h. h) (λ t h. h) (λ t h. refl)
    (first inst_field (λ peer. first api_key_field (λ key. first org_field (λ holder. first org_field (λ push_org. last (λ f. (peer, (key, (holder, (push_org, f))))) flags_field)))))
