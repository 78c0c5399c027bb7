-- What is known of a name that is looked at.
use Rattle.std.proofs.Common.{◌≡◌, ℕ, ◌^◌, ◌<◌, List, ◌++◌, ◌∷◌, [], true, inl, inr, sym, ap, subst, ◌∙◌, drop, take, length, bytes_eq, append_assoc, take-append-drop}
use Rattle.misp_lists.proofs.Prelude.{and_parts, bytes_eq-Decides}
use Rattle.std.proofs.lemmas.Bool.{or_cases}
use Rattle.misp_lists.proofs.Elements.{found}
use Rattle.misp_elem.specs.Parents.{event_key}
use Rattle.misp_elem.specs.Spelling.{key, name, uid}
use Rattle.misp_model.proofs.Prelude.{ElemId, EventId, Key, OrgId}
use Rattle.misp_model.specs.declared.looks.Look.{Look}
use Rattle.misp_model.specs.declared.looks.Looks.{Looks}
use Rattle.misp_store.specs.Seen.{attributes_of, begin_with, end_with_one, is_name_looked, kind_front, look_at, names_by_uuid, names_in, names_one, names_statement, names_within, owner_in, front_number, place_front}
use Rattle.misp_store.proofs.Fronts.{number_fits}

-- the bytes begin with those of the owner
abbrev pub BeginsWith : OrgId → List ℕ → Type 0
BeginsWith o bytes = (rest : List ℕ) × (bytes ≡ uid o.0 ++ rest)

-- what begins so is that and more
pub begun : (front bytes : List ℕ) → begin_with front bytes ≡ true → (rest : List ℕ) × (bytes ≡ front ++ rest)
begun front bytes h =
    let first : front ≡ take (length front) bytes = (bytes_eq-Decides front (take (length front) bytes)).0 h in
    (drop (length front) bytes, sym (take-append-drop (length front) bytes) ∙ ap (λ t. t ++ drop (length front) bytes) (sym first))

pub kind_begins : (o : OrgId) (e : EventId) (kind : ℕ) (bytes : List ℕ) → begin_with (kind_front o e kind) bytes ≡ true → BeginsWith o bytes
kind_begins o e kind bytes h = let x = begun (kind_front o e kind) bytes h in (kind ∷ uid e.0 ++ x.0, x.1 ∙ append_assoc (uid o.0) (kind ∷ uid e.0) x.0)

pub place_begins : (o : OrgId) (e : EventId) (form : ℕ) (bytes : List ℕ) → begin_with (place_front o e form) bytes ≡ true → BeginsWith o bytes
place_begins o e form bytes h =
    let x = begun (place_front o e form) bytes h in
    (0 ∷ uid e.0 ++ form ∷ x.0, x.1 ∙ append_assoc (kind_front o e 0) (form ∷ []) x.0 ∙ append_assoc (uid o.0) (0 ∷ uid e.0) (form ∷ x.0))

pub named_begins : (o : OrgId) (k : Key) (bytes : List ℕ) → bytes_eq bytes (name o k) ≡ true → BeginsWith o bytes
named_begins o k bytes h = (key k, (bytes_eq-Decides bytes (name o k)).0 h)

pub one_begins : (o : OrgId) (keys : List Key) (bytes : List ℕ) → names_one o keys bytes ≡ true → BeginsWith o bytes
one_begins o keys bytes h =
    let one = found (λ k. bytes_eq bytes (name o k)) keys h in
    named_begins o one.0 bytes one.1.1

module _ (e : EventId) (o : OrgId) (bytes : List ℕ) where
  within_begins : (us : List ElemId) → names_within us e o bytes ≡ true → BeginsWith o bytes
  within_begins us h = elim (or_cases (begin_with (place_front o e 3) bytes) (begin_with (kind_front o e 1) bytes) (and_parts _ (end_with_one us bytes) h).0) [
    | inl is ↦ place_begins o e 3 bytes is
    | inr is ↦ kind_begins o e 1 bytes is
  ]

  uuid_begins : (us : List ElemId) → names_by_uuid us e o bytes ≡ true → BeginsWith o bytes
  uuid_begins us h = elim (or_cases (bytes_eq bytes (name o (event_key e))) _ h) [
    | inl is ↦ named_begins o (event_key e) bytes is
    | inr more ↦ elim (or_cases (begin_with (place_front o e 1) bytes) _ more) [
      | inl is ↦ place_begins o e 1 bytes is
      | inr others ↦ elim (or_cases (names_one o (attributes_of e us) bytes) _ others) [
        | inl is ↦ one_begins o (attributes_of e us) bytes is
        | inr within ↦ within_begins us within
      ]
    ]
  ]

  pub statement_begins : names_statement e o bytes ≡ true → BeginsWith o bytes
  statement_begins h = elim (or_cases (begin_with (kind_front o e 2) bytes) _ h) [
    | inl is ↦ kind_begins o e 2 bytes is
    | inr more ↦ elim (or_cases (begin_with (kind_front o e 3) bytes) _ more) [
      | inl is ↦ kind_begins o e 3 bytes is
      | inr is ↦ kind_begins o e 4 bytes is
    ]
  ]

  -- the name of a row of an owner begins with the owner
  pub look_begins : (look : Look) → names_in look e o bytes ≡ true → BeginsWith o bytes
  unfolding names_in
  look_begins (Look.Keys keys) h = one_begins o keys bytes h
  look_begins (Look.Uuids us keys) h = elim (or_cases (names_by_uuid us e o bytes) (names_one o keys bytes) h) [
    | inl is ↦ uuid_begins us is
    | inr is ↦ one_begins o keys bytes is
  ]
  look_begins Look.Statements h = elim (or_cases (bytes_eq bytes (name o (event_key e))) (names_statement e o bytes) h) [
    | inl is ↦ named_begins o (event_key e) bytes is
    | inr is ↦ statement_begins is
  ]
  look_begins Look.All h = begun (uid o.0) bytes h

module _ (l : Looks) (bytes : List ℕ) (looked : is_name_looked l bytes ≡ true) where
  -- it begins with the bytes of its owner
  pub begins : BeginsWith (owner_in bytes) bytes
  unfolding is_name_looked
  begins = look_begins l.event (owner_in bytes) bytes (look_at l (owner_in bytes)) looked

  -- its owner has 16 bytes
  pub owner_fits : front_number bytes < 2 ^ 128
  owner_fits = subst (λ t. front_number t < 2 ^ 128) (sym begins.1) (number_fits (owner_in bytes).0 begins.0)
