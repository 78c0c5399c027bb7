-- Readers and writers of fields that undo each other, and how larger ones are made of them.
use Rattle.std.proofs.Common.{◌≡◌, ℕ, Bool, true, false, cond, eqb, length, List, [], ◌∷◌, ◌++◌, Result, Ok, Err, refl, sym, ap, subst, ◌∙◌, append_assoc, ◌⊎◌, inl, inr, append-nil, eqb-true}
use Rattle.std.proofs.lemmas.List.{nil_from_length}
use Rattle.misp_lists.proofs.Bytes.{IsBytes}
pub use Rattle.misp_lists.proofs.Readings.{bind_ok}
use Rattle.misp_elem.specs.Reading.{Reading, ◌>>=◌, ended}

-- a test that did not fail
pub guard_ok : {A : Type 0} (b : Bool) (d : ℕ) (r : Result A ℕ) (y : A) → cond b (Err d) r ≡ Ok y → (b ≡ false) × (r ≡ Ok y)
guard_ok true d r y e = absurd cc
guard_ok false d r y e = (refl, e)

abbrev done : {A : Type 0} → A → Result A ℕ
done x = Ok x

pub ok_is : {A : Type 0} (x y : A) → done x ≡ done y → x ≡ y
ok_is x y e = cc

-- a test that was passed
pub keep_ok : {A : Type 0} (b : Bool) (d : ℕ) (x y : A) → cond b (Ok x) (Err d) ≡ Ok y → (b ≡ true) × (x ≡ y)
keep_ok true d x y e = (refl, cc)
keep_ok false d x y e = absurd cc

pub no_error : {A : Type 0} (d : ℕ) (y : A) → Err d ≡ Ok y → ⊥
no_error d y e = cc

-- which way a test went
pub chosen : {A : Type 0} (b : Bool) (x y z : A) → cond b x y ≡ z → ((b ≡ true) × (x ≡ z)) ⊎ ((b ≡ false) × (y ≡ z))
chosen true x y z e = inl (refl, e)
chosen false x y z e = inr (refl, e)

-- what a reader took from the front
pub record Takes (bytes text rest : List ℕ) : Type 0 where
  pub parts : bytes ≡ text ++ rest
  pub rest_fits : IsBytes rest

pub Takes-then : (a x b y c : List ℕ) → Takes a x b → Takes b y c → Takes a (x ++ y) c
Takes-then a x b y c p q = record { parts = p.parts ∙ ap (λ (t : List ℕ). x ++ t) q.parts ∙ sym (append_assoc x y c); rest_fits = q.rest_fits }

-- What is read is written so, and what was written is read again.
pub record IsField {A : Type 0} (Is : A → Type 0) (write : A → List ℕ) (read : List ℕ → Reading A) : Type 0 where
  pub takes : (bytes : List ℕ) (a : A) (rest : List ℕ) → IsBytes bytes → read bytes ≡ Ok (a, rest) → Is a × Takes bytes (write a) rest
  pub again : (a : A) (rest : List ℕ) → Is a → read (write a ++ rest) ≡ Ok (a, rest)

-- The same of a value that is made of parts, which are what is written.
pub record IsMade {A B : Type 0} (Is : A → Type 0) (make : A → B) (write : A → List ℕ) (read : List ℕ → Reading B) : Type 0 where
  pub takes : (bytes : List ℕ) (b : B) (rest : List ℕ) → IsBytes bytes → read bytes ≡ Ok (b, rest) → (a : A) × (make a ≡ b) × Is a × Takes bytes (write a) rest
  pub again : (a : A) (rest : List ℕ) → Is a → read (write a ++ rest) ≡ Ok (make a, rest)

-- the last field
pub last : {A B : Type 0} {Is : A → Type 0} {write : A → List ℕ} {read : List ℕ → Reading A} (make : A → B) → IsField Is write read
    → IsMade Is make write (λ bytes. read bytes >>= λ x. Ok (make x.0, x.1))
last {A} {B} {Is} {write} {read} make field = record {
  takes = λ bytes b rest fits e.
      let s = bind_ok (read bytes) (λ x. Ok (make x.0, x.1)) (b, rest) e in
      let is = ok_is (make s.0.0, s.0.1) (b, rest) s.2 in
      let t = field.takes bytes s.0.0 s.0.1 fits s.1 in
      (s.0.0, ap (λ (p : B × List ℕ). p.0) is, t.0, subst (λ (r : List ℕ). Takes bytes (write s.0.0) r) (ap (λ (p : B × List ℕ). p.1) is) t.1);
  again = λ a rest h. ap (λ r. r >>= λ x. Ok (make x.0, x.1)) (field.again a rest h);
}

-- a field that says how the others are written
pub told : {A B C : Type 0} {IsA : A → Type 0} {write_a : A → List ℕ} {read_a : List ℕ → Reading A} {IsB : A → B → Type 0} {write_b : A → B → List ℕ} {make : A → B → C} {others : A → List ℕ → Reading C}
    → IsField IsA write_a read_a → ((a : A) → IsMade (IsB a) (make a) (write_b a) (others a))
    → IsMade (λ (p : A × B). IsA p.0 × IsB p.0 p.1) (λ p. make p.0 p.1) (λ p. write_a p.0 ++ write_b p.0 p.1) (λ bytes. read_a bytes >>= λ x. others x.0 x.1)
told {A} {B} {C} {IsA} {write_a} {read_a} {IsB} {write_b} {make} {others} field rest_made = record {
  takes = λ bytes c rest fits e.
      let s = bind_ok (read_a bytes) (λ x. others x.0 x.1) (c, rest) e in
      let t = field.takes bytes s.0.0 s.0.1 fits s.1 in
      let u = (rest_made s.0.0).takes s.0.1 c rest t.1.rest_fits s.2 in
      ((s.0.0, u.0), u.1, (t.0, u.2), Takes-then bytes (write_a s.0.0) s.0.1 (write_b s.0.0 u.0) rest t.1 u.3);
  again = λ p rest h.
      ap (λ bytes. read_a bytes >>= λ x. others x.0 x.1) (append_assoc (write_a p.0) (write_b p.0 p.1) rest)
      ∙ ap (λ r. r >>= λ x. others x.0 x.1) (field.again p.0 (write_b p.0 p.1 ++ rest) h.0) ∙ (rest_made p.0).again p.1 rest h.1;
}

-- a field before others
pub first : {A B C : Type 0} {IsA : A → Type 0} {write_a : A → List ℕ} {read_a : List ℕ → Reading A} {IsB : A → B → Type 0} {write_b : B → List ℕ} {make : A → B → C} {others : A → List ℕ → Reading C}
    → IsField IsA write_a read_a → ((a : A) → IsMade (IsB a) (make a) write_b (others a))
    → IsMade (λ (p : A × B). IsA p.0 × IsB p.0 p.1) (λ p. make p.0 p.1) (λ p. write_a p.0 ++ write_b p.1) (λ bytes. read_a bytes >>= λ x. others x.0 x.1)
first {A} {B} {C} {IsA} {write_a} {read_a} {IsB} {write_b} {make} {others} field rest_made = told {write_b = λ a b. write_b b} field rest_made

-- parts that a value gives back make a field of it; it gives them back where it is one
pub whole_where : {A B : Type 0} {IsA : A → Type 0} {make : A → B} {write_a : A → List ℕ} {read : List ℕ → Reading B} (parts : B → A) (Is : B → Type 0) (write : B → List ℕ)
    → ((b : B) → Is b → make (parts b) ≡ b) → ((b : B) → Is b → IsA (parts b)) → ((a : A) → IsA a → Is (make a)) → ((a : A) → IsA a → write (make a) ≡ write_a a)
    → IsMade IsA make write_a read → IsField Is write read
whole_where {A} {B} {IsA} {make} {write_a} {read} parts Is write back to_parts from_parts same made = record {
  takes = λ bytes b rest fits e.
      let t = made.takes bytes b rest fits e in
      subst (λ (y : B). Is y × Takes bytes (write y) rest) t.1 (from_parts t.0 t.2, subst (λ (text : List ℕ). Takes bytes text rest) (sym (same t.0 t.2)) t.3);
  again = λ b rest h.
      let text : write b ≡ write_a (parts b) = ap write (sym (back b h)) ∙ same (parts b) (to_parts b h) in
      ap (λ (w : List ℕ). read (w ++ rest)) text ∙ made.again (parts b) rest (to_parts b h) ∙ ap (λ (y : B). Ok (y, rest)) (back b h);
}

-- the same of one that always gives them back
pub whole : {A B : Type 0} {IsA : A → Type 0} {make : A → B} {write_a : A → List ℕ} {read : List ℕ → Reading B} (parts : B → A) (Is : B → Type 0) (write : B → List ℕ)
    → ((b : B) → make (parts b) ≡ b) → ((b : B) → Is b → IsA (parts b)) → ((a : A) → IsA a → Is (make a)) → ((a : A) → IsA a → write (make a) ≡ write_a a)
    → IsMade IsA make write_a read → IsField Is write read
whole parts Is write back to_parts from_parts same made = whole_where parts Is write (λ b h. back b) to_parts from_parts same made

-- a value that a byte in front tells from others
pub cased : {A B : Type 0} {IsA : A → Type 0} {make : A → B} {write_a : A → List ℕ} {read : List ℕ → Reading B} (Is : B → Type 0) (write : B → List ℕ) (tag kind : ℕ)
    → IsMade IsA make write_a read → kind ≡ tag → ((a : A) → IsA a → Is (make a)) → ((a : A) → write (make a) ≡ tag ∷ write_a a)
    → (after : List ℕ) (b : B) (rest : List ℕ) → IsBytes after → read after ≡ Ok (b, rest) → Is b × Takes (kind ∷ after) (write b) rest
cased {A} {B} {IsA} {make} {write_a} {read} Is write tag kind made is from_parts same after b rest fits e =
    let t = made.takes after b rest fits e in
    let parts : kind ∷ after ≡ write (make t.0) ++ rest = ap (λ (k : ℕ). k ∷ after) is ∙ ap (λ (bs : List ℕ). tag ∷ bs) t.3.parts ∙ ap (λ (w : List ℕ). w ++ rest) (sym (same t.0)) in
    subst (λ (y : B). Is y × Takes (kind ∷ after) (write y) rest) t.1 (from_parts t.0 t.2, record { parts = parts; rest_fits = t.3.rest_fits })

-- a field that is all of the bytes
ended_ok : {A : Type 0} (x : A × List ℕ) (a : A) → ended x ≡ Ok a → (x.1 ≡ []) × (x.0 ≡ a)
ended_ok x a e =
    let k = keep_ok (eqb (length x.1) 0) (length x.1) x.0 a e in
    (nil_from_length x.1 (eqb-true _ _ k.0), k.1)

-- the same of a value that is made of parts
pub all_made : {A B : Type 0} {Is : A → Type 0} {make : A → B} {write : A → List ℕ} {read : List ℕ → Reading B} → IsMade Is make write read
    → (bytes : List ℕ) (b : B) → IsBytes bytes → (read bytes >>= λ x. ended x) ≡ Ok b → (a : A) × (make a ≡ b) × Is a × (bytes ≡ write a)
all_made {A} {B} {Is} {make} {write} {read} made bytes b fits e =
    let s = bind_ok (read bytes) (λ x. ended x) b e in
    let t = made.takes bytes s.0.0 s.0.1 fits s.1 in
    let nothing = ended_ok s.0 b s.2 in
    (t.0, t.1 ∙ nothing.1, t.2, t.3.parts ∙ ap (λ (r : List ℕ). write t.0 ++ r) nothing.0 ∙ append-nil (write t.0))

pub made_again : {A B : Type 0} {Is : A → Type 0} {make : A → B} {write : A → List ℕ} {read : List ℕ → Reading B} → IsMade Is make write read
    → (a : A) → Is a → (read (write a) >>= λ x. ended x) ≡ Ok (make a)
made_again {A} {B} {Is} {make} {write} {read} made a h =
    ap (λ bytes. read bytes >>= λ x. ended x) (sym (append-nil (write a))) ∙ ap (λ r. r >>= λ x. ended x) (made.again a [] h)

pub all_takes : {A : Type 0} {Is : A → Type 0} {write : A → List ℕ} {read : List ℕ → Reading A} → IsField Is write read
    → (bytes : List ℕ) (a : A) → IsBytes bytes → (read bytes >>= λ x. ended x) ≡ Ok a → Is a × (bytes ≡ write a)
all_takes {A} {Is} {write} {read} field bytes a fits e =
    let s = bind_ok (read bytes) (λ x. ended x) a e in
    let t = field.takes bytes s.0.0 s.0.1 fits s.1 in
    let nothing = ended_ok s.0 a s.2 in
    subst (λ (y : A). Is y × (bytes ≡ write y)) nothing.1 (t.0, t.1.parts ∙ ap (λ (r : List ℕ). write s.0.0 ++ r) nothing.0 ∙ append-nil (write s.0.0))

pub all_again : {A : Type 0} {Is : A → Type 0} {write : A → List ℕ} {read : List ℕ → Reading A} → IsField Is write read
    → (a : A) → Is a → (read (write a) >>= λ x. ended x) ≡ Ok a
all_again {A} {Is} {write} {read} field a h =
    ap (λ bytes. read bytes >>= λ x. ended x) (sym (append-nil (write a))) ∙ ap (λ r. r >>= λ x. ended x) (field.again a [] h)

-- a value that nothing spells
pub nothing : {B : Type 0} (b : B) → IsMade {A = Unit {0}} (λ _. Unit {0}) (λ _. b) (λ _. []) (λ bytes. Ok (b, bytes))
nothing {B} b = record {
  takes = λ bytes c rest fits e.
      let is = ok_is (b, bytes) (c, rest) e in
      (tt, ap (λ (p : B × List ℕ). p.0) is, tt, subst (λ (r : List ℕ). Takes bytes [] r) (ap (λ (p : B × List ℕ). p.1) is) (record { parts = refl; rest_fits = fits }));
  again = λ a rest h. refl;
}

-- a value that is the field itself
pub itself : {A : Type 0} {Is : A → Type 0} {write : A → List ℕ} {read : List ℕ → Reading A} → IsField Is write read → IsMade Is (λ a. a) write read
itself field = record {
  takes = λ bytes a rest fits e. let t = field.takes bytes a rest fits e in (a, refl, t.0, t.1);
  again = λ a rest h. field.again a rest h;
}

-- a field that passes a test
pub tested : {A : Type 0} {Is : A → Type 0} {write : A → List ℕ} {read : List ℕ → Reading A} (test : A → Bool) → IsField Is write read
    → IsField (λ a. Is a × (test a ≡ true)) write (λ bytes. read bytes >>= λ x. cond (test x.0) (Ok x) (Err (length bytes)))
tested {A} {Is} {write} {read} test field = record {
  takes = λ bytes a rest fits e.
      let s = bind_ok (read bytes) (λ x. cond (test x.0) (Ok x) (Err (length bytes))) (a, rest) e in
      let k = keep_ok (test s.0.0) (length bytes) s.0 (a, rest) s.2 in
      let t = field.takes bytes s.0.0 s.0.1 fits s.1 in
      subst (λ (x : A × List ℕ). (Is x.0 × (test x.0 ≡ true)) × Takes bytes (write x.0) x.1) k.1 ((t.0, k.0), t.1);
  again = λ a rest h.
      ap (λ r. r >>= λ x. cond (test x.0) (Ok x) (Err (length (write a ++ rest)))) (field.again a rest h.0) ∙ ap (λ b. cond b (Ok (a, rest)) (Err (length (write a ++ rest)))) h.1;
}

-- the same field under another name of its facts
pub under : {A : Type 0} {Is : A → Type 0} {write : A → List ℕ} {read : List ℕ → Reading A} (Named : A → Type 0) → ((a : A) → Is a → Named a) → ((a : A) → Named a → Is a)
    → IsField Is write read → IsField Named write read
under Named to from field = record {
  takes = λ bytes a rest fits e. let t = field.takes bytes a rest fits e in (to a t.0, t.1);
  again = λ a rest h. field.again a rest (from a h);
}
