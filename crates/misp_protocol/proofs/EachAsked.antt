-- A pull asks about each part that is listed, and a push hands in each package.
use Rattle.std.proofs.Common.{List, [], ◌∷◌, Option, None, Some, length, refl}
use Rattle.misp_ids.specs.declared.label.Direction.{Direction}
use Rattle.misp_manifest.specs.declared.wanted.WantedFields.{WantedFields as Wanted}
use Rattle.misp_model.specs.declared.package.PackageFields.{PackageFields as Package}
use Rattle.misp_protocol.specs.Asked.{AsksAboutEach, HandsInEach, packages_left, parts_left}
use Rattle.misp_protocol.specs.Counts.{with_groups, with_taken}
use Rattle.misp_protocol.specs.Text.{Text, fetching, groups_in, handing, listed, listing, part_in, reads, synchronising, taken_in, taking, taking_groups, through, wanted_in}
use Rattle.misp_protocol.specs.declared.cause.Body.{Body}
use Rattle.misp_protocol.specs.declared.count.Tally.{Tally}
use Rattle.misp_protocol.specs.declared.part_keys.PartKeysFields.{PartKeysFields as PartKeys}
use Rattle.misp_protocol.specs.declared.request.Answer.{Answer}
use Rattle.misp_protocol.specs.declared.request.Request.{Request}

-- ---- a pull

about_read : {A : Type 0} (ks : List PartKeys) (n : Tally) (kind : Body) (x : Option A) (more : A → Text)
    → ((y : A) → AsksAboutEach ks (more y)) → AsksAboutEach ks (reads n kind x more)
about_read ks n kind None more rest = tt
about_read ks n kind (Some y) more rest = rest y

about_taken : (ks : List PartKeys) (n : Tally) (p : Package) (more : Tally → Text)
    → ((m : Tally) → AsksAboutEach ks (more m)) → AsksAboutEach ks (taking n p more)
about_taken ks n p more rest = (
  tt,
  λ a. about_read ks n Body.Taken (taken_in (length p.rows) a) (λ k. more (with_taken n p.event k))
      (λ k. rest (with_taken n p.event k)),
)

about_fetched : (ks : List PartKeys) (n : Tally) (w : Option Wanted) (more : Tally → Text)
    → ((m : Tally) → AsksAboutEach ks (more m)) → AsksAboutEach ks (fetching n w more)
about_fetched ks n None more rest = rest n
about_fetched ks n (Some w) more rest =
    (tt, λ a. about_read ks n Body.Package (part_in a) (λ p. taking n p more) (λ p. about_taken ks n p more rest))

about_through : (ks : List PartKeys) (n : Tally) → AsksAboutEach ks (through ks n)
about_through [] n = refl
about_through (k ∷ ks) n = (
  refl,
  λ a. about_read ks n Body.Body (wanted_in a) (λ w. fetching n w (through ks))
      (λ w. about_fetched ks n w (through ks) (about_through ks)),
)

about_listed : (n : Tally) (a : Answer)
    → AsksAboutEach (parts_left Request.Manifest a []) (listed Direction.Pull n a)
about_listed n (Answer.Groups groups) = tt
about_listed n (Answer.Manifest parts) = about_through parts n
about_listed n (Answer.Part p) = tt
about_listed n (Answer.Packages ps) = tt
about_listed n (Answer.Wanted w) = tt
about_listed n (Answer.Taken k) = tt

pub asks_about_each : (n : Tally) → AsksAboutEach [] (synchronising Direction.Pull n)
asks_about_each n = (
  tt,
  λ a. about_read [] n Body.Groups (groups_in a) (taking_groups Direction.Pull n) (λ groups. (
    tt,
    λ b. about_read [] n Body.Taken (taken_in (length groups) b)
        (λ k. listing Direction.Pull (with_groups n k)) (λ k. (tt, λ c. about_listed (with_groups n k) c)),
  )),
)

-- ---- a push

hand_read : {A : Type 0} (ps : List Package) (n : Tally) (kind : Body) (x : Option A) (more : A → Text)
    → ((y : A) → HandsInEach ps (more y)) → HandsInEach ps (reads n kind x more)
hand_read ps n kind None more rest = tt
hand_read ps n kind (Some y) more rest = rest y

hand_each : (ps : List Package) (n : Tally) → HandsInEach ps (handing ps n)
hand_each [] n = refl
hand_each (p ∷ ps) n = (
  refl,
  λ a. hand_read ps n Body.Taken (taken_in (length p.rows) a) (λ k. handing ps (with_taken n p.event k))
      (λ k. hand_each ps (with_taken n p.event k)),
)

hand_listed : (n : Tally) (a : Answer)
    → HandsInEach (packages_left Request.Packages a []) (listed Direction.Push n a)
hand_listed n (Answer.Groups groups) = tt
hand_listed n (Answer.Manifest parts) = tt
hand_listed n (Answer.Part p) = tt
hand_listed n (Answer.Packages ps) = hand_each ps n
hand_listed n (Answer.Wanted w) = tt
hand_listed n (Answer.Taken k) = tt

pub hands_in_each : (n : Tally) → HandsInEach [] (synchronising Direction.Push n)
hands_in_each n = (
  tt,
  λ a. hand_read [] n Body.Groups (groups_in a) (taking_groups Direction.Push n) (λ groups. (
    tt,
    λ b. hand_read [] n Body.Taken (taken_in (length groups) b)
        (λ k. listing Direction.Push (with_groups n k)) (λ k. (tt, λ c. hand_listed (with_groups n k) c)),
  )),
)
