-- What the text of a synchronisation asks of whom, and by which causes it ends itself.
use Rattle.std.proofs.Common.{List, [], ◌∷◌, Option, None, Some, length, refl}
use Rattle.misp_ids.specs.declared.label.Direction.{Direction}
use Rattle.misp_groups.specs.declared.group.GroupFields.{GroupFields as Group}
use Rattle.misp_manifest.specs.declared.wanted.WantedFields.{WantedFields as Wanted}
use Rattle.misp_model.specs.declared.package.PackageFields.{PackageFields as Package}
use Rattle.misp_dialogue.specs.Dialogue.{Over, Ask}
use Rattle.misp_dialogue.specs.Shares.{EndsOnlyBy}
use Rattle.misp_dialogue.specs.declared.side.Side.{Side}
use Rattle.misp_protocol.specs.Asked.{AsksAsWanted, AsksOnly, IsAskWhere, IsAskedOf, IsGarbled, wanted_by}
use Rattle.misp_protocol.specs.Counts.{with_groups, with_taken}
use Rattle.misp_protocol.specs.Text.{Text, asking, counting, fetching, grouped, groups_in, handing, lacking, listed, listing, manifest_in, packages_in, packed, part_in, reads, synchronising, taken_in, taking, taking_groups, through}
use Rattle.misp_protocol.specs.declared.cause.Body.{Body}
use Rattle.misp_protocol.specs.declared.cause.Cause.{Cause}
use Rattle.misp_protocol.specs.declared.count.Tally.{Tally}
use Rattle.misp_protocol.specs.declared.part_keys.PartKeysFields.{PartKeysFields as PartKeys}
use Rattle.misp_protocol.specs.declared.request.Answer.{Answer}
use Rattle.misp_protocol.specs.declared.request.Request.{Request}

-- What holds where a text is over, and of a request that may be made if it holds however that is
-- answered. It may depend on what is wanted there.
pub record Steps (d : Direction) (P : Option Wanted → Text → Type 0) : Type 0 where
  pub over : (n : Tally) → P None (Over n None)
  pub garbled : (n : Tally) (kind : Body) → P None (Over n (Some (Cause.Garbled kind)))
  pub ask : (w : Option Wanted) (n : Tally) (side : Side) (q : Request) (more : Answer → Text)
      → IsAskedOf d side q → IsAskWhere w q → ((a : Answer) → P (wanted_by q a) (more a))
      → P w (Ask n side q more)

-- ---- requests of both directions

groups_are_asked : (d : Direction) → IsAskedOf d Side.Source Request.Groups
groups_are_asked Direction.Pull = tt
groups_are_asked Direction.Push = tt

groups_are_taken : (d : Direction) (groups : List Group)
    → IsAskedOf d Side.Sink (Request.TakeGroups groups)
groups_are_taken Direction.Pull groups = tt
groups_are_taken Direction.Push groups = tt

parts_are_taken : (d : Direction) (p : Package) → IsAskedOf d Side.Sink (Request.TakePart p)
parts_are_taken Direction.Pull p = tt
parts_are_taken Direction.Push p = tt

-- ---- it holds of each word of a text

module _ (d : Direction) (P : Option Wanted → Text → Type 0) (i : Steps d P) where
  pub reading : {A : Type 0} (n : Tally) (kind : Body) (x : Option A) (more : A → Text)
      → ((y : A) → P None (more y)) → P None (reads n kind x more)
  reading n kind None more rest = i.garbled n kind
  reading n kind (Some y) more rest = rest y

  pub taken : (n : Tally) (p : Package) (more : Tally → Text) → ((m : Tally) → P None (more m))
      → P None (taking n p more)
  taken n p more rest =
      i.ask None n Side.Sink (Request.TakePart p) (counting n p.event (length p.rows) more) (parts_are_taken d p) tt
      (λ a. reading n Body.Taken (taken_in (length p.rows) a) (λ k. more (with_taken n p.event k))
      (λ k. rest (with_taken n p.event k)))

  pub handed : (ps : List Package) (n : Tally) → P None (handing ps n)
  handed [] n = i.over n
  handed (p ∷ ps) n = taken n p (handing ps) (handed ps)

-- ---- parts, one after another

module _ (P : Option Wanted → Text → Type 0) (i : Steps Direction.Pull P) where
  fetched : (n : Tally) (w : Option Wanted) (more : Tally → Text) → ((m : Tally) → P None (more m))
      → P w (fetching n w more)
  fetched n None more rest = rest n
  fetched n (Some w) more rest =
      i.ask (Some w) n Side.Source (Request.Rows w) (packed n more) tt refl
      (λ a. reading Direction.Pull P i n Body.Package (part_in a) (λ p. taking n p more)
      (λ p. taken Direction.Pull P i n p more rest))

  lacked : (n : Tally) (k : PartKeys) (more : Tally → Text) (a : Answer) → ((m : Tally) → P None (more m))
      → P (wanted_by (Request.Missing k) a) (lacking n more a)
  lacked n k more (Answer.Groups groups) rest = i.garbled n Body.Body
  lacked n k more (Answer.Manifest parts) rest = i.garbled n Body.Body
  lacked n k more (Answer.Part p) rest = i.garbled n Body.Body
  lacked n k more (Answer.Packages ps) rest = i.garbled n Body.Body
  lacked n k more (Answer.Wanted w) rest = fetched n w more rest
  lacked n k more (Answer.Taken m) rest = i.garbled n Body.Body

  all_through : (ks : List PartKeys) (n : Tally) → P None (through ks n)
  all_through [] n = i.over n
  all_through (k ∷ ks) n =
      i.ask None n Side.Sink (Request.Missing k) (lacking n (through ks)) tt tt
      (λ a. lacked n k (through ks) a (all_through ks))

-- ---- the two

lists : (d : Direction) (P : Option Wanted → Text → Type 0) → Steps d P → (n : Tally) → P None (listing d n)
lists Direction.Pull P i n =
    i.ask None n Side.Source Request.Manifest (listed Direction.Pull n) tt tt
    (λ a. reading Direction.Pull P i n Body.Manifest (manifest_in a) (λ ks. through ks n)
    (λ ks. all_through P i ks n))
lists Direction.Push P i n =
    i.ask None n Side.Source Request.Packages (listed Direction.Push n) tt tt
    (λ a. reading Direction.Push P i n Body.Package (packages_in a) (λ ps. handing ps n)
    (λ ps. handed Direction.Push P i ps n))

-- so it holds of all of it
pub synchronises : (d : Direction) (P : Option Wanted → Text → Type 0) → Steps d P → (n : Tally)
    → P None (synchronising d n)
synchronises d P i n =
    i.ask None n Side.Source Request.Groups (asking d n) (groups_are_asked d) tt
    (λ a. reading d P i n Body.Groups (groups_in a) (taking_groups d n) (λ groups.
    i.ask None n Side.Sink (Request.TakeGroups groups) (grouped d n (length groups)) (groups_are_taken d groups) tt
    (λ b. reading d P i n Body.Taken (taken_in (length groups) b) (λ k. listing d (with_groups n k))
    (λ k. lists d P i (with_groups n k)))))

-- ---- laws

pub ends_garbled : (d : Direction) (n : Tally) → EndsOnlyBy IsGarbled (synchronising d n)
ends_garbled d n = synchronises d (λ w text. EndsOnlyBy IsGarbled text) (record {
  over = λ m. tt;
  garbled = λ m kind. tt;
  ask = λ w m side q more asked wanted rest. rest;
}) n

pub asks_each_side : (d : Direction) (n : Tally) → AsksOnly (IsAskedOf d) (synchronising d n)
asks_each_side d n = synchronises d (λ w text. AsksOnly (IsAskedOf d) text) (record {
  over = λ m. tt;
  garbled = λ m kind. tt;
  ask = λ w m side q more asked wanted rest. (asked, rest);
}) n

pub asks_as_wanted : (d : Direction) (n : Tally) → AsksAsWanted None (synchronising d n)
asks_as_wanted d n = synchronises d AsksAsWanted (record {
  over = λ m. refl;
  garbled = λ m kind. refl;
  ask = λ w m side q more asked wanted rest. (wanted, rest);
}) n
