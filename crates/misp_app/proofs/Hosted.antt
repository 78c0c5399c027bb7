-- An instance that is served, or none where memory ran out before.
use Rattle.std.proofs.Common.{◌≡◌, ◌<◌, ◌≤◌, ◌+◌, ℕ, zero, suc, List, [], ◌∷◌, length, take, drop, drop-drop, Option, Some, None, Ok, Err, IfSome, IfOk, refl, sym, ◌∙◌, ap, subst, arith}
use Rattle.misp_outside.specs.Held.{Held}
use Rattle.misp_outside.specs.KeeperState.{state}
use Rattle.misp_outside.specs.Wires.{Connection}
use Rattle.misp_http.proofs.Sending.{appends_none}
use Rattle.misp_effects.specs.KeeperStates.{AreKept}
use Rattle.misp_core.specs.Prelude.{Host, KeeperState, Standing, Tell, host_of}
use Rattle.misp_script.specs.Faults.{Reading}
use Rattle.misp_net.specs.Opening.{opened_hosts}
use Rattle.misp_net.specs.Prelude.{Description, Tables, host_at}
use Rattle.misp_net.specs.declared.places.NetFault.{NetFault}
use Rattle.misp_net.proofs.Openings.{kept_or_opened}
use Rattle.misp_app.specs.Ends.{IsReadEnd}
use Rattle.misp_app.specs.Hosting.{HasLinesServed, HasServed, IsReady, OpensAs}
use Rattle.misp_app.specs.Source.{described, host_named}
use Rattle.misp_app.specs.Status.{HasKeepers, status_after}
use Rattle.misp_app.specs.Limits.{least_keepers}
use Rattle.misp_words.specs.Words.{Check, CommandData, Gen, Net, Serve, ServeData, Sync, command_data, serve_data}
use Rattle.misp_words.specs.declared.command.Command.{Command}
use Rattle.misp_words.specs.declared.command.ServeWords.{ServeWords}
use Rattle.misp_app.specs.declared.serving.ServeFault.TheVariants as faults
use Rattle.misp_app.specs.declared.status.Status.{Status}

-- what follows where none are served, since they are so many
pub drop_more : {X : Type 0} (n : ℕ) (a b : List X) → 0 < n → drop 1 a ≡ drop 1 b → drop n a ≡ drop n b
drop_more zero a b some same = absurd (omega (arith, some))
drop_more (suc k) a b some same =
    let one : 1 + k ≡ suc k = omega arith in
    subst (λ n. drop n a ≡ drop n b) one (sym (drop-drop k 1 a) ∙ ap (drop k) same ∙ drop-drop k 1 b)

-- ---- an instance as it opens

-- a host over a keeper that reports this
abbrev opened_over : Host → Option Held → Host
opened_over host None = host
opened_over host (Some held) = host_at 0 (opened_hosts (host ∷ []) (held ∷ []))

abbrev instance_over : Host → Option Held → ℕ → Standing
instance_over host held faults = record { name = host.name; admin = (opened_over host held).admin; held = held; faults = faults }

made_over : (host : Host) (held : Option Held) (faults : ℕ) (tables : Tables) → Tell (state held faults ∷ []) tables → host_of (instance_over host held faults) ∷ [] ≡ opened_hosts (host ∷ []) tables
made_over host held faults [] tell = absurd cc
made_over host held faults (now ∷ tables) tell =
    let is : held ≡ Some now = cc in
    rw is refl

opens_as : (host : Host) (held : Option Held) (faults : ℕ) → OpensAs host (instance_over host held faults)
opens_as host held faults = record { names = refl; made = λ tables tell all. made_over host held faults tables tell }

-- ---- no connection was served

module _ (time count word : ℕ) (back coming : List Connection) (now next : Option ℕ) (given left : Option (List Connection)) (before : Option (List ℕ))
    (ready : IsReady time word back coming now next given left) where
  -- no connection was served, over a keeper that tells what it told
  pub none_served : (host : Host) (old new : List KeeperState) → 0 < length new → AreKept old (take 1 new)
      → HasServed host time count word back coming old (take 1 new) next given left before before Status.OutOfMemory
  none_served host old [] some kept = absurd (omega (arith, some))
  none_served host old (s ∷ new) some kept =
      let i : Standing = instance_over host s.held s.faults in
      record {
        start = i;
        end = i;
        how = Err faults.OutOfMemory;
        host_is = opens_as host s.held s.faults;
        begun = kept_or_opened _ _ kept;
        opened = λ more. absurd (more refl);
        closed = refl;
        sound = λ more. absurd (more refl);
        how_is = refl;
        served = (0, record { instance = i; word = word; back = back }, coming, [], omega arith, (refl, refl, refl), record { instance_is = refl; word_is = ready.word_is; back_is = ready.back_is }, ready.coming_is, (0, appends_none before));
      }

  -- whatever instance was meant
  pub none_named : (o : Option Host) (old new : List KeeperState) → 0 < length new → AreKept old (take 1 new)
      → IfSome o (λ host. HasServed host time count word back coming old (take 1 new) next given left before before Status.OutOfMemory)
  none_named None old new some kept = tt
  none_named (Some host) old new some kept = none_served host old new some kept

  pub none_described : (read : Reading Description) (name : List ℕ) (old new : List KeeperState) → 0 < length new → AreKept old (take 1 new)
      → IfOk read (λ net. IfSome (host_named name net) (λ host. HasServed host time count word back coming old (take 1 new) next given left before before Status.OutOfMemory))
  none_described (Ok net) name old new some kept = none_named (host_named name net) old new some kept
  none_described (Err fault) name old new some kept = tt

  pub none_read : (o : Option (List ℕ)) (name : List ℕ) (old new : List KeeperState) → 0 < length new → AreKept old (take 1 new)
      → IfSome o (λ source. IfOk (described source) (λ net. IfSome (host_named name net) (λ host. HasServed host time count word back coming old (take 1 new) next given left before before Status.OutOfMemory)))
  none_read None name old new some kept = tt
  none_read (Some source) name old new some kept = none_described (described source) name old new some kept

-- where an instance did not open, and lines may be served, memory ran out
pub memory_alone : (fault : NetFault) (status : Status) → status ≡ status_after fault → HasLinesServed status → status ≡ Status.OutOfMemory
memory_alone NetFault.KeeperFault status is has = absurd (subst HasLinesServed is has)
memory_alone NetFault.BadRow status is has = absurd (subst HasLinesServed is has)
memory_alone NetFault.NoMemory status is has = is

-- and so it did where a source was not read to its end
pub unread_memory : (status : Status) → IsReadEnd status → HasLinesServed status → status ≡ Status.OutOfMemory
unread_memory Status.ReadFault end has = absurd has
unread_memory Status.TooMuch end has = absurd has
unread_memory Status.OutOfMemory end has = refl
unread_memory Status.Done end has = absurd end
unread_memory Status.Stopped end has = absurd end
unread_memory Status.Usage end has = absurd end
unread_memory Status.WriteFault end has = absurd end
unread_memory Status.BadDescription end has = absurd end
unread_memory Status.NoSuchInstance end has = absurd end
unread_memory Status.DoorFault end has = absurd end
unread_memory Status.KeeperFault end has = absurd end
unread_memory Status.BadRow end has = absurd end

-- what holds of what these bytes describe, by the words that were read
pub served_here : (o : Option (List ℕ)) (bytes here : List ℕ) (asked given : ServeData) (P : ServeData → Description → Type 0)
    → IfSome o (λ left. bytes ≡ left) → here ≡ bytes → given ≡ asked → IfOk (described here) (P given) → IfSome o (λ left. IfOk (described left) (P asked))
served_here None bytes here asked given P is same words holds = tt
served_here (Some left) bytes here asked given P is same words holds =
    subst (λ d. IfOk (described left) (P d)) words (subst (λ b. IfOk (described b) (P given)) (same ∙ is) holds)

-- the words of a command are those that it was read from
pub words_read : (o : Option CommandData) (asked : ServeData) (command : Command) (words : ServeWords) → o ≡ Some (Serve asked) → o ≡ Some (command_data command)
    → command ≡ Command.Serve words → serve_data words ≡ asked
words_read o asked command words is read kind =
    let told : Some (Serve asked) ≡ Some (command_data command) = sym is ∙ read in
    let known : command_data command ≡ Serve (serve_data words) = ap command_data kind in
    cc

-- they are not those of a check
pub serves_unchecked : (o : Option CommandData) (command : Command) (words : ServeWords) → o ≡ Some (command_data command) → command ≡ Command.Serve words → o ≡ Some Check → ⊥
serves_unchecked o command words read kind check =
    let told : Some Check ≡ Some (command_data command) = sym check ∙ read in
    let known : command_data command ≡ Serve (serve_data words) = ap command_data kind in
    let no_ : Check ≡ Serve (serve_data words) = cc in
    cc

-- and there is a keeper for it
pub one_keeper : (o : Option CommandData) (asked : ServeData) (count : ℕ) → o ≡ Some (Serve asked) → HasKeepers o count → 0 < count
one_keeper o asked count is some = subst (λ command. HasKeepers command count) is some

-- as many as a description has instances at most are enough for each command
pub enough_keepers : (o : Option CommandData) (count : ℕ) → least_keepers ≤ count → HasKeepers o count
enough_keepers None count some = some
enough_keepers (Some Net) count some = some
enough_keepers (Some Check) count some = some
enough_keepers (Some (Serve words)) count some = omega (arith, some)
enough_keepers (Some (Sync words)) count some = omega (arith, some)
enough_keepers (Some (Gen events)) count some = some
