-- What opening instances over keepers leaves of these, and what keeps the instances of a
-- description from opening, or stops the run of a script.
use Rattle.std.specs.Prelude.{◌≡◌, ◌≤◌, ◌⊎◌, List, [], ◌∷◌, true, map, Option, option_map}
use Rattle.std.specs.List.{AllZip}
use Rattle.misp_outside.specs.KeeperState.{state}
use Rattle.misp_outside.specs.Reporting.{WhereReported}
use Rattle.misp_admins.specs.Made.{with_items}
use Rattle.misp_admin_rows.specs.Rows.{items_in}
use Rattle.misp_effects.specs.KeeperStates.{AllReport, OneFailed, Tables}
use Rattle.misp_store.specs.Renewing.{renewed}
use Rattle.misp_store.specs.Sharing.{may_be_unsound}
use Rattle.misp_core.specs.Prelude.{Host, KeeperState, Tell}
use Rattle.misp_net.specs.Asking.{names_of}
use Rattle.misp_net.specs.Lines.{Line}
use Rattle.misp_net.specs.Passing.{Trail}
use Rattle.misp_net.specs.Promise.{IsCut}
use Rattle.misp_net.specs.declared.places.NetFault.{NetFault}

-- ---- what is held once instances are open

-- the keeper of an instance as it opens: what it reports is renewed, which says the same
abbrev pub opened_state : KeeperState → KeeperState
opened_state s = state (option_map renewed s.held) s.faults

-- the same of each
abbrev pub opened_states : List KeeperState → List KeeperState
opened_states old = map opened_state old

-- what a keeper holds stays, or is that renewed, and its count of faults did not fall
pub record IsKeptOrOpened (old new : KeeperState) : Type 0 where
  pub held : WhereReported old.held new.held (λ held now. (now ≡ held) ⊎ (now ≡ renewed held))
  pub later : old.faults ≤ new.faults

-- that is so of each
abbrev pub AreKeptOrOpened : List KeeperState → List KeeperState → Type 0
AreKeptOrOpened old new = AllZip IsKeptOrOpened old new

-- ---- which instances open

-- what is set up at each instance with what its keeper holds of it
abbrev pub opened_hosts : List Host → Tables → List Host
opened_hosts [] tables = []
opened_hosts (h ∷ hosts) [] = []
opened_hosts (h ∷ hosts) (held ∷ tables) =
    (record h { admin = with_items h.admin (items_in held.admin) }) ∷ opened_hosts hosts tables

-- The instances that open have the described names. Where all keepers report what they hold, before
-- and after, they are the described ones with what is held of what was made.
pub record AreOpened (described : List Host) (old new : List KeeperState) (hosts : List Host)
    : Type 0 where
  pub names : names_of hosts ≡ names_of described
  pub made : (tables : Tables) → Tell old tables → AllReport new
      → hosts ≡ opened_hosts described tables

-- ---- why lines are not run

-- no line was run
abbrev pub IsUnopened : NetFault → Type 0
IsUnopened NetFault.KeeperFault = Unit {0}
IsUnopened NetFault.BadRow = Unit {0}
IsUnopened NetFault.NoMemory = ⊥

-- memory ran out before any line, with some instances open, or after some first lines
abbrev pub IsCutShort : List Host → List Line → List KeeperState → List KeeperState
    → Option Trail → Option Trail → Type 0
IsCutShort described lines old new before after =
    (AreKeptOrOpened old new × (after ≡ before))
    ⊎ ((hosts : List Host) × AreOpened described (opened_states old) new hosts
    × IsCut hosts lines (opened_states old) new before after)

-- the count of a keeper rose; or one holds a row that is none, as far as it tells; or memory ran
-- out
abbrev pub IsStoppedBy : List Host → List Line → List KeeperState → List KeeperState
    → Option Trail → Option Trail → NetFault → Type 0
IsStoppedBy described lines old new before after NetFault.KeeperFault = OneFailed old new
IsStoppedBy described lines old new before after NetFault.BadRow = may_be_unsound new ≡ true
IsStoppedBy described lines old new before after NetFault.NoMemory =
    IsCutShort described lines old new before after
