-- What a keeper reports over a connection.
use Rattle.std.proofs.Common.{◌≡◌, true, false, refl, ap, ◌∙◌, IsTrue, Some}
use Rattle.sqlite_trees.specs.declared.store.Store.{Ghosts}
use Rattle.sqlite.specs.Held.{Held as Connection, state}
use Rattle.sqlite.specs.State.{State, HasCleanDisk}
use Rattle.sqlite.proofs.StateLemmas.{clean_if_open}
use Rattle.misp_lists.specs.Order.{ascend}
use Rattle.misp_lists.proofs.Prelude.{and_from}
use Rattle.misp_outside.specs.Held.{Held, comes_before, nothing_held}
use Rattle.misp_sqlite.specs.Standing.{held_of, is_apart, kept_of}

-- an open connection whose table has no rows is reported
pub reports_none : (s : State) → IsTrue s.is_open → kept_of s ≡ nothing_held → held_of s ≡ Some nothing_held
unfolding ascend nothing_held
reports_none s is_open none =
    let empty : ascend comes_before nothing_held.rows ≡ true = refl in
    let apart : IsTrue (is_apart s) = ap (λ (held : Held). ascend comes_before held.rows) none ∙ empty in
    rw (and_from s.is_open (is_apart s) is_open apart) (ap Some none)

-- a connection that is open is over a clean store
pub clean_store : {S : Type 0} (g : Ghosts S) (h : Connection S) → ((g.view h.store).is_clean ≡ false → (g.view h.store).is_open ≡ false) → IsTrue (state g h).is_open → HasCleanDisk (state g h)
clean_store g h law is_open = clean_if_open (g.view h.store) law is_open
