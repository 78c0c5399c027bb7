-- What is kept of items that come one after another, of which those of one page are wanted.
use Rattle.std.specs.Prelude.{◌≡◌, ℕ, ◌*◌, ◌-◌, List, ◌++◌, length}
use Rattle.misp_search.specs.Page.{PageNumbers, page_of}

-- a page with those of its items that have come, and how many are still to come before it
pub record PageWindow (A : Type 0) : Type 0 where
  pub page : PageNumbers
  pub before : ℕ
  pub items : List A

-- WINDOW: what is kept of these items
unfoldable pub window_of : {A : Type 0} → PageNumbers → List A → PageWindow A
window_of p all = record {
  page = p;
  before = (p.number - 1) * p.size - length all;
  items = page_of p all;
}

-- HAS COME: these items have come, behind all that came before
unfoldable pub HaveCome : {A : Type 0} → List A → PageWindow A → PageWindow A → Type 0
HaveCome {A} more old new =
    (p : PageNumbers) (all : List A) → old ≡ window_of p all → new ≡ window_of p (all ++ more)
