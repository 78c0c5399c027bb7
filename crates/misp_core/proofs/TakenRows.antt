-- What is held where the rows that are taken of a package are put.
use Rattle.std.proofs.Common.{◌≡◌, ◌<◌, List, [], ◌∷◌, length, refl, ap, ◌∙◌, Option, Result, Ok, Err, OnOk, OnErr, arith}
use Rattle.misp_effects.specs.Batches.{batch}
use Rattle.misp_effects.specs.Prelude.{put_admins, put_groups, with_batch}
use Rattle.misp_outside.specs.Held.{put_rows}
use Rattle.misp_outside.specs.Reporting.{WhereReported}
use Rattle.misp_outside.proofs.Reporting.{reported_same}
use Rattle.misp_store.specs.Prelude.{Batch}
use Rattle.misp_store.proofs.Storable.{none_put}
use Rattle.misp_core.specs.Planning.{batch_of}
use Rattle.misp_core.specs.Prelude.{Group, Held, Row}
use Rattle.misp_core.specs.Taking.{with_rows}
use Rattle.misp_core.specs.declared.planning.Batch.{Batch as Put}

-- where no rows are put what is held stays
no_rows_one : (held : Held) (rows : List Row) → length rows < 1 → held ≡ with_rows rows held
unfolding with_batch put_rows put_admins
no_rows_one held [] h = refl
no_rows_one held (r ∷ rows) h = absurd (omega arith)

pub none_put_held : (held : Option Held) (rows : List Row) → length rows < 1 → WhereReported held held (λ held now. now ≡ with_rows rows held)
none_put_held held rows h = reported_same held held (λ held now. now ≡ with_rows rows held) refl (λ held. no_rows_one held rows h)

-- rows alone change no groups
pub groups_stay : {E : Type 0} (result : Result (Unit {0}) E) (put : Put) (rows : List Row) (old new : List Group) → batch_of put ≡ batch rows []
    → OnOk result (new ≡ put_groups old put.groups) → OnErr result (new ≡ old) → new ≡ old
groups_stay (Ok done) put rows old new is of_put of_none = of_put ∙ ap (λ (b : Batch). put_groups old b.groups) is ∙ none_put old
groups_stay (Err stop) put rows old new is of_put of_none = of_none
