-- What is written at one instance changes the tables of no other.
use Rattle.std.proofs.Common.{◌≡◌, true, false, ap, ◌∙◌, List, [], ◌∷◌, ◌++◌, refl, map, cond, leb, filter, ◌&&◌, not}
use Rattle.misp_history.proofs.Prelude.{Inst, Version, and_left, in_order, list_all, list_any, map_where, newest, newest_more, row_of, same_cell, same_inst, same_inst-sound, stands_before, tables}
use Rattle.misp_history.proofs.Putting.{row_of_more, here}
use Rattle.misp_history.proofs.Tables.{grown_where}

one_elsewhere : (log : List Version) (v : Version) (j : Inst) → same_inst v.at j ≡ false → tables (log ++ v ∷ []) j ≡ tables log j
unfolding tables
one_elsewhere log v j h =
    ap (λ us. in_order stands_before (map (row_of (log ++ v ∷ [])) us))
    (newest_more v log j
    ∙ ap (λ b. cond (b && not (list_any (λ a. same_cell a v && leb v.stamp a.stamp) log)) (filter (λ u. not (same_cell u v)) (newest log j) ++ v ∷ []) (newest log j)) h)
    ∙ ap (in_order stands_before) (map_where (row_of (log ++ v ∷ [])) (row_of log) (λ u. same_inst u.at j)
    (λ u e. row_of_more log v u (and_left _ _ (and_left _ _ (and_left _ _ (ap (same_inst v.at) (same_inst-sound u.at j e) ∙ h))))) (newest log j) (here log j))

pub tables_elsewhere : (i j : Inst) (vs log : List Version) → same_inst i j ≡ false → list_all (λ v. same_inst v.at i) vs ≡ true → tables (log ++ vs) j ≡ tables log j
tables_elsewhere i j vs log h a =
    grown_where (λ l. tables l j ≡ tables log j) (λ v. same_inst v.at i) (λ pre v e same. one_elsewhere pre v j (ap (λ x. same_inst x j) (same_inst-sound v.at i e) ∙ h) ∙ same) vs log a refl
