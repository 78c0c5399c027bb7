-- What a request brings is the caller's, and of its act.
use Rattle.std.proofs.Common.{◌≡◌, true}
use Rattle.misp_history.proofs.Prelude.{Ask, Scene, as_published, brings, handed_in, let_out_row, list_all, same_org, same_org-refl, written}
use Rattle.misp_model.proofs.Owners.{brings_each}

-- what a request brings is the caller's
pub brings_own : (s : Scene) (a : Ask) → list_all (λ v. same_org v.owner s.by) (brings s a) ≡ true
unfolding written as_published let_out_row handed_in
brings_own s a = brings_each s (λ v. same_org v.owner s.by) (λ k t l c. same_org-refl s.by) (λ v h. h) (λ row. same_org-refl s.by) (λ row. same_org-refl s.by) a
