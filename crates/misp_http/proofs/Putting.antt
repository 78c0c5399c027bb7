-- What is put after what was put.
use Rattle.std.proofs.Common.{◌≡◌, ℕ, List, ◌++◌, ap, ◌∙◌, append_assoc}

joined : (o x y a b : List ℕ) → a ≡ o ++ x → b ≡ a ++ y → b ≡ o ++ (x ++ y)
joined o x y a b first next = next ∙ ap (λ l. l ++ y) first ∙ append_assoc o x y

pub joined_6 : (o s k l c e b o1 o2 o3 o4 o5 o6 : List ℕ) → o1 ≡ o ++ s → o2 ≡ o1 ++ k → o3 ≡ o2 ++ l → o4 ≡ o3 ++ c → o5 ≡ o4 ++ e → o6 ≡ o5 ++ b → o6 ≡ o ++ (s ++ k ++ l ++ c ++ e ++ b)
joined_6 o s k l c e b o1 o2 o3 o4 o5 o6 e1 e2 e3 e4 e5 e6 =
    let p2 = joined o s k o1 o2 e1 e2 in
    let p3 = joined o (s ++ k) l o2 o3 p2 e3 in
    let p4 = joined o (s ++ k ++ l) c o3 o4 p3 e4 in
    let p5 = joined o (s ++ k ++ l ++ c) e o4 o5 p4 e5 in
    joined o (s ++ k ++ l ++ c ++ e) b o5 o6 p5 e6
