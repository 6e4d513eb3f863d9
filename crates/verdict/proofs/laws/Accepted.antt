-- What acceptance tells: no rule of the table is broken. And when one table accepts what another accepts. Assumes nothing.
use Rattle.std.specs.Prelude.{ℕ, List, [], ◌∷◌, ◌≡◌, refl, Some, None, Ok}
use Rattle.chain.specs.Found.{Found}
use Rattle.verdict.specs.Verdict.{refuse, answer}
use Rattle.verdict.specs.Answers.{Judged}

-- no rule of the table is broken
abbrev pub Clear : List (ℕ × Found) → Type 0
Clear [] = Unit {0}
Clear (r ∷ rs) = (r.1 ≡ None) × Clear rs

-- ---- one rule: it is not broken, and what comes after it accepts
pass : (n : ℕ) (f : Found) (j : Judged) (m : ℕ) → refuse n f j ≡ Ok m → f ≡ None
pass n (Some p) j m e = cc
pass n None j m e = refl

rest : (n : ℕ) (f : Found) (j : Judged) (m : ℕ) → refuse n f j ≡ Ok m → j ≡ Ok m
rest n (Some p) j m e = cc
rest n None j m e = e

-- ---- a table accepts exactly where it is clear and what comes after it accepts
pub clear : (l : List (ℕ × Found)) (j : Judged) (m : ℕ) → answer l j ≡ Ok m → Clear l
clear [] j m e = tt
clear (r ∷ rs) j m e = (pass r.0 r.1 (answer rs j) m e, clear rs j m (rest r.0 r.1 (answer rs j) m e))

pub after : (l : List (ℕ × Found)) (j : Judged) (m : ℕ) → answer l j ≡ Ok m → j ≡ Ok m
after [] j m e = e
after (r ∷ rs) j m e = after rs j m (rest r.0 r.1 (answer rs j) m e)

pub passed : (l : List (ℕ × Found)) (j : Judged) → Clear l → answer l j ≡ j
passed [] j c = refl
passed (r ∷ rs) j c = rw c.0 (passed rs j c.1)

-- ---- a weaker table: each rule of the first that is not broken has one of the second that is not broken
abbrev pub Weaker : List (ℕ × Found) → List (ℕ × Found) → Type 0
Weaker [] [] = Unit {0}
Weaker [] (y ∷ ys) = ⊥
Weaker (x ∷ xs) [] = ⊥
Weaker (x ∷ xs) (y ∷ ys) = (x.1 ≡ None → y.1 ≡ None) × Weaker xs ys

pub weaker-accepts : (l m : List (ℕ × Found)) (i j : Judged) (n : ℕ) → Weaker l m → (i ≡ Ok n → j ≡ Ok n) → answer l i ≡ Ok n → answer m j ≡ Ok n
weaker-accepts [] [] i j n w h e = h e
weaker-accepts [] (y ∷ ys) i j n w h e = absurd w
weaker-accepts (x ∷ xs) [] i j n w h e = absurd w
weaker-accepts (x ∷ xs) (y ∷ ys) i j n w h e =
    rw (w.0 (pass x.0 x.1 (answer xs i) n e)) (weaker-accepts xs ys i j n w.1 h (rest x.0 x.1 (answer xs i) n e))
