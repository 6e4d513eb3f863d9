-- Laws of lists of known kinds. The one induction, over the rows of a table, says what is on a list that a test picks; since a list is the one
-- that its own test picks, the others follow from it. Assumes nothing.
use Rattle.std.specs.Prelude.{ℕ, Bool, true, false, cond, ◌&&◌, ◌||◌, List, [], ◌∷◌, ◌≡◌, refl, eqb}
use Rattle.std.proofs.Math.Bool.{and-true, and-false}
use Rattle.std.proofs.lemmas.Bool.{false≢true}
use Rattle.std.proofs.Common.{sym, ◌∙◌, ap, eqb-true}
use Rattle.std.proofs.Math.Path.{fun_ext}
use Rattle.kinds.specs.Kinds.{Row, marked, tags, signatures, listed, picked, all, full, bare, same, extended, Contains}
use Rattle.kinds.specs.declared.Kind.{Kind}
use Rattle.kinds.specs.declared.Kind.TheVariants.{Tag, Signature}
use Rattle.kinds.specs.declared.Kinds.{Kinds}

-- the table with the same numbers, marked by a test
remarked : (ℕ → Bool) → List Row → List Row
remarked test [] = []
remarked test (row ∷ rows) = (row.0, test row.0) ∷ remarked test rows

-- the step of the next law at one row
at-row :
    (test : ℕ → Bool) (x n : ℕ) (a b found : Bool) →
    eqb x n ≡ found →
    a ≡ (test x && b) →
    cond found (test n) a ≡ (test x && cond found true b)
at-row test x n a b true e h = ap test (sym (eqb-true x n e)) ∙ sym (and-true (test x))
at-row test x n a b false e h = h

-- a number is marked there if the test holds of it and it has a row
marked-remarked :
    (test : ℕ → Bool) (x : ℕ) (rows : List Row) → marked x (remarked test rows) ≡ (test x && marked x (remarked (λ n. true) rows))
unfolding marked remarked
marked-remarked test x [] = sym (and-false (test x))
marked-remarked test x (row ∷ rows) =
    at-row
    test
    x
    row.0
    (marked x (remarked test rows))
    (marked x (remarked (λ n. true) rows))
    (eqb x row.0)
    refl
    (marked-remarked test x rows)

-- a kind is on the list that a test picks if the test holds of it and it is one of the seventeen
pub picked-lists : (test : Kind → Bool) (kind : Kind) → listed (picked test) kind ≡ (test kind && listed full kind)
unfolding listed picked all remarked
picked-lists test (Tag tag) = marked-remarked (λ n. test (Tag n)) tag (tags full)
picked-lists test (Signature signature) = marked-remarked (λ n. test (Signature n)) signature (signatures full)

-- a list is the one that its own test picks
pub picked-listed : (k : Kinds) → picked (listed k) ≡ k
unfolding picked listed
picked-listed k = refl

and-right : (a b : Bool) → a ≡ (a && b) → a ≡ true → b ≡ true
and-right true b p e = sym p
and-right false b p e = absurd (false≢true e)

-- only the seventeen kinds are ever on a list
pub listed-full : (k : Kinds) (kind : Kind) → listed k kind ≡ true → listed full kind ≡ true
listed-full k kind e =
    and-right (listed k kind) (listed full kind) (ap (λ (l : Kinds). listed l kind) (sym (picked-listed k)) ∙ picked-lists (listed k) kind) e

-- nothing is on the bare list
pub bare-lists : (kind : Kind) → listed bare kind ≡ false
unfolding all
bare-lists kind = picked-lists (λ other. false) kind

-- a list is the set of its kinds
pub kinds-ext : (k l : Kinds) → ((kind : Kind) → listed k kind ≡ listed l kind) → k ≡ l
kinds-ext k l h = sym (picked-listed k) ∙ (ap picked (fun_ext h) ∙ picked-listed l)

pub contains-refl : (k : Kinds) → Contains k k
contains-refl k = record { keeps = λ kind e. e }

pub contains-trans : {a b c : Kinds} → Contains a b → Contains b c → Contains a c
contains-trans p q = record { keeps = λ kind e. p.keeps kind (q.keeps kind e) }

pub full-contains : (k : Kinds) → Contains full k
full-contains k = record { keeps = listed-full k }

pub contains-bare : (k : Kinds) → Contains k bare
contains-bare k = record { keeps = λ kind e. absurd (false≢true (sym (bare-lists kind) ∙ e)) }

-- what the longer list lacks, the shorter lacks too
pub contains-lacks : {longer shorter : Kinds} → Contains longer shorter → (kind : Kind) → listed longer kind ≡ false → listed shorter kind ≡ false
contains-lacks {longer} {shorter} c kind e = go (listed shorter kind) refl
  where
    go : (b : Bool) → listed shorter kind ≡ b → b ≡ false
    go true d = sym (c.keeps kind d) ∙ e
    go false d = refl

pub same-eq : (a b : Kind) → same a b ≡ true → a ≡ b
unfolding same
same-eq (Tag a) (Tag b) e = ap Tag (eqb-true a b e)
same-eq (Tag a) (Signature b) e = absurd (false≢true e)
same-eq (Signature a) (Tag b) e = absurd (false≢true e)
same-eq (Signature a) (Signature b) e = ap Signature (eqb-true a b e)

-- the tests of extended-lists, over any four answers
joined : (a b f g : Bool) → (a ≡ true → f ≡ g) → (b ≡ true → f ≡ true) → ((a || b) && f) ≡ (b || (a && g))
joined true true f g p q = q refl
joined true false f g p q = p refl
joined false true f g p q = q refl
joined false false f g p q = refl

-- exactly that kind is added, where it is one of the seventeen
pub extended-lists :
    (k : Kinds) (kind other : Kind) → listed (extended k kind) other ≡ (listed k other || (same kind other && listed full kind))
unfolding extended
extended-lists k kind other =
    picked-lists (λ x. same kind x || listed k x) other
    ∙ joined
    (same kind other)
    (listed k other)
    (listed full other)
    (listed full kind)
    (λ e. ap (listed full) (sym (same-eq kind other e)))
    (listed-full k other)

pub extended-contains : (k : Kinds) (kind : Kind) → Contains (extended k kind) k
extended-contains k kind =
    record { keeps = λ other e. extended-lists k kind other ∙ ap (λ (b : Bool). b || (same kind other && listed full kind)) e }
