-- What `?` tells: of `keeps` about a table of rules, which goes on with Ok and ends with Err in this refusal; and of an answer that hands a refusal on.
-- Assumes nothing.
use Rattle.std.specs.Prelude.{ℕ, Bool, true, false, Option, Result, Some, None, Ok, Err}
use Rattle.std.specs.Bool.{then_some}
use Rattle.std.specs.Option.{ok_or}
use Rattle.std.specs.Result.{IsErrAnd}
use Rattle.std.proofs.lemmas.Result.{err_from_is_err_and}
use Rattle.std.proofs.Common.{◌≡◌, refl, sym, ◌∙◌, ap}
use Rattle.chain.specs.Found.{Found}
use Rattle.verdict.specs.Answers.{Judged}
use Rattle.verdict.specs.Verdict.{kept, refuse}
use Rattle.verdict.specs.declared.Refusal.{Refusal}

-- a rule that is kept is broken nowhere
pub kept-none : (n : ℕ) (f g : Found) (u : Unit {0}) → f ≡ g → kept n f ≡ Ok u → g ≡ None
kept-none n f g u e k = sym e ∙ none f k
  where
    none : (h : Found) → kept n h ≡ Ok u → h ≡ None
    none (Some p) d = cc
    none None d = refl

-- a rule that is not kept refuses, whatever comes after it in the table
pub kept-refuses : (n : ℕ) (f g : Found) (r : Refusal) (j : Judged) → f ≡ g → kept n f ≡ Err r → Err r ≡ refuse n g j
kept-refuses n f g r j e k = told f k ∙ ap (λ (h : Found). refuse n h j) e
  where
    told : (h : Found) → kept n h ≡ Err r → Err r ≡ refuse n h j
    told (Some p) d = cc
    told None d = cc

-- what `?` returns is the refusal that it met
pub handed : {A : Type 0} (r : Result A Refusal) {e : Refusal} → IsErrAnd r (λ y. y ≡ e) → r ≡ Err e
handed r out = let p = err_from_is_err_and r out in p.1 ∙ ap (λ (y : Refusal). Err y) p.2

-- `ok_or` refuses as it is told where nothing is there, and else gives what is there
pub missing : {A : Type 0} (o : Option A) {e n : Refusal} → Err e ≡ ok_or o n → (o ≡ None) × (e ≡ n)
missing (Some x) d = cc
missing None d = (refl, cc)

pub present : {A : Type 0} (o : Option A) {x : A} (n : Refusal) → Ok x ≡ ok_or o n → o ≡ Some x
present (Some y) n d = cc
present None n d = cc

-- a rule that is broken at p where a test says so: what the test says after each answer of `keeps`
pub kept-broken : (n : ℕ) {f : Found} (b : Bool) {p : ℕ} {e : Refusal} → Err e ≡ kept n f → f ≡ then_some b p → (b ≡ true) × (e ≡ record { number = n; place = p })
kept-broken n b {p} {e} off at = go b (off ∙ ap (kept n) at)
  where
    go : (c : Bool) → Err e ≡ kept n (then_some c p) → (c ≡ true) × (e ≡ record { number = n; place = p })
    go true d = (refl, cc)
    go false d = cc

pub kept-whole : (n : ℕ) {f : Found} (b : Bool) (p : ℕ) {u : Unit {0}} → Ok u ≡ kept n f → f ≡ then_some b p → b ≡ false
kept-whole n b p {u} on at = go b (on ∙ ap (kept n) at)
  where
    go : (c : Bool) → Ok u ≡ kept n (then_some c p) → c ≡ false
    go true d = cc
    go false d = refl
