-- The steps of a walk, from a fresh one on. Over an accepted image the walk after i steps stands at item i, or at the end of the items, and step i shows the item
-- of that number, or that none is left. Over a refused image the walk stays, and each step shows the refusal. Assumes nothing.
use Rattle.std.specs.Prelude.{ℕ, zero, suc, min, ◌≤◌, Bool, List, ◌≡◌, ltb, length, Some, None, Ok, Err}
use Rattle.std.proofs.Math.Bool.{true, false, cond}
use Rattle.std.proofs.Common.{inl, inr, sym, ap, ◌∙◌, arith}
use Rattle.std.proofs.Math.Path.{refl}
use Rattle.std.specs.Borrow.{Bor}
use Rattle.chain.specs.First.{when}
use Rattle.chain.specs.Nth.{nth}
use Rattle.chain.specs.Onward.{along}
use Rattle.chain.specs.Found.{Found}
use Rattle.chain.proofs.laws.Below.{below}
use Rattle.chain.proofs.laws.Nth.{nth-past}
use Rattle.chain.proofs.laws.Onward.{nth-along}
use Rattle.chain.proofs.laws.Places.{count-end, count-bound}
use Rattle.kinds.specs.declared.Kinds.{Kinds}
use Rattle.reader.specs.Formats.{judged, start, end, next, places}
use Rattle.reader.specs.Items.{pool_of, item_at}
use Rattle.reader.specs.Walk.{first, moved_if, moved, shown_if, shown, after, walk_at, stepped, walk_after, walked, step_numbered, steps_due}
use Rattle.reader.specs.declared.Format.{Format}
use Rattle.reader.specs.declared.Position.{Position}
use Rattle.reader.specs.declared.StepAnswer.{StepAnswer}
use Rattle.reader.specs.declared.Walk.{Walk}
use Rattle.reader.proofs.laws.Formats.{places-grow, accepted-count}
use Rattle.verdict.specs.Answers.{Judged}
use Rattle.verdict.specs.declared.Refusal.{Refusal}

-- what a step shows where the place of an item is found, or none
abbrev pub step_found : Format → Kinds → List ℕ → Found → StepAnswer
step_found f k s (Some p) = StepAnswer.Shown (item_at f k s (pool_of f k s) p)
step_found f k s None = StepAnswer.NoneLeft

-- ---- a step over an accepted image
module _ (f : Format) (k : Kinds) (s : List ℕ) (c : ℕ) where
  -- the position at p
  abbrev standing : ℕ → Position
  standing p = record { verdict = Ok c; pool = pool_of f k s; end = end f s; at = p }

  -- a step from there shows the item at p
  shown-standing : (p : ℕ) → shown f k s (standing p) ≡ step_found f k s (when (ltb p (end f s)) p)
  unfolding shown
  shown-standing p = go (ltb p (end f s))
    where
      go : (b : Bool) → cond b (StepAnswer.Shown (item_at f k s (pool_of f k s) p)) StepAnswer.NoneLeft ≡ step_found f k s (when b p)
      go true = refl
      go false = refl

-- ---- from a fresh walk on, over an accepted image
-- after i steps it stands at the place after i items
pub stands :
    (f : Format) (k : Kinds) (s : List ℕ) (c : ℕ) → judged f k s ≡ Ok c → (i : ℕ)
    → walked f k s i ≡ record { verdict = Ok c; pool = pool_of f k s; end = end f s; at = along (next f s) (end f s) (start f) i }
unfolding walked along moved
stands f k s c e zero = ap (λ (j : Judged). record { verdict = j; pool = pool_of f k s; end = end f s; at = start f }) e
stands f k s c e (suc i) = ap (after f s) (stands f k s c e i)

-- and step i shows item i, or that none is left
pub step-accepted :
    (f : Format) (k : Kinds) (s : List ℕ) (c : ℕ) → judged f k s ≡ Ok c → (i : ℕ) → step_numbered f k s i ≡ step_found f k s (nth (places f s) i)
unfolding step_numbered
step-accepted f k s c e i =
    ap (shown f k s) (stands f k s c e i)
    ∙ shown-standing f k s c (along (next f s) (end f s) (start f) i)
    ∙ ap (step_found f k s) (sym (nth-along (next f s) (end f s) (places-grow f s) i (start f)))

-- ---- over a refused image
-- the walk stays where it begins
stays : (f : Format) (k : Kinds) (s : List ℕ) (r : Refusal) → judged f k s ≡ Err r → (i : ℕ) → walked f k s i ≡ first f k s
unfolding walked moved
stays f k s r e zero = refl
stays f k s r e (suc i) =
    ap (after f s) (stays f k s r e i)
    ∙ ap (λ (j : Judged). record { verdict = judged f k s; pool = pool_of f k s; end = end f s; at = moved_if f s (first f k s) j }) e

-- and each step shows the refusal
pub step-refused :
    (f : Format) (k : Kinds) (s : List ℕ) (r : Refusal) → judged f k s ≡ Err r → (i : ℕ) → step_numbered f k s i ≡ StepAnswer.Refused r
unfolding step_numbered shown
step-refused f k s r e i = ap (shown f k s) (stays f k s r e i) ∙ ap (shown_if f k s (first f k s)) e

-- ---- the walk itself: after step n it carries the image, the format and the list that it was made with, and what step n shows
pub walk-after :
    (f : Format) (s : Bor (List ℕ)) (k : Kinds) (n : ℕ)
    → walk_after f s k (suc n) ≡ walk_at s f k (walked f k s.now (suc n)) (step_numbered f k s.now n)
unfolding walk_after walked step_numbered
walk-after f s k zero = refl
walk-after f s k (suc n) = ap stepped (walk-after f s k n)

pub walk-shows : (f : Format) (s : Bor (List ℕ)) (k : Kinds) (n : ℕ) → (walk_after f s k (suc n)).shows ≡ step_numbered f k s.now n
walk-shows f s k n = ap (λ (w : Walk). w.shows) (walk-after f s k n)

-- ---- as many steps as there are items lead to the end, so the step after the last item shows what each later one shows
pub steps-due : (f : Format) (k : Kinds) (s : List ℕ) (n : ℕ) → step_numbered f k s (steps_due (judged f k s) n) ≡ step_numbered f k s n
steps-due f k s n = go (judged f k s) refl
  where
    past : (c : ℕ) → judged f k s ≡ Ok c → (i : ℕ) → c ≤ i → step_numbered f k s i ≡ StepAnswer.NoneLeft
    past c e i h = step-accepted f k s c e i ∙ ap (step_found f k s) (nth-past (places f s) i (omega (arith, accepted-count f k s c e)))

    go : (j : Judged) → judged f k s ≡ j → step_numbered f k s (steps_due j n) ≡ step_numbered f k s n
    go (Ok c) e =
        elim (below n c) [
          | inl h ↦ ap (step_numbered f k s) (omega arith)
          | inr h ↦ past c e (min n c) (omega arith) ∙ sym (past c e n h)
        ]
    go (Err r) e = step-refused f k s r e 0 ∙ sym (step-refused f k s r e n)

-- and no more are due than the items have bytes
pub due-bound : (f : Format) (k : Kinds) (s : List ℕ) (n : ℕ) → steps_due (judged f k s) n ≤ end f s
due-bound f k s n = go (judged f k s) refl
  where
    bytes : length (places f s) ≤ end f s
    bytes =
        elim (below (end f s) (start f)) [
          | inl h ↦ omega (arith, count-end (next f s) (end f s) (places-grow f s) (start f) (omega arith))
          | inr h ↦ omega (arith, count-bound (next f s) (end f s) (places-grow f s) (start f) h)
        ]

    go : (j : Judged) → judged f k s ≡ j → steps_due j n ≤ end f s
    go (Ok c) e = omega (arith, accepted-count f k s c e, bytes)
    go (Err r) e = omega arith
