-- `step_numbered` meets its contract: a turn steps (`next-step`), and after one step more than come before the one of the number the walk shows what that one
-- shows (`walk-shows`, `steps-due`). Assumes nothing.
use Rattle.std.proofs.Common.{◌≡◌, ℕ, ◌+◌, List, sym, ap, ◌∙◌, add-one, arith, ◌<◌, ◌^◌}
use Rattle.std.specs.Borrow.{Bor}
use Rattle.board_layout.specs.Places.{StructLen}
use Rattle.octets.specs.Bytes.{Octets}
use Rattle.octets.proofs.laws.Bytes.{le32-below}
use Rattle.reader.specs.declared.Format.TheVariants.{Tiny, Board}
use Rattle.kinds.specs.declared.Kinds.{Kinds}
use Rattle.reader.specs.Formats.{judged, end}
use Rattle.reader.specs.Walk.{fresh_walk, stepped, walk_after, step_numbered, steps_due}
use Rattle.reader.specs.declared.Format.{Format}
use Rattle.reader.specs.declared.Walk.{Walk}
use Rattle.reader.proofs.laws.Walk.{walk-shows, steps-due, due-bound}
use Rattle.reader.proofs.steps.step_numbered.Goals as goal

-- the items end before 2 ^ 32
near : (f : Format) (s : List ℕ) → Octets s → end f s < 2 ^ 32
near Tiny s octets = omega (arith, octets 2)
near Board s octets = le32-below s octets StructLen

-- a fresh walk, by the image that it carries
first-stands : (f : Format) (s : Bor (List ℕ)) (k : Kinds) (w : Walk) → w ≡ fresh_walk f s k → w ≡ walk_after f w.image k 0
unfolding walk_after
first-stands f s k w e = e ∙ ap (λ (b : Bor (List ℕ)). fresh_walk f b k) (sym (ap (λ (x : Walk). x.image) e))

-- a step more
next-step : (f : Format) (k : Kinds) (w x : Walk) (i : ℕ) → w ≡ walk_after f w.image k i → x ≡ stepped w → x ≡ walk_after f x.image k (i + 1)
unfolding walk_after
next-step f k w x i stands e =
    e ∙ ap stepped stands ∙ ap (λ (n : ℕ). walk_after f w.image k n) (sym (add-one i))
    ∙ ap (λ (b : Bor (List ℕ)). walk_after f b k (i + 1)) (sym (ap (λ (y : Walk). y.image) e))

-- what the last step shows
last-shows : (f : Format) (k : Kinds) (s : List ℕ) (n : ℕ) (w : Walk) (i : ℕ) → w ≡ walk_after f w.image k i → w.image.now ≡ s
    → i ≡ steps_due (judged f k s) n + 1 → w.shows ≡ step_numbered f k s n
last-shows f k s n w i stands image e =
    ap (λ (x : Walk). x.shows) stands ∙ ap (λ (m : ℕ). (walk_after f w.image k m).shows) (e ∙ add-one (steps_due (judged f k s) n))
    ∙ walk-shows f w.image k (steps_due (judged f k s) n) ∙ ap (λ (l : List ℕ). step_numbered f k l (steps_due (judged f k s) n)) image
    ∙ steps-due f k s n

pub loop-step-init : goal.loop-step-init
loop-step-init c =
    record {
      stands = first-stands _ _ _ _ c.fresh-walk.ensures;
      image = ap (λ (w : Walk). w.image.now) c.fresh-walk.ensures;
      in_range = omega arith;
    }

pub overflow_add-step-end : goal.overflow_add-step-end
overflow_add-step-end c =
    let a = c.args in
    let octets : Octets a.image.now = λ p. (c.type_inv.image p).fits in
    let due = c.steps_due-due.ensures ∙ ap (λ (w : Walk). steps_due w.position.verdict a.number) c.fresh-walk.ensures in
    omega (arith, due, due-bound a.format a.kinds a.image.now a.number, near a.format a.image.now octets)

pub loop-step-preserved : goal.loop-step-preserved
loop-step-preserved c =
    record {
      stands = next-step _ _ _ _ _ c.loop-step.invariant.stands c.step-walk.ensures;
      image = ap (λ (w : Walk). w.image.now) c.step-walk.ensures ∙ c.loop-step.invariant.image;
      in_range = omega arith;
    }

pub returns : goal.returns
returns c =
    let a = c.args in
    let all : c.loop-step._step ≡ c.steps_due-due.result + 1 = omega arith in
    let due = c.steps_due-due.ensures ∙ ap (λ (w : Walk). steps_due w.position.verdict a.number) c.fresh-walk.ensures in
    last-shows a.format a.kinds a.image.now a.number _ _ c.loop-step.invariant.stands c.loop-step.invariant.image (all ∙ ap (λ (n : ℕ). n + 1) due)
