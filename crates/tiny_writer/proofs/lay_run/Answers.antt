-- `lay_run` meets its contract. The loop's invariant: what the image holds and the items from here on are the header and all items. Assumes nothing.
use Rattle.std.proofs.Common.{◌≡◌, ℕ, ◌+◌, ◌≤◌, List, ◌++◌, length, take, refl, sym, ◌∙◌, ap, arith, length-append, length-take}
use Rattle.tiny_writer.specs.Building.{laid_from}
use Rattle.tiny_writer.proofs.laws.Holds.{laying-fits, laying-turn, laying-done}
use Rattle.tiny_writer.proofs.laws.Run.{run-some, items-good}
use Rattle.tiny_writer.proofs.lay_run.Goals as goal

-- the header's three bytes, and the items
whole-length : (r image : List ℕ) → 3 ≤ length image → length (take 3 image ++ laid_from r 0) ≡ 3 + length (laid_from r 0)
whole-length r image h = simp (length-append, length-take) (omega arith)

pub loop-at-init : goal.loop-at-init
loop-at-init c = let a = c.args in
    let pre = c.requires in
    let n = whole-length a.items.now a.image.now (omega (arith, pre.2)) in
    record { good = items-good a.items.now pre.0; joins = refl; ends = sym n; fits = omega (arith, n, pre.1); long = pre.2 }

pub lay_item-requires : goal.lay_item-requires
lay_item-requires c = let l = c.loop-at in
    let f = laying-fits c.args.items.now _ _ _ _ _ c.loop-at-test.true l.invariant in
    (f.0, omega (arith, f.1, l.invariant.long))

pub loop-at-smaller : goal.loop-at-smaller
loop-at-smaller c = let l = c.loop-at in
    let s = c.args.items.now in
    omega (arith, run-some s l.at, c.run_size.ensures)

pub loop-at-preserved : goal.loop-at-preserved
loop-at-preserved c = let l = c.loop-at in
    let s = c.args.items.now in
    laying-turn s _ _ l.image _ l.at _ l.to _ c.loop-at-test.true
    (ap (λ (n : ℕ). l.at + n) c.run_size.ensures) (ap (λ (n : ℕ). l.to + n) c.laid_size.ensures)
    c.lay_item.ensures l.invariant

pub returns : goal.returns
returns c = let l = c.loop-at in
    let a = c.args in
    let d = laying-done a.items.now _ _ l.image l.at l.to c.loop-at-test.false l.invariant in
    (d.0 ∙ whole-length a.items.now a.image.now (omega (arith, c.requires.2)), d.1)
