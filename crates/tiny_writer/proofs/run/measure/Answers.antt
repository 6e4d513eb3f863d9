-- `run::measure` meets its contract. The loop's invariant: the number of the first bad item from here on is that of the whole run, and the bytes so far and
-- those from here on are those of the whole run. Assumes nothing.
use Rattle.std.proofs.Common.{rules, ◌≡◌, ◌+◌, false, length, sym, ◌∙◌, ap, arith, Ok}
use Rattle.chain.proofs.laws.Number.{number-turn, number-hit, number-done}
use Rattle.octets.specs.Bytes.{byte}
use Rattle.tiny_layout.proofs.laws.Layout.{head-bounds}
use Rattle.tiny_writer.specs.Building.{laid_from, measured, measured_if}
use Rattle.tiny_writer.specs.Run.{run_next, run_size, bad_item, rule46}
use Rattle.tiny_writer.proofs.laws.Laid.{laid-end, laid-step, laid-length}
use Rattle.tiny_writer.proofs.laws.Run.{run-grows, run-some, item-good}
use Rattle.tiny_writer.proofs.run.measure.Goals as goal

pub loop-at-init : goal.loop-at-init
unfolding rule46
loop-at-init c = search rules

pub returns-then-is_bad : goal.returns-then-is_bad
unfolding measured
returns-then-is_bad c = let l = c.loop-at in
    let s = c.args.items.now in
    c.refused.ensures
    ∙ ap (measured_if s)
    (number-hit (bad_item s) (run_next s) (length s) (run-grows s) l.number l.at c.loop-at-test.true
    (sym c.is_bad.ensures ∙ c.if-is_bad.true) l.invariant.0)

pub loop-at-smaller : goal.loop-at-smaller
loop-at-smaller c = let l = c.loop-at in
    omega (arith, run-some c.args.items.now l.at, c.run_size.ensures)

pub loop-at-preserved : goal.loop-at-preserved
unfolding run_size
loop-at-preserved c = let l = c.loop-at in
    let s = c.args.items.now in
    let lt = c.loop-at-test.true in
    let bad : bad_item s l.at ≡ false = sym c.is_bad.ensures ∙ c.if-is_bad.false in
    let n : l.bytes + c.laid_size.result + length (laid_from s (l.at + c.run_size.result)) ≡ length (laid_from s 0) =
    rw c.run_size.ensures (omega (arith, l.invariant.1, laid-step s l.at lt, c.laid_size.ensures, laid-length s l.at)) in (
      number-turn (bad_item s) (run_next s) (length s) (run-grows s) l.number l.at _ lt bad
          (omega (arith, c.run_size.ensures)) l.invariant.0,
      n,
      omega (arith, run-some s l.at, c.run_size.ensures),
      omega (arith, c.laid_size.ensures, laid-length s l.at, (head-bounds (byte s l.at)).1, c.run_size.ensures),
      omega (arith, (item-good s l.at bad).2, c.run_size.ensures),
    )

pub returns : goal.returns
unfolding measured
returns c = let l = c.loop-at in
    let s = c.args.items.now in
    let n : l.bytes ≡ length (laid_from s 0) = omega (arith, l.invariant.1, ap length (laid-end s l.at c.loop-at-test.false)) in
    ap Ok n
    ∙ ap (measured_if s)
    (number-done (bad_item s) (run_next s) (length s) (run-grows s) l.number l.at c.loop-at-test.false l.invariant.0)
