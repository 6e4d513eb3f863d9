-- `lay_item` meets its contract: the head is put after what the image holds, and the data after the head. Assumes nothing.
use Rattle.std.proofs.Common.{rules, ◌+◌, length, take, refl, ◌∙◌, ap, arith}
use Rattle.octets.specs.Bytes.{byte}
use Rattle.octets.proofs.laws.Bytes.{length-run, part-run}
use Rattle.tiny_layout.specs.Layout.{head_size}
use Rattle.tiny_layout.proofs.laws.Layout.{head-bounds}
use Rattle.tiny_writer.specs.Run.{run_size}
use Rattle.tiny_writer.proofs.laws.Holds.{holds-item}
use Rattle.tiny_writer.proofs.laws.Laid.{laid-parts}
use Rattle.tiny_writer.proofs.lay_item.Goals as goal

pub slice_bounds-put_at-end : goal.slice_bounds-put_at-end
unfolding run_size
slice_bounds-put_at-end c = let a = c.args in
    omega (arith, c.requires.0, c.head_size-head.ensures, (head-bounds c.byte_at.result).1)

pub slice_bounds-put_at-end-2 : goal.slice_bounds-put_at-end-2
unfolding run_size
slice_bounds-put_at-end-2 c = search rules

pub returns : goal.returns
unfolding run_size
returns c = let a = c.args in
    let s = a.items.now in
    let p = a.at in
    let n = c.byte_from-count.ensures in
    let h = c.head_size-head.ensures ∙ ap head_size c.byte_at.ensures in
    let fits = c.requires.0 in
    let head = part-run s p (head_size (byte s p)) (p + c.head_size-head.result) (omega (arith, h)) (omega (arith, h, fits, (head-bounds (byte s p)).1)) in
    let rest = part-run s (p + 2) (byte s (p + 1)) (p + 2 + c.byte_from-count.result) (omega (arith, n)) (omega (arith, n, fits)) in
    holds-item a.image.now (take a.to a.image.now) _ _ _ _ _ a.to (a.to + c.head_size-head.result) _ _
    (laid-parts s p _ _ head rest) (omega (arith, h, ap length head, length-run s p (head_size (byte s p)))) refl
    c.put_at.ensures c.put_at-2.ensures (record { front = refl; long = refl }) c.requires.1
