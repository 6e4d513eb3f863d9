-- `lines::put_strings` meets its contract: each turn goes on by a string, which has at least one byte and ends within the pool. Assumes nothing.
use Rattle.std.proofs.Common.{ℕ, ◌+◌, ◌≤◌, ◌<◌, ◌≡◌, List, ap, arith}
use Rattle.octets.specs.declared.Span.{Span}
use Rattle.tiny_layout.specs.Strings.{span_at}
use Rattle.tiny_layout.proofs.laws.Strings.{string-grows, string-fits}
use Rattle.tiny_list.proofs.lines.put_strings.Goals as goal

goes-on : (s : List ℕ) (to at : ℕ) (span : Span) → at < to → span ≡ span_at s to at → (1 ≤ span.length) × (at + span.length ≤ to)
goes-on s to at span h e =
    let long = ap (λ (x : Span). x.length) e in
    (omega (arith, long, string-grows s to at), omega (arith, long, string-grows s to at, string-fits s to at h))

pub overflow_add-at : goal.overflow_add-at
overflow_add-at g c = omega (arith, goes-on _ _ _ _ c.loop-at-test.true c.string_at-span.ensures)

pub loop-at-smaller : goal.loop-at-smaller
loop-at-smaller g c = omega (arith, goes-on _ _ _ _ c.loop-at-test.true c.string_at-span.ensures)

pub loop-at-preserved : goal.loop-at-preserved
loop-at-preserved g c = omega (arith, goes-on _ _ _ _ c.loop-at-test.true c.string_at-span.ensures, c.loop-at.invariant)
