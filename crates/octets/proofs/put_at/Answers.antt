-- `put_at` meets its contract: where the bytes fit, those before them and those behind them stay; where they do not, nothing changes. Assumes nothing.
use borrow.Rule.Slice.PartMut.{Post-is}
use Rattle.std.proofs.Common.{sym, arith, ◌+◌, ◌∙◌, ap₂, List, ℕ, ◌++◌, drop, length, take}
use mathlib.Core.List.{append_assoc}
use Rattle.octets.proofs.laws.Put.{put-none, put-fits}
use Rattle.octets.proofs.put_at.Goals as goal
use Rattle.octets.proofs.put_at.Goals.{else-at-buffer-via-then-at-buffer+else-bytes-buffer, else-at-buffer-via-else-at-buffer}

pub returns-then-bytes-buffer : goal.returns-then-bytes-buffer
returns-then-bytes-buffer c = let a = c.args in
    sym (put-fits a.bytes.now a.at a.buffer.now (omega arith) ∙ append_assoc (take a.at a.buffer.now) a.bytes.now (drop (a.at + length a.bytes.now) a.buffer.now)
    ∙ ap₂ (λ (l m : List ℕ). take a.at a.buffer.now ++ (l ++ m)) (sym c.copy_from_slice.ensures.after) (sym (Post-is a.at (a.at + length a.bytes.now) a.buffer.now (omega arith))))

pub returns-else-at-buffer : goal.returns-else-at-buffer
returns-else-at-buffer c =
    elim c.else-at-buffer.branch [
      | else-at-buffer-via-then-at-buffer+else-bytes-buffer w ↦ sym (put-none _ _ _ (omega (arith, w.if-at-buffer.true, w.if-bytes-buffer.false)))
      | else-at-buffer-via-else-at-buffer w ↦ sym (put-none _ _ _ (omega (arith, w.if-at-buffer.false)))
    ]
