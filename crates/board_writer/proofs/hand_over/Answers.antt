-- `hand_over` meets its contract where the image is accepted: it is put at the front of the buffer. Assumes nothing.
use Rattle.std.proofs.Common.{List, ℕ, length, sym, ◌∙◌, ap, Ok}
use Rattle.board_writer.specs.Written.{reviewed}
use Rattle.kinds.specs.Kinds.{all}
use Rattle.octets.proofs.laws.Put.{put-first}
use Rattle.verdict.proofs.laws.Kept.{kept-none}
use Rattle.board_writer.proofs.hand_over.Goals as goal

pub returns : goal.returns
unfolding all reviewed
returns c = let a = c.args in
    let after = c.put_at.ensures ∙ put-first a.image.now a.buffer.now c.requires in
    rw (sym c.judge.ensures ∙ c.in_ok-judge.was, kept-none 45 _ _ _ c.prom_sig.ensures (sym c.keeps.ensures ∙ c.in_ok-keeps.was))
    (ap (λ (l : List ℕ). (Ok (length a.image.now), l)) after)
