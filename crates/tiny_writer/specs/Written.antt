-- What the writer answers, and what the lent buffer then holds. Paper 01, "Writers": "46, 40 and 41 come first, in that order, then what the full-list
-- reader says of the image that would result". Assumes nothing.
use Rattle.std.specs.Prelude.{ℕ, List, [], ◌∷◌, ltb, length}
use Rattle.chain.specs.First.{when}
use Rattle.chain.specs.Found.{Found}
use Rattle.kinds.specs.Kinds.{full}
use Rattle.tiny_rules.specs.Judged.{judged}
use Rattle.tiny_writer.specs.Image.{Parts, image_length, image}
use Rattle.tiny_writer.specs.Run.{rule46}
use Rattle.verdict.specs.Verdict.{answer}
use Rattle.verdict.specs.Written.{written_if}
use Rattle.verdict.specs.Answers.{Judged, WriteAnswer}

-- 40: tiny image would exceed 255
abbrev pub rule40 : Parts → Found
rule40 x = when (ltb 255 (image_length x)) 0

-- 41: lent buffer too short
abbrev pub rule41 : Parts → ℕ → Found
rule41 x room = when (ltb room (image_length x)) 0

-- the writer's own rules in their order
abbrev pub writer_rules : Parts → ℕ → List (ℕ × Found)
writer_rules x room = (46, rule46 x.run) ∷ ((40, rule40 x) ∷ ((41, rule41 x room) ∷ []))

-- the refusal by the first of them that is broken; else what the full-list reader says of the image
unfoldable pub checked : Parts → ℕ → Judged
checked x room = answer (writer_rules x room) (judged full (image x))

-- the answer, and the buffer after the call
unfoldable pub written : Parts → List ℕ → WriteAnswer × List ℕ
written x buffer = written_if (image x) buffer (checked x (length buffer))
