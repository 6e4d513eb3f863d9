-- What the writer answers, and what the lent buffer then holds. Paper 01, "Writers": "46, 40 and 41 come first, in that order, then what the full-list
-- reader says of the image that would result, then 45." Assumes nothing.
use Rattle.std.specs.Prelude.{ℕ, List, [], ◌∷◌, ltb, length, Ok, Err}
use Rattle.board_rules.specs.Judged.{judged}
use Rattle.board_rules.specs.Rules.{prom_sig_at}
use Rattle.board_writer.specs.Image.{image_length, image}
use Rattle.board_writer.specs.Parts.{Parts, rule46}
use Rattle.chain.specs.First.{when}
use Rattle.chain.specs.Found.{Found}
use Rattle.kinds.specs.Kinds.{full}
use Rattle.verdict.specs.Verdict.{refuse, answer}
use Rattle.verdict.specs.Written.{written_if}
use Rattle.verdict.specs.Answers.{Judged, WriteAnswer}

-- 40: board image would exceed 65,536
abbrev pub rule40 : Parts → Found
rule40 x = when (ltb 65536 (image_length x)) 0

-- 41: lent buffer too short
abbrev pub rule41 : Parts → ℕ → Found
rule41 x room = when (ltb room (image_length x)) 0

-- the rules that come before the reader's, in their order
abbrev pub writer_rules : Parts → ℕ → List (ℕ × Found)
writer_rules x room = (46, rule46 x) ∷ ((40, rule40 x) ∷ ((41, rule41 x room) ∷ []))

-- 45, after what a reader says: the further bytes walk to a `$PromSig`; its start in the image
abbrev pub unsigned : List ℕ → Judged → Judged
unsigned s (Ok count) = refuse 45 (prom_sig_at s) (Ok count)
unsigned s (Err r) = Err r

-- what is said of an image once it is laid
unfoldable pub reviewed : List ℕ → Judged
reviewed s = unsigned s (judged full s)

-- the refusal by the first rule that is broken; else what is said of the image
unfoldable pub checked : Parts → ℕ → Judged
checked x room = answer (writer_rules x room) (reviewed (image x))

-- the answer, and the buffer after the call
unfoldable pub written : Parts → List ℕ → WriteAnswer × List ℕ
written x buffer = written_if (image x) buffer (checked x (length buffer))
