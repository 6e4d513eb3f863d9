-- What a writer answers, and what the lent buffer then holds. Paper 01: "Bytes past the image stay"; of a refusal: "no lent buffer changes".
-- Assumes nothing.
use Rattle.std.specs.Prelude.{ℕ, List, ◌++◌, length, drop, Ok, Err}
use Rattle.verdict.specs.Answers.{Judged, WriteAnswer}

-- an image that is judged so, and a lent buffer: the image at its front where it is accepted
abbrev pub written_if : List ℕ → List ℕ → Judged → WriteAnswer × List ℕ
written_if image buffer (Ok count) = (Ok (length image), image ++ drop (length image) buffer)
written_if image buffer (Err r) = (Err r, buffer)
