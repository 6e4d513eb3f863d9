-- The walk. Paper 01: "a walk that carries the lent image with it and steps from item to item". A step over a refused image shows the refusal, and the walk
-- stays; a step past the last item shows that none is left, and the walk stays. A step is defined from every position, also one that no walk comes to.
-- Assumes nothing.
use Rattle.std.specs.Prelude.{ℕ, zero, suc, min, cond, List, ltb, Ok, Err}
use Rattle.std.specs.Borrow.{Bor}
use Rattle.chain.specs.Onward.{onward}
use Rattle.kinds.specs.declared.Kinds.{Kinds}
use Rattle.reader.specs.Formats.{judged, start, end, next}
use Rattle.reader.specs.Items.{pool_of, item_at}
use Rattle.reader.specs.declared.Format.{Format}
use Rattle.reader.specs.declared.Position.{Position}
use Rattle.reader.specs.declared.StepAnswer.{StepAnswer}
use Rattle.reader.specs.declared.Walk.{Walk}
use Rattle.verdict.specs.Answers.{Judged}

-- where a walk begins: the verdict, the pool, where the items end, and the place of the first item
abbrev pub first : Format → Kinds → List ℕ → Position
first f k s = record { verdict = judged f k s; pool = pool_of f k s; end = end f s; at = start f }

-- ---- a step, by the verdict that the position carries
-- where it leads: over an accepted image on to the next item, or to the end of the items; over a refused one the walk stays
abbrev pub moved_if : Format → List ℕ → Position → Judged → ℕ
moved_if f s x (Ok count) = onward (next f s) x.end x.at
moved_if f s x (Err r) = x.at

unfoldable pub moved : Format → List ℕ → Position → ℕ
moved f s x = moved_if f s x x.verdict

-- what it shows: the item at the position, or that none is left at the end of the items; the refusal of a refused image
abbrev pub shown_if : Format → Kinds → List ℕ → Position → Judged → StepAnswer
shown_if f k s x (Ok count) = cond (ltb x.at x.end) (StepAnswer.Shown (item_at f k s x.pool x.at)) StepAnswer.NoneLeft
shown_if f k s x (Err r) = StepAnswer.Refused r

unfoldable pub shown : Format → Kinds → List ℕ → Position → StepAnswer
shown f k s x = shown_if f k s x x.verdict

-- how far the walk then is: the place alone changes
abbrev pub after : Format → List ℕ → Position → Position
after f s x = record { verdict = x.verdict; pool = x.pool; end = x.end; at = moved f s x }

-- ---- the walk itself: the lent image, its format, the list, how far it is, and what the last step showed
abbrev pub walk_at : Bor (List ℕ) → Format → Kinds → Position → StepAnswer → Walk
walk_at s f k x a = record { image = s; format = f; kinds = k; position = x; shows = a }

-- a walk that has not stepped shows nothing
abbrev pub fresh_walk : Format → Bor (List ℕ) → Kinds → Walk
fresh_walk f s k = walk_at s f k (first f k s.now) StepAnswer.Nothing

-- a step keeps the image, the format and the list
abbrev pub stepped : Walk → Walk
stepped w =
    walk_at w.image w.format w.kinds (after w.format w.image.now w.position) (shown w.format w.kinds w.image.now w.position)

-- from a fresh walk, each step given the walk that the last returned: the walk after n steps
unfoldable pub walk_after : Format → Bor (List ℕ) → Kinds → ℕ → Walk
walk_after f s k zero = fresh_walk f s k
walk_after f s k (suc n) = stepped (walk_after f s k n)

-- ---- the same without the walk: how far it is after n steps, and what step n shows, counted from 0. (`laws/Walk`: this is what the walk carries)
unfoldable pub walked : Format → Kinds → List ℕ → ℕ → Position
walked f k s zero = first f k s
walked f k s (suc n) = after f s (walked f k s n)

unfoldable pub step_numbered : Format → Kinds → List ℕ → ℕ → StepAnswer
step_numbered f k s n = shown f k s (walked f k s n)

-- as many steps as there are items lead to the end; a refused image needs none. (`laws/Walk`: step n shows what this step shows)
abbrev pub steps_due : Judged → ℕ → ℕ
steps_due (Ok count) n = min n count
steps_due (Err r) n = 0
