-- What a table of rules and a writer answer, by computation. Assumes nothing.
use Rattle.std.specs.Prelude.{[], ◌∷◌, ◌≡◌, refl, Some, None, Ok, Err}
use Rattle.verdict.specs.Verdict.{refusal, answer}
use Rattle.verdict.specs.Written.{written_if}

-- rules 2 and 3 are broken: the lower number is given, though its place is the greater
lowest : answer ((1, None) ∷ (2, Some 7) ∷ (3, Some 0) ∷ []) (Ok 4) ≡ refusal 2 7
lowest = refl

unbroken : answer ((1, None) ∷ (2, None) ∷ []) (Ok 4) ≡ Ok 4
unbroken = refl

-- an accepted image at the front of a buffer, and the rest as it was; a refused one changes nothing
front : written_if (1 ∷ 2 ∷ []) (7 ∷ 8 ∷ 9 ∷ []) (Ok 4) ≡ (Ok 2, 1 ∷ 2 ∷ 9 ∷ [])
front = refl

unchanged : written_if (1 ∷ 2 ∷ []) (7 ∷ 8 ∷ 9 ∷ []) (refusal 7 3) ≡ (Err (record { number = 7; place = 3 }), 7 ∷ 8 ∷ 9 ∷ [])
unchanged = refl
