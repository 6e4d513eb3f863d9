-- A string by number is found as a reference to it is: the same text, and 42 where a reference would be undecodable. Assumes nothing.
use Rattle.std.specs.Prelude.{ℕ, cond, List, ◌≡◌, refl, Some, None, Ok, Err}
use Rattle.std.proofs.Common.{ap}
use Rattle.chain.specs.Nth.{nth}
use Rattle.chain.specs.Found.{Found}
use Rattle.kinds.specs.Kinds.{listed}
use Rattle.kinds.specs.declared.Kind.TheVariants.{Tag}
use Rattle.kinds.specs.declared.Kinds.{Kinds}
use Rattle.tiny_layout.specs.Pool.{pool}
use Rattle.tiny_layout.specs.Strings.{strings, reference_at, reference}
use Rattle.tiny_layout.specs.declared.Pool.{Pool}
use Rattle.tiny_layout.specs.Reference.{Reference}
use Rattle.tiny.specs.Answers.{refused_with, looked, string_if}
use Rattle.tiny.specs.AnswerTypes.{StringAnswer}

abbrev pub as_string : Reference → StringAnswer
as_string (Some span) = Ok (Some span)
as_string None = Err (refused_with 42)

looked-reference : (s : List ℕ) (x : Pool) (f : Found) → looked s x f ≡ as_string (reference_at s x f)
looked-reference s x (Some p) = refl
looked-reference s x None = refl

pub string-by-reference : (k : Kinds) (s : List ℕ) (n c : ℕ) → string_if k s n (Ok c) ≡ cond (listed k (Tag 0x01)) (as_string (reference s (pool k s) n)) (Ok None)
unfolding reference
string-by-reference k s n c =
    ap (λ (a : StringAnswer). cond (listed k (Tag 0x01)) a (Ok None)) (looked-reference s (pool k s) (nth (strings s (pool k s)) n))
