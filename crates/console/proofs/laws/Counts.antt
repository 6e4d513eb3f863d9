-- A number that is at most the length of a list is that of a front of it. Assumes nothing.
use Rattle.std.proofs.Common.{ℕ, ◌≤◌, ◌<◌, ◌≡◌, List, length, sym, Option, Some, None, IfSome, arith}
use Rattle.std.proofs.Math.Seq.{length-take-le}
use Rattle.std.specs.Option.{unwrap_or}
use Rattle.console.specs.Counts.{IsPrefixLen}

pub prefix_len_of_le : (n : ℕ) (xs : List ℕ) → n ≤ length xs → IsPrefixLen n xs
prefix_len_of_le n xs h = (h, sym (length-take-le n xs h))

-- a place in the list, or its length
pub prefix_len_of_place : (xs : List ℕ) (o : Option ℕ) (n : ℕ) → IfSome o (λ i. i < length xs) → n ≡ unwrap_or o (length xs) → IsPrefixLen n xs
prefix_len_of_place xs (Some i) n h e = prefix_len_of_le n xs (omega (arith, h, e))
prefix_len_of_place xs None n h e = prefix_len_of_le n xs (omega (arith, e))
