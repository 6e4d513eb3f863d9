-- What is accepted is rebuilt to the last byte: the run and the pool of an image that a reader with the full list accepts are written as its first L bytes.
-- Assumes nothing.
use Prim.Native.Nat.{◌<◌, ℕ, suc, ◌+◌, ◌-◌, ◌≤◌}
use Rattle.std.specs.Prelude.{Bool, true, ◌≡◌, length, None, Ok}
use Rattle.std.proofs.Math.Bool.{false, not}
use mathlib.Core.List.{List, [], ◌∷◌, ◌++◌, map, flatten}
use Rattle.std.proofs.Math.Path.{sym, ap, ap₂}
use Rattle.std.proofs.Common.{◌∙◌, arith, take-suc, get_or-take}
use Rattle.std.proofs.Math.Dec.{ltb}
use Rattle.std.proofs.Math.ListN.{take, drop}
use Rattle.std.proofs.Math.Seq.{length-take-le}
use borrow.Author.Tests.{le-ltb, not-true}
use Rattle.chain.specs.All.{All}
use Rattle.chain.specs.Fill.{tab}
use Rattle.chain.specs.First.{when}
use Rattle.chain.proofs.laws.All.{all-of, all-map, all-mapped, map-undone}
use Rattle.chain.proofs.laws.Keep.{keep-all}
use Rattle.crc.specs.Crc8.{crc8}
use Rattle.kinds.specs.Kinds.{full}
use Rattle.octets.specs.Bytes.{run}
use Rattle.octets.specs.Cut.{Whole}
use Rattle.octets.proofs.laws.Bytes.{length-run, run-part, run-append}
use Rattle.octets.proofs.laws.Cut.{cut-whole, flatten-cut}
use Rattle.tiny_layout.specs.Layout.{total, check_place, size, next, items}
use Rattle.tiny_layout.proofs.laws.Layout.{size-some, size-own}
use Rattle.tiny_rules.specs.Judged.{judged}
use Rattle.tiny_rules.proofs.laws.Accepted.{head-accepted, total-within, check-holds, items-fit}
use Rattle.tiny_rules.proofs.laws.Same.{judged-same}
use Rattle.tiny_writer.specs.Image.{pool_items, laid_items, body, image_length, unchecked, image}
use Rattle.tiny_writer.specs.PartsOf.{is_pool, others, item_bytes, run_of, pool_of, parts_of}
use Rattle.tiny_writer.specs.Run.{run_items, rule46, laid, given}
use Rattle.tiny_writer.specs.Written.{writer_rules, checked, written}
use Rattle.tiny_writer.proofs.laws.Last.{pool-rejoined}
use Rattle.tiny_writer.proofs.laws.Run.{Good, flatten-run, flatten-good, given-good, laid-given}
use Rattle.verdict.specs.Said.{says, write_said}
use Rattle.verdict.specs.Written.{written_if}
use Rattle.verdict.specs.Answers.{Judged, WriteAnswer}
use Rattle.verdict.proofs.laws.Accepted.{passed}

-- ---- the items of an image that are no pool: whole items, so good items of a run
abbrev Other : List ℕ → Type 0
Other x = (not (is_pool x) ≡ true) × Whole size x

module _ (s : List ℕ) where
  others-whole : All Other (others (item_bytes s))
  unfolding next
  others-whole = keep-all (Whole size) (λ x. not (is_pool x)) (item_bytes s) (cut-whole size size-some size-own s (check_place s) 3)

  given-all : All Good (map given (others (item_bytes s)))
  given-all =
      all-mapped Good given (others (item_bytes s))
      (all-map Other (λ x. Good (given x)) (λ x w. given-good x w.1 (not-true (is_pool x) w.0)) (others (item_bytes s)) others-whole)

  -- the items of its run, laid in an image again
  laid-again : map laid (run_items (run_of s)) ≡ others (item_bytes s)
  unfolding run_of
  laid-again =
      ap (map laid) (flatten-run (map given (others (item_bytes s))) given-all)
      ∙ map-undone given laid (others (item_bytes s))
      (all-of (λ x. laid (given x) ≡ x) laid-given (others (item_bytes s)))

  -- and its run has no bad item
  pub run-of-good : rule46 (run_of s) ≡ None
  unfolding run_of
  run-of-good = flatten-good (map given (others (item_bytes s))) given-all

module _ (s : List ℕ) (n : ℕ) (e : judged full s ≡ Ok n) where
  -- the items of the image made of its parts are its items
  items-parts : laid_items (parts_of s) ≡ item_bytes s
  items-parts = ap (λ (xs : List (List ℕ)). xs ++ pool_items (pool_of s)) (laid-again s) ∙ pool-rejoined s n e

  -- which are all the bytes between the header and the check byte
  body-parts : body (parts_of s) ≡ run s 3 (check_place s - 3)
  unfolding body next
  body-parts =
      ap flatten items-parts
      ∙ flatten-cut size size-some s (check_place s) 3
      (all-map (λ p. (3 ≤ p) × (next s p ≤ check_place s)) (λ p. next s p ≤ check_place s) (λ p w. w.1) (items s) (items-fit full s n e))
      (omega (arith, (total-within full s n e).0))

  length-parts : image_length (parts_of s) ≡ total s
  length-parts = rw body-parts (omega (arith, length-run s 3 (check_place s - 3), (total-within full s n e).0))

  unchecked-parts : unchecked (parts_of s) ≡ take (check_place s) s
  unfolding tab
  unchecked-parts =
      let head = head-accepted full s n e in
      let w = total-within full s n e in
      let k : 3 + (check_place s - 3) ≡ check_place s = omega (arith, w.0) in
      (λ i. sym head.0 i ∷ (sym head.1 i ∷ (length-parts i ∷ body-parts i)))
      ∙ sym (run-append s 0 3 (check_place s - 3)) ∙ ap (run s 0) k ∙ run-part s 0 (check_place s) (omega (arith, w.1))

  -- and the image made of its parts is its first L bytes
  pub image-parts : image (parts_of s) ≡ take (total s) s
  unfolding image
  image-parts =
      let w = total-within full s n e in
      let k : suc (check_place s) ≡ total s = omega (arith, w.0) in
      ap (λ (l : List ℕ). l ++ (crc8 l ∷ [])) unchecked-parts
      ∙ ap (λ (b : ℕ). take (check_place s) s ++ (b ∷ [])) (sym (check-holds full s n e))
      ∙ sym (take-suc s (check_place s) 0 (omega (arith, w))) ∙ ap (λ (m : ℕ). take m s) k

  -- the writer accepts them
  accepted-parts : (room : ℕ) → total s < 256 → total s ≤ room → checked (parts_of s) room ≡ Ok n
  unfolding checked
  accepted-parts room byte h =
      let w = total-within full s n e in
      let x = parts_of s in
      let short : ltb 255 (image_length x) ≡ false = le-ltb 255 (image_length x) (omega (arith, length-parts, byte)) in
      let fits : ltb room (image_length x) ≡ false = le-ltb room (image_length x) (omega (arith, length-parts)) in
      passed (writer_rules x room) (judged full (image x))
      (run-of-good s, (ap (λ (b : Bool). when b 0) short, (ap (λ (b : Bool). when b 0) fits, tt)))
      ∙ ap (judged full) image-parts
      ∙ sym
      (judged-same s (take (total s) s) w.0 (λ q _ l. sym (get_or-take (total s) s q 0 l)) w.1
      (omega (arith, length-take-le (total s) s w.1)) full)
      ∙ e

  -- so they are written, into every buffer that is long enough, and its rest stays. (L is a byte.)
  pub rebuilt : (buffer : List ℕ) → total s < 256 → total s ≤ length buffer
      → (write_said (written (parts_of s) buffer).0 ≡ says (total s)) × ((written (parts_of s) buffer).1 ≡ take (total s) s ++ drop (total s) buffer)
  unfolding written
  rebuilt buffer byte room =
      let done : written (parts_of s) buffer ≡ written_if (take (total s) s) buffer (Ok n) =
      ap₂ (λ (l : List ℕ) (j : Judged). written_if l buffer j) image-parts (accepted-parts (length buffer) byte room) in
      let k = length-take-le (total s) s (total-within full s n e).1 in (
        ap (λ (w : WriteAnswer × List ℕ). write_said w.0) done ∙ ap says k,
        ap (λ (w : WriteAnswer × List ℕ). w.1) done ∙ ap (λ (m : ℕ). take (total s) s ++ drop m buffer) k,
      )
