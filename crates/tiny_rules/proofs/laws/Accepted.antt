-- What acceptance gives: no rule of the table is broken, and what the rules say in numbers. A rule along the items gives a fact of each item. Assumes nothing.
use Prim.Native.Nat.{ℕ, ◌+◌, ◌≤◌, ◌<◌}
use Rattle.std.proofs.Math.Bool.{true, and-eq-true_iff}
use Rattle.std.specs.Prelude.{not, ◌&&◌, ◌||◌, List, refl, take, Some, None, Ok}
use Rattle.std.proofs.Math.Path.{◌≡◌}
use native.Mathlib.Omega.{arith}
use Rattle.std.proofs.Math.Dec.{eqb, ltb, leb}
use Rattle.std.proofs.Math.ListN.{length}
use borrow.Author.Tests.{ltb-false, leb-false, eq-eqb, not-false}
use Rattle.chain.specs.All.{All}
use Rattle.chain.specs.First.{first}
use Rattle.chain.specs.Found.{Found}
use Rattle.chain.proofs.laws.All.{all-map, all-both}
use Rattle.chain.proofs.laws.Checks.{neither, second-fails, kept-equal, under-mark}
use Rattle.chain.proofs.laws.First.{first-all, when-nothing}
use Rattle.chain.proofs.laws.Ranges.{range-none}
use Rattle.crc.specs.Crc8.{crc8}
use Rattle.kinds.specs.Kinds.{listed}
use Rattle.kinds.specs.declared.Kind.TheVariants.{Tag}
use Rattle.kinds.specs.declared.Kinds.{Kinds}
use Rattle.octets.specs.Bytes.{byte}
use Rattle.tiny_layout.specs.Layout.{total, check_place, data_at, next, items}
use Rattle.tiny_layout.specs.Pool.{known_of, pool_at, pool}
use Rattle.tiny_layout.specs.Strings.{is_marked, texts}
use Rattle.tiny_layout.specs.Tags.{shape_of, index_count}
use Rattle.tiny_layout.specs.declared.Shape.{Shape}
use Rattle.tiny_layout.proofs.laws.Layout.{items-within}
use Rattle.tiny_layout.proofs.laws.Pool.{known-holds}
use Rattle.tiny_rules.specs.Judged.{rules, judged}
use Rattle.tiny_rules.specs.Rules.{no_character, end_unmarked, rule2, rule3, rule4, rule5, passes, rule6, early, rule8, rule9, on_known, bad_index, rule10}
use Rattle.verdict.specs.Answers.{Judged}
use Rattle.verdict.proofs.laws.Accepted.{Clear, clear, after}

-- a rule on the known items that finds nothing is not broken by the data of any known item
known-clear :
    (k : Kinds) (s : List ℕ) (rule : Shape → ℕ → Found) →
    first (on_known k s rule) (items s) ≡ None →
    All (λ p. listed k (Tag (byte s p)) ≡ true → rule (shape_of (byte s p)) (data_at s p) ≡ None) (items s)
known-clear k s rule e =
    all-map (λ p. on_known k s rule p ≡ None) (λ p. listed k (Tag (byte s p)) ≡ true → rule (shape_of (byte s p)) (data_at s p) ≡ None)
    (λ p c h. under-mark (listed k (Tag (byte s p))) (rule (shape_of (byte s p)) (data_at s p)) c h) (items s)
    (first-all (on_known k s rule) (items s) e)

-- rule 6 is not broken: each item ends at the check byte or before it
pub unpassed-fit : (s : List ℕ) → rule6 s ≡ None → All (λ p. (3 ≤ p) × (next s p ≤ check_place s)) (items s)
unfolding rule6
unpassed-fit s e =
    all-both (λ p. (3 ≤ p) × (p < check_place s)) (λ p. passes s p ≡ None) (λ p. (3 ≤ p) × (next s p ≤ check_place s))
    (λ p w c. (
      w.0,
      ltb-false (check_place s) (next s p)
          (neither (ltb (check_place s) (data_at s p)) (ltb (check_place s) (next s p))
          (when-nothing (ltb (check_place s) (data_at s p) || ltb (check_place s) (next s p)) p c)).1,
    ))
    (items s) (items-within s) (first-all (passes s) (items s) e)

-- and so does the pool that is used
pub unpassed-pool : (k : Kinds) (s : List ℕ) → rule6 s ≡ None → (pool k s).to ≤ check_place s
unfolding pool
unpassed-pool k s e = go (first (known_of k s 0x01) (items s)) refl
  where
    go : (f : Found) → first (known_of k s 0x01) (items s) ≡ f → (pool_at s f).to ≤ check_place s
    go (Some p) d = (known-holds k s 0x01 p (λ q. (3 ≤ q) × (next s q ≤ check_place s)) (unpassed-fit s e) d).2.1
    go None d = omega arith

module _ (k : Kinds) (s : List ℕ) (n : ℕ) (e : judged k s ≡ Ok n) where
  -- no rule is broken
  pub accepted-clear : Clear (rules k s)
  unfolding judged
  accepted-clear = clear (rules k s) (Ok (length (items s))) n e

  -- the answer counts the items
  pub accepted-count : length (items s) ≡ n
  unfolding judged
  accepted-count = let d : ◌≡◌ {A = Judged} (Ok (length (items s))) (Ok n) = after (rules k s) (Ok (length (items s))) n e in cc

  -- rules 2 and 3: magic and version
  pub head-accepted : (byte s 0 ≡ 0x56) × (byte s 1 ≡ 0x02)
  unfolding rule2 rule3
  head-accepted =
      (kept-equal (byte s 0) 0x56 0 accepted-clear.1.0, kept-equal (byte s 1) 0x02 1 accepted-clear.1.1.0)

  -- rule 4: L is at least 4, and lies within what is lent
  pub total-within : (4 ≤ total s) × (total s ≤ length s)
  unfolding rule4
  total-within =
      let t = neither (ltb (total s) 4) (ltb (length s) (total s))
      (when-nothing (ltb (total s) 4 || ltb (length s) (total s)) 2 accepted-clear.1.1.1.0) in
      (ltb-false (total s) 4 t.0, ltb-false (length s) (total s) t.1)

  -- rule 5: the check byte
  pub check-holds : byte s (check_place s) ≡ crc8 (take (check_place s) s)
  unfolding rule5
  check-holds = kept-equal (byte s (check_place s)) (crc8 (take (check_place s) s)) (check_place s) accepted-clear.1.1.1.1.0

  -- rule 6: each item ends at the check byte or before it
  pub items-fit : All (λ p. (3 ≤ p) × (next s p ≤ check_place s)) (items s)
  items-fit = unpassed-fit s accepted-clear.1.1.1.1.1.0

  -- rule 8: a listed pool ends where the items end
  pub pool-last : All (λ p. listed k (Tag 0x01) ≡ true → byte s p ≡ 0x01 → next s p ≡ check_place s) (items s)
  unfolding rule8
  pool-last =
      all-both (λ p. (3 ≤ p) × (next s p ≤ check_place s)) (λ p. early k s p ≡ None)
      (λ p. listed k (Tag 0x01) ≡ true → byte s p ≡ 0x01 → next s p ≡ check_place s)
      (λ p w c h t.
      omega (
        arith,
        w.1,
        ltb-false (next s p) (check_place s)
            (second-fails (listed k (Tag 0x01) && eqb (byte s p) 0x01) (ltb (next s p) (check_place s))
            (when-nothing (listed k (Tag 0x01) && eqb (byte s p) 0x01 && ltb (next s p) (check_place s)) p c)
            ((and-eq-true_iff (listed k (Tag 0x01)) (eqb (byte s p) 0x01)).1 (h, eq-eqb (byte s p) 0x01 t))),
      ))
      (items s) items-fit (first-all (early k s) (items s) accepted-clear.1.1.1.1.1.1.1.0)

  -- the pool that is used lies before the check byte
  pub pool-fits : (pool k s).to ≤ check_place s
  pool-fits = unpassed-pool k s accepted-clear.1.1.1.1.1.0

  -- rule 9: the pool's last byte is marked
  pub pool-ends : (p : ℕ) → (pool k s).from ≤ p → p + 1 ≡ (pool k s).to → is_marked (byte s p) ≡ true
  unfolding rule9
  pool-ends p h l =
      let to : ℕ = (pool k s).to in
      not-false (is_marked (byte s p))
      (second-fails (eqb (p + 1) to) (not (is_marked (byte s p)))
      (neither (no_character s p) (end_unmarked s to p)
      (range-none (λ q. no_character s q || end_unmarked s to q) (λ q. q) to (pool k s).from accepted-clear.1.1.1.1.1.1.1.1.0 p h (omega arith))).1
      (eq-eqb (p + 1) to l))

  -- rule 10: where 01 is listed, each index of a known item is below the string count
  pub indexes-resolve : listed k (Tag 0x01) ≡ true → All (λ p. listed k (Tag (byte s p)) ≡ true → (i : ℕ) → i < index_count (shape_of (byte s p)) → byte s (data_at s p + i) < length (texts s (pool k s))) (items s)
  unfolding rule10 bad_index
  indexes-resolve t =
      let count : ℕ = length (texts s (pool k s)) in
      all-map (λ p. listed k (Tag (byte s p)) ≡ true → bad_index s count (shape_of (byte s p)) (data_at s p) ≡ None)
      (λ p. listed k (Tag (byte s p)) ≡ true → (i : ℕ) → i < index_count (shape_of (byte s p)) → byte s (data_at s p + i) < count)
      (λ p c h i l.
      leb-false count (byte s (data_at s p + i))
      (range-none (λ q. leb count (byte s q)) (λ q. q) (data_at s p + index_count (shape_of (byte s p))) (data_at s p) (c h) (data_at s p + i) (omega arith) (omega arith)))
      (items s)
      (known-clear k s (bad_index s count)
      (under-mark (listed k (Tag 0x01)) (first (on_known k s (bad_index s count)) (items s)) accepted-clear.1.1.1.1.1.1.1.1.1.0 t))
