-- Rule 34 in both directions, of the map's records by their numbers: in an accepted image no two have one label; where two do and no row before 34 is broken, the
-- answer is 34 at the first label that equals an earlier one. Assumes nothing.
use Rattle.std.specs.Prelude.{ℕ, ◌+◌, List, ◌≡◌, refl, take, drop, Some, Ok, Err}
use Rattle.std.proofs.Common.{inl, inr, sym, ◌∙◌, arith}
use Rattle.board_layout.specs.Layout.{records}
use Rattle.board_layout.specs.Places.{MapLabel}
use Rattle.board_layout.specs.declared.Records.TheVariants.{Map}
use Rattle.board_rules.specs.Broken.{Second, Broken34, table}
use Rattle.board_rules.specs.Judged.{judged}
use Rattle.board_rules.proofs.laws.Table.{refused-exactly, accepted-exactly}
use Rattle.chain.specs.Finds.{Smallest}
use Rattle.chain.specs.Nth.{nth}
use Rattle.chain.proofs.laws.Below.{below}
use Rattle.kinds.specs.declared.Kinds.{Kinds}
use Rattle.octets.specs.Label.{label}
use Rattle.verdict.specs.Table.{Row, Unbroken, FirstBroken}
use Rattle.verdict.specs.Verdict.{refusal}
use Rattle.verdict.specs.Answers.{Judged}
use Rattle.verdict.proofs.laws.Table.{first-after}

module _ (k : Kinds) (s : List ℕ) where
  -- the row of 34 and those after it; those before it are the first eleven, 20 to 30
  abbrev from34 : List Row
  from34 = drop 11 (table k s)

  -- accepted: row 34 is broken nowhere
  unbroken34 : (n : ℕ) → judged k s ≡ Ok n → (q : ℕ) → Broken34 k s q → ⊥
  unbroken34 n e = ((accepted-exactly k s n).0 e).0.1.1.1.1.1.1.1.1.1.1.1.0

  -- so records that have one label are one record
  pub labels-differ : (n : ℕ) → judged k s ≡ Ok n → (m i j e r : ℕ) → Second k s m → nth (records Map s m) i ≡ Some e → nth (records Map s m) j ≡ Some r
      → label s (e + MapLabel) ≡ label s (r + MapLabel) → i ≡ j
  labels-differ n a m i j e r second at to same =
      elim (below i j) [
        | inl h ↦ absurd (unbroken34 n a (r + MapLabel) (Broken34.label_repeated m i j e r second at to h same refl))
        | inr h ↦ elim (below j i) [
          | inl l ↦ absurd (unbroken34 n a (e + MapLabel) (Broken34.label_repeated m j i r e second to at l (sym same) refl))
          | inr l ↦ omega arith
        ]
      ]

  -- a label equals an earlier one, and no row before 34 is broken: refused with 34, at the first such label
  pub label-refused : Unbroken (take 11 (table k s)) → (q : ℕ) → Broken34 k s q → (p : ℕ) × ((judged k s ≡ refusal 34 p) × Smallest (Broken34 k s) p)
  label-refused before q b = go (judged k s) refl
    where
      by : (n p : ℕ) → judged k s ≡ refusal n p → FirstBroken from34 n p → (p : ℕ) × ((judged k s ≡ refusal 34 p) × Smallest (Broken34 k s) p)
      by n p e (inl f) = (p, (e ∙ rw f.0, f.1))
      by n p e (inr f) = absurd (f.0 q b)

      go : (j : Judged) → judged k s ≡ j → (p : ℕ) × ((judged k s ≡ refusal 34 p) × Smallest (Broken34 k s) p)
      go (Ok n) e = absurd (unbroken34 n e q b)
      go (Err r) e =
          by r.number r.place e
          (first-after (take 11 (table k s)) from34 r.number r.place before ((refused-exactly k s r.number r.place).0 e))
