-- No two map records of one label: in what a reader shows of an accepted board, and in what the board writer was given where it wrote one. Assumes nothing.
use Rattle.std.specs.Prelude.{Some, None, Ok}
use Prim.Native.Nat.{ℕ, ◌+◌, ◌<◌}
use mathlib.Core.List.{List, [], ◌∷◌}
use mathlib.Core.Path.{◌≡◌, refl, sym, ap, subst, ◌∙◌}
use native.Mathlib.Omega.{arith}
use lib.ListN.{take}
use Rattle.board.specs.Answers.{map_record}
use Rattle.board.specs.Values.{map_record_said}
use Rattle.board_layout.specs.Layout.{map_at, records}
use Rattle.board_layout.specs.Places.{MapLabel}
use Rattle.board_layout.specs.declared.Records.TheVariants.{Map}
use Rattle.board_rules.proofs.laws.Labels.{labels-differ}
use Rattle.board_writer.specs.Parts.{Parts, Fits, record_count}
use Rattle.board_writer.specs.Written.{written}
use Rattle.board_writer.proofs.laws.Written.{written-exactly, written-reads-back}
use Rattle.chain.specs.Nth.{nth}
use Rattle.chain.specs.Found.{Found}
use Rattle.kinds.specs.Kinds.{full}
use Rattle.kinds.specs.declared.Kinds.{Kinds}
use Rattle.octets.specs.Label.{label}
use Rattle.octets.specs.Rows as rows
use Rattle.octets.specs.Rows.{Field, Value, bytes}
use Rattle.promises.proofs.Fields.{second, map-by, map-shown}
use Rattle.promises.proofs.ReadBack.{written-board}
use Rattle.promises.specs.Answers.{BoardAnswers, answers}
use Rattle.promises.specs.Demand2.{ShowsLabel, given_label}
use Rattle.reader.specs.Formats.{judged}
use Rattle.reader.specs.declared.Format.TheVariants.{Board}
use Rattle.verdict.specs.Said.{Said, says, refused, write_said}

-- the bytes under the first label of what is shown
abbrev value_bytes : Value → List ℕ
value_bytes (rows.number n) = []
value_bytes (bytes l) = l
value_bytes (rows.part p n) = []
value_bytes (rows.text l) = []
value_bytes rows.undecodable = []

abbrev first_bytes : Said (List Field) → List ℕ
first_bytes (says []) = []
first_bytes (says (x ∷ xs)) = value_bytes x.1
first_bytes (refused n p) = []

module _ (k : Kinds) (s : List ℕ) (n : ℕ) (e : judged Board k s ≡ Ok n) where
  -- the label that a record shows is the one at its place
  shown-label : (i : ℕ) (l : List ℕ) → ShowsLabel (answers Board k s).further i l → (r : ℕ) × ((nth (records Map s (map_at s)) i ≡ Some r) × (label s (r + MapLabel) ≡ l))
  shown-label i l (more, said) = go (nth (records Map s (map_at s)) i) refl
    where
      go : (f : Found) → nth (records Map s (map_at s)) i ≡ f → (r : ℕ) × ((nth (records Map s (map_at s)) i ≡ Some r) × (label s (r + MapLabel) ≡ l))
      go (Some r) at = (r, (at, ap first_bytes (sym (map-shown k s n e i r (map_at s, (second k s n e, at))) ∙ said)))
      go None at =
          let z = sym (map-by k s n e i ∙ ap (λ (f : Found). map_record_said (map_record s f)) at) ∙ said in
          let never : ◌≡◌ {A = ℕ} 0 1 = cc in
          absurd (omega arith)

  pub labels-shown : (i j : ℕ) (l : List ℕ) → ShowsLabel (answers Board k s).further i l → ShowsLabel (answers Board k s).further j l → i ≡ j
  labels-shown i j l x y =
      let a = shown-label i l x in
      let b = shown-label j l y in
      labels-differ k s n e (map_at s) i j a.0 b.0 (second k s n e) a.1.0 b.1.0 (a.1.1 ∙ sym b.1.1)

-- what was written shows the labels that were given
module _ (x : Parts) (fits : Fits x) (b : List ℕ) (n : ℕ) (told : write_said (written x b).0 ≡ says n) where
  abbrev shown : BoardAnswers
  shown = (answers Board full (take n (written x b).1)).further

  given-label : (i : ℕ) → i < record_count x → ShowsLabel shown i (given_label x i)
  given-label i h =
      (_, (written-board x fits b n told n (omega arith) ((written-exactly x b n).0 told).most full).map_record i h)

  pub labels-given : (i j : ℕ) → i < record_count x → j < record_count x → given_label x i ≡ given_label x j → i ≡ j
  labels-given i j h k same =
      let back = written-reads-back x b n told fits n (omega arith) ((written-exactly x b n).0 told).most in
      labels-shown full (take n (written x b).1) back.count back.accepted i j (given_label x j) (subst (ShowsLabel shown i) same (given-label i h)) (given-label j k)
