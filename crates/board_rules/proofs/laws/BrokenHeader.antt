-- Rules 20 to 22 and 27 find the smallest place where the paper's rows are broken: tests of what is lent and of the header's fields. Assumes nothing.
use Rattle.std.specs.Prelude.{ℕ, not, List, [], ◌∷◌, ◌≡◌, length, None}
use Rattle.std.proofs.Math.Logic.{inl, inr}
use Rattle.std.proofs.Common.{arith}
use Rattle.board_layout.specs.Layout.{signature_at, major_at, length_at, struct_len, header_length}
use Rattle.board_layout.specs.Places.{StructLen, Crc32, CrcLength}
use Rattle.board_layout.specs.declared.Header.TheVariants.{Short, Long}
use Rattle.board_rules.specs.Broken.{Expected, Broken20, Broken21, Broken22, Broken27}
use Rattle.board_rules.specs.Rules.{is_header_length, rule20, rule21, rule22, rule25, covered, check_over, rule27}
use Rattle.board_rules.proofs.laws.BrokenPlaces.{expected-is}
use Rattle.chain.specs.Finds.{Finds}
use Rattle.chain.proofs.laws.Clauses.{Clause, test, over, under, other, found_in, AnyOf, finds-any}
use Rattle.chain.proofs.laws.Finds.{finds-as, finds-one}
use Rattle.chain.proofs.laws.Means.{Means, means-equal, means-not, means-either}
use Rattle.kinds.specs.Signatures.{eeprom}
use Rattle.kinds.specs.declared.Kinds.{Kinds}
use Rattle.octets.specs.Bytes.{le32}

module _ (k : Kinds) (s : List ℕ) where
  -- ---- rule 20
  abbrev lent_tests : List Clause
  lent_tests = under (λ z. length s) (header_length Short) 0 ∷ over (λ z. length s) 65536 0 ∷ []

  pub finds20 : Finds (Broken20 k s) (rule20 s)
  unfolding rule20
  finds20 = finds-as (AnyOf lent_tests) (Broken20 k s) to back (found_in lent_tests) (finds-any lent_tests 0 0 (omega arith))
    where
      to : (z : ℕ) → AnyOf lent_tests z → Broken20 k s z
      to z (inl h) = Broken20.too_few_lent h.0 h.1
      to z (inr (inl h)) = Broken20.too_many_lent h.0 h.1
      to z (inr (inr h)) = absurd h

      back : (z : ℕ) → Broken20 k s z → AnyOf lent_tests z
      back z (Broken20.too_few_lent e h) = inl (e, h)
      back z (Broken20.too_many_lent e h) = inr (inl (e, h))

  -- ---- rule 21
  -- a Length that is neither
  neither-length : Means (not (is_header_length (length_at s 0))) ((length_at s 0 ≡ header_length Short → ⊥) × (length_at s 0 ≡ header_length Long → ⊥))
  neither-length =
      let m = means-not (means-either (means-equal (length_at s 0) (header_length Short)) (means-equal (length_at s 0) (header_length Long))) in (
        λ e. (λ d. m.0 e (inl d), λ d. m.0 e (inr d)),
        λ h. m.1 (λ d. elim d [ inl x ↦ h.0 x | inr x ↦ h.1 x ]),
      )

  abbrev header_tests : List Clause
  header_tests =
      other (λ z. signature_at s 0) eeprom 0
      ∷ other (λ z. major_at s 0) 1 0
      ∷ test (λ z. (length_at s 0 ≡ header_length Short → ⊥) × (length_at s 0 ≡ header_length Long → ⊥)) 0 neither-length
      ∷ []

  pub finds21 : Finds (Broken21 k s) (rule21 s)
  unfolding rule21
  finds21 = finds-as (AnyOf header_tests) (Broken21 k s) to back (found_in header_tests) (finds-any header_tests 0 0 (omega arith))
    where
      to : (z : ℕ) → AnyOf header_tests z → Broken21 k s z
      to z (inl h) = Broken21.header_signature h.0 h.1
      to z (inr (inl h)) = Broken21.header_major h.0 h.1
      to z (inr (inr (inl h))) = Broken21.header_length_other h.0 h.1.0 h.1.1
      to z (inr (inr (inr h))) = absurd h

      back : (z : ℕ) → Broken21 k s z → AnyOf header_tests z
      back z (Broken21.header_signature e h) = inl (e, h)
      back z (Broken21.header_major e h) = inr (inl (e, h))
      back z (Broken21.header_length_other e h l) = inr (inr (inl (e, (h, l))))

  -- ---- rule 22
  abbrev struct_len_tests : List Clause
  struct_len_tests =
      under (λ z. struct_len s) (length_at s 0) StructLen ∷ over (λ z. struct_len s) (length s) StructLen ∷ []

  pub finds22 : Finds (Broken22 k s) (rule22 s)
  unfolding rule22
  finds22 = finds-as (AnyOf struct_len_tests) (Broken22 k s) to back (found_in struct_len_tests) (finds-any struct_len_tests StructLen StructLen (omega arith))
    where
      to : (z : ℕ) → AnyOf struct_len_tests z → Broken22 k s z
      to z (inl h) = Broken22.struct_len_under h.0 h.1
      to z (inr (inl h)) = Broken22.struct_len_above h.0 h.1
      to z (inr (inr h)) = absurd h

      back : (z : ℕ) → Broken22 k s z → AnyOf struct_len_tests z
      back z (Broken22.struct_len_under e h) = inl (e, h)
      back z (Broken22.struct_len_above e h) = inr (inl (e, h))

  -- ---- rule 27, with n as the expected CrcLength: Crc32 lies before CrcLength
  abbrev check_tests : ℕ → List Clause
  check_tests n = other (le32 s) (check_over s n) Crc32 ∷ other (le32 s) n CrcLength ∷ []

  abbrev Mischecked : ℕ → Type 0
  Mischecked z = (n : ℕ) × (Expected k s n × AnyOf (check_tests n) z)

  -- by rules 21 and 25 there is one such n
  pub finds27 : rule21 s ≡ None → rule25 s ≡ None → Finds (Broken27 k s) (rule27 s)
  unfolding rule27
  finds27 head order =
      finds-as Mischecked (Broken27 k s) to back (rule27 s)
      (finds-one (Expected k s) (covered s) (expected-is k s head order) (λ n. AnyOf (check_tests n)) (rule27 s)
      (finds-any (check_tests (covered s)) Crc32 CrcLength (omega arith)))
    where
      to : (z : ℕ) → Mischecked z → Broken27 k s z
      to z (n, (x, inl (e, h))) = Broken27.wrong_crc n x e h
      to z (n, (x, inr (inl (e, h)))) = Broken27.wrong_crc_length n x e h
      to z (n, (x, inr (inr h))) = absurd h

      back : (z : ℕ) → Broken27 k s z → Mischecked z
      back z (Broken27.wrong_crc n x e h) = (n, (x, inl (e, h)))
      back z (Broken27.wrong_crc_length n x e h) = (n, (x, inr (inl (e, h))))
