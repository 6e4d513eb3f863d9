-- What is not shown is the same in both of two images that differ in nothing else: the premise, worded by the first one's structures, holds of the second's too.
-- Assumes nothing.
use Rattle.std.specs.Prelude.{ℕ, List, ◌≡◌, Ok}
use Rattle.std.proofs.Common.{inl, inr, sym, ap, ◌∙◌, arith}
use Rattle.board.specs.NotShown.{Raised, InRecord, NotShown, check, unknown, reserved, record_reserved, following}
use Rattle.board_layout.specs.Layout.{shape_at}
use Rattle.board_layout.specs.Shapes.{knows, reserved_from, reserved_to, HasRecords}
use Rattle.board_layout.specs.declared.Records.{Records}
use Rattle.board_layout.specs.declared.Records.TheVariants.{Map, Gpio}
use Rattle.board_layout.proofs.laws.Same.{minor-same, shape-same, end-same, records-same}
use Rattle.board_rules.specs.Judged.{judged}
use Rattle.chain.specs.Nth.{nth}
use Rattle.kinds.specs.declared.Kinds.{Kinds}
use Rattle.board.proofs.laws.AlikeBytes.{Alike, Stands, head-alike}
use Rattle.board.proofs.laws.Alike.{structures-alike}

module _ (k : Kinds) (s t : List ℕ) (c : ℕ) (e : judged k s ≡ Ok c) (alike : Alike k s t) where
  -- the other image is alike as well: the premise is worded by the first one's structures
  pub alike-back : Alike k t s
  alike-back =
      record {
        length = sym alike.length;
        bytes = λ q h.
            elim (alike.bytes q (omega (arith, h, alike.length))) [ inl d ↦ inl (sym d) | inr u ↦ inr (back q u) ];
      }
    where
      stand : (i p : ℕ) → Stands s i p → Stands t i p
      stand i p at = ap (λ (l : List ℕ). nth l i) (sym (structures-alike k s t c e alike)) ∙ at

      shape : (i p : ℕ) → Stands s i p → shape_at s p ≡ shape_at t p
      shape i p at = shape-same s t p (head-alike k s t c e alike i p at)

      has : (which : Records) (i p : ℕ) → Stands s i p → (HasRecords which (shape_at s p) → HasRecords which (shape_at t p)) × (HasRecords which (shape_at t p) → HasRecords which (shape_at s p))
      has Map i p at = (λ h. sym (shape i p at) ∙ h, λ h. shape i p at ∙ h)
      has Gpio i p at = (λ h. sym (shape i p at) ∙ h, λ h. shape i p at ∙ h)

      in-record : (which : Records) (i p q : ℕ) → Stands s i p → InRecord k s which q p → InRecord k t which q p
      in-record which i p q at v =
          record {
            number = v.number;
            place = v.place;
            stands = ap (λ (l : List ℕ). nth l v.number) (sym (records-same s t p (head-alike k s t c e alike i p at) which)) ∙ v.stands;
            property = tt;
            past = v.past;
            before = v.before;
          }

      raised : (i p : ℕ) → Stands s i p → Raised k s p → Raised k t p
      raised i p at w = (ap (knows k) (sym (shape i p at)) ∙ w.0, omega (arith, w.1, minor-same s t p (head-alike k s t c e alike i p at)))

      back : (q : ℕ) → NotShown k s q → NotShown k t q
      back q (check h) = check h
      back q (unknown u) =
          unknown (record {
            number = u.number;
            place = u.place;
            stands = stand u.number u.place u.stands;
            property = ap (knows k) (sym (shape u.number u.place u.stands)) ∙ u.property;
            past = u.past;
            before = omega (arith, u.before, end-same s t u.place (head-alike k s t c e alike u.number u.place u.stands));
          })
      back q (reserved u) =
          reserved (record {
            number = u.number;
            place = u.place;
            stands = stand u.number u.place u.stands;
            property = (
              raised u.number u.place u.stands u.property.0,
              omega (
                arith,
                u.property.1,
                ap reserved_to (shape u.number u.place u.stands),
                end-same s t u.place (head-alike k s t c e alike u.number u.place u.stands),
              ),
            );
            past = omega (arith, u.past, ap reserved_from (shape u.number u.place u.stands));
            before = omega (arith, u.before, ap reserved_to (shape u.number u.place u.stands));
          })
      back q (record_reserved which u) =
          record_reserved which (record {
            number = u.number;
            place = u.place;
            stands = stand u.number u.place u.stands;
            property = (
              raised u.number u.place u.stands u.property.0,
              (has which u.number u.place u.stands).0 u.property.1,
              in-record which u.number u.place q u.stands u.property.2,
            );
            past = u.past;
            before = omega (arith, u.before, end-same s t u.place (head-alike k s t c e alike u.number u.place u.stands));
          })
      back q (following u) =
          following (record {
            number = u.number;
            place = u.place;
            stands = stand u.number u.place u.stands;
            property = (
              ap (knows k) (sym (shape u.number u.place u.stands)) ∙ u.property.0,
              λ which h. u.property.1 which ((has which u.number u.place u.stands).1 h),
            );
            past = omega (arith, u.past, ap reserved_to (shape u.number u.place u.stands));
            before = omega (arith, u.before, end-same s t u.place (head-alike k s t c e alike u.number u.place u.stands));
          })
