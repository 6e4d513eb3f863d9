-- The rows of each tag leave no byte of its fields out, their hidden ones are the indexes that the data begin with, and but for the pool's they are shown by
-- their bytes alone. By computation. Assumes nothing.
use Rattle.std.specs.Prelude.{ℕ, ◌+◌, ◌<◌, ◌≡◌, refl}
use Rattle.std.proofs.Common.{inl, inr, arith}
use Rattle.chain.specs.All.{All}
use Rattle.octets.specs.Rows.{Gapless, HiddenIn}
use Rattle.octets.proofs.laws.Rows.{ByBytes}
use Rattle.tiny_layout.specs.Tables.{table}
use Rattle.tiny_layout.specs.Tags.{shape_of, index_count, field_bytes}
use Rattle.tiny_layout.specs.declared.Shape.{Shape}
use Rattle.tiny_layout.proofs.laws.Tags.{shape-view}

pub gapless : (a : Shape) → Gapless 0 (field_bytes a) (table a)
gapless Shape.Pool = (refl, refl)
gapless Shape.Serial = (refl, refl)
gapless Shape.Flags = (refl, refl)
gapless Shape.Address = (refl, refl)
gapless Shape.Identity = (refl, (refl, (refl, (refl, (refl, refl)))))
gapless Shape.Batched = (refl, (refl, (refl, (refl, (refl, (refl, refl))))))
gapless Shape.Other = refl

pub hidden : (p q : ℕ) (a : Shape) → HiddenIn p q (table a) → q < p + index_count a
hidden p q Shape.Pool h = absurd h
hidden p q Shape.Serial (inl h) = omega (arith, h.1)
hidden p q Shape.Serial (inr h) = absurd h
hidden p q Shape.Flags h = absurd h
hidden p q Shape.Address h = absurd h
hidden p q Shape.Identity (inl h) = omega (arith, h.1)
hidden p q Shape.Identity (inr (inl h)) = omega (arith, h.1)
hidden p q Shape.Identity (inr (inr h)) = absurd h
hidden p q Shape.Batched (inl h) = omega (arith, h.1)
hidden p q Shape.Batched (inr (inl h)) = omega (arith, h.1)
hidden p q Shape.Batched (inr (inr h)) = absurd h
hidden p q Shape.Other h = absurd h

pub by-bytes : (tag : ℕ) → (tag ≡ 0x01 → ⊥) → All (λ r. ByBytes r.form) (table (shape_of tag))
by-bytes =
    shape-view (λ tag a. (tag ≡ 0x01 → ⊥) → All (λ r. ByBytes r.form) (table a)) (λ other. absurd (other refl)) (λ other. (tt, tt)) (λ other. (tt, tt))
    (λ other. (tt, tt)) (λ other. (tt, (tt, (tt, (tt, (tt, tt)))))) (λ other. (tt, (tt, (tt, (tt, (tt, tt)))))) (λ other. (tt, (tt, (tt, (tt, (tt, (tt, tt)))))))
    (λ other. (tt, (tt, (tt, (tt, (tt, (tt, tt))))))) (λ tag other. tt)
