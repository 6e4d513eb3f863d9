-- Two accepted images that show the same item for every number have their items at the same places, and show the same there. Assumes nothing.
use Rattle.std.specs.Prelude.{Some, None, Ok}
use Prim.Native.Nat.{ℕ}
use mathlib.Core.List.{List}
use mathlib.Core.Path.{◌≡◌, refl, sym, ap, ◌∙◌}
use native.Mathlib.Omega.{arith}
use Rattle.chain.specs.Nth.{nth}
use Rattle.chain.specs.Found.{Found}
use Rattle.kinds.specs.declared.Kinds.{Kinds}
use Rattle.promises.proofs.Exactly.{item-place}
use Rattle.promises.proofs.Given.{view, item-given}
use Rattle.promises.proofs.View.{item_from}
use Rattle.promises.specs.Answers.{answers}
use Rattle.reader.specs.Formats.{judged, places}
use Rattle.reader.specs.Values.{ItemValues}
use Rattle.reader.specs.declared.Format.{Format}
use Rattle.verdict.specs.Said.{says}

-- item i of both stands at p, and both show the same
pub record Stand (f : Format) (k : Kinds) (s t : List ℕ) (i p : ℕ) : Type 0 where
  pub too : nth (places f t) i ≡ Some p
  pub item : (view f k s).item p ≡ (view f k t).item p

pub both-stand : (f : Format) (k : Kinds) (s t : List ℕ) (c d : ℕ) → judged f k s ≡ Ok c → judged f k t ≡ Ok d
    → ((i : ℕ) → (answers f k s).item i ≡ (answers f k t).item i) → (i p : ℕ) → nth (places f s) i ≡ Some p → Stand f k s t i p
both-stand f k s t c d e g items i p at =
    go (nth (places f t) i) refl (sym (ap (item_from (view f k s)) at) ∙ sym (item-given f k s c e i) ∙ items i ∙ item-given f k t d g i)
  where
    same : (q : ℕ) → nth (places f t) i ≡ Some q → (view f k s).item p ≡ (view f k t).item q → Stand f k s t i p
    same q stands x =
        let z : q ≡ p = sym (item-place f k t q) ∙ sym (ap (λ (y : ItemValues). y.place) x) ∙ item-place f k s p in
        record { too = stands ∙ ap Some z; item = x ∙ ap (view f k t).item z }

    go : (y : Found) → nth (places f t) i ≡ y → says ((view f k s).item p) ≡ item_from (view f k t) y → Stand f k s t i p
    go (Some q) stands x = same q stands (let z : (view f k s).item p ≡ (view f k t).item q = cc in z)
    go None stands x = let z : ◌≡◌ {A = ℕ} 0 1 = cc in absurd (omega arith)
