-- What an image that is being built holds once more bytes are put after those it holds, and the loop that lays the items of a run. Assumes nothing.
use Rattle.std.specs.Prelude.{ℕ, ◌+◌, ◌≤◌, ◌<◌, false, List, [], ◌∷◌, ◌++◌, ◌≡◌, length, take, set}
use Rattle.std.proofs.Common.{append_assoc, append-nil, sym, ap, ap₂, subst, ◌∙◌, add-zero, add-one, arith, length-append, length-set, take-suc-set}
use Rattle.chain.specs.All.{All}
use Rattle.chain.specs.Chain.{chain}
use Rattle.chain.proofs.laws.Chain.{chain-more}
use Rattle.crc.specs.Crc8.{crc8}
use Rattle.octets.specs.Put.{put, Holds}
use Rattle.octets.proofs.laws.Put.{holds-more}
use Rattle.tiny_writer.specs.Building.{laid_at, laid_from}
use Rattle.tiny_writer.specs.Image.{Parts, unchecked, image}
use Rattle.tiny_writer.specs.Run.{run_size, bad_item, run_next}
use Rattle.tiny_writer.proofs.laws.Laid.{laid-end, laid-more, laid-length, laid-step}
use Rattle.tiny_writer.proofs.laws.Run.{item-good, run-grows}

-- an item, put as its head and the rest of it
pub holds-item : (image bytes head rest item one two : List ℕ) (to mid end room : ℕ) → head ++ rest ≡ item → mid ≡ to + length head → end ≡ to + length item
    → one ≡ put head to image → two ≡ put rest mid one
    → Holds image to bytes room → end ≤ room → Holds two end (bytes ++ item) room
holds-item image bytes head rest item one two to mid end room whole m e o t h fits =
    let n : length head + length rest ≡ length item = sym (length-append head rest) ∙ ap length whole in
    let first = holds-more image bytes head to room h (omega arith) in
    let both = holds-more (put head to image) (bytes ++ head) rest (to + length head) room first (omega arith) in
    let same : two ≡ put rest (to + length head) (put head to image) = t ∙ ap₂ (put rest) m o in
    let far : to + length head + length rest ≡ end = omega arith in
    record {
      front =
          ap₂ take (sym far) same ∙ both.front ∙ append_assoc bytes head rest ∙ ap (λ (l : List ℕ). bytes ++ l) whole;
      long = ap length same ∙ both.long;
    }

-- an item that is none
pub holds-none : (image item : List ℕ) (to room : ℕ) → [] ≡ item → length image ≡ room → Holds image (to + length item) (take to image ++ item) room
holds-none image item to room e long =
    subst (λ (x : List ℕ). Holds image (to + length x) (take to image ++ x) room) e
    (record { front = ap (λ (m : ℕ). take m image) (add-zero to) ∙ sym (append-nil (take to image)); long = long })

-- the check byte, put last
pub holds-image : (x : Parts) (block : List ℕ) (at end n room c : ℕ) → at ≡ end → n ≡ end + 1 → end < room → c ≡ crc8 (take end block)
    → Holds block at (unchecked x) room → Holds (set block end c) n (image x) room
unfolding image
holds-image x block at end n room c a e h d held =
    let front : take end block ≡ unchecked x = ap (λ (m : ℕ). take m block) (sym a) ∙ held.front in
    record {
      front =
          ap (λ (m : ℕ). take m (set block end c)) (e ∙ add-one end) ∙ take-suc-set block end c (omega (arith, held.long))
          ∙ ap₂ (λ (l : List ℕ) (b : ℕ). l ++ (b ∷ [])) front (d ∙ ap crc8 front);
      long = length-set block end c ∙ held.long;
    }

-- ---- a loop that lays the items from place p of the run on, with the invariant that what the image holds and what is still to come is the whole
pub record Laying (r : List ℕ) (room : ℕ) (whole image : List ℕ) (p to : ℕ) : Type 0 where
  pub good : All (λ q. bad_item r q ≡ false) (chain (run_next r) (length r) p)
  pub joins : take to image ++ laid_from r p ≡ whole
  pub ends : to + length (laid_from r p) ≡ length whole
  pub fits : length whole ≤ room
  pub long : length image ≡ room

module _ (r : List ℕ) (room : ℕ) (whole : List ℕ) where
  laying-items : (image : List ℕ) (p to : ℕ) → p < length r → Laying r room whole image p to
      → All (λ q. bad_item r q ≡ false) (p ∷ chain (run_next r) (length r) (p + run_size r p))
  laying-items image p to h l =
      rw (chain-more (run_next r) (length r) (run-grows r) p h) at l.good

  -- the item at p fits the run and the image
  pub laying-fits : (image : List ℕ) (p to : ℕ) → p < length r → Laying r room whole image p to
      → (p + run_size r p ≤ length r) × (to + length (laid_at r p) ≤ room)
  laying-fits image p to h l =
      ((item-good r p (laying-items image p to h l).0).2, omega (arith, l.ends, l.fits, laid-step r p h, laid-length r p))

  -- it is laid: on to the next one
  pub laying-turn : (image two : List ℕ) (p q to on : ℕ) → p < length r → q ≡ p + run_size r p → on ≡ to + length (laid_at r p)
      → Holds two (to + length (laid_at r p)) (take to image ++ laid_at r p) (length image) → Laying r room whole image p to → Laying r room whole two q on
  laying-turn image two p q to on h e f held l =
      rw (e, f) (record {
        good = (laying-items image p to h l).1;
        joins =
            ap (λ (b : List ℕ). b ++ laid_from r (p + run_size r p)) held.front ∙ append_assoc (take to image) (laid_at r p) (laid_from r (p + run_size r p))
            ∙ ap (λ (b : List ℕ). take to image ++ b) (sym (laid-more r p h)) ∙ l.joins;
        ends = omega (arith, l.ends, laid-step r p h, laid-length r p);
        fits = l.fits;
        long = held.long ∙ l.long;
      })

  -- there is none at p: the image holds the whole
  pub laying-done : (image : List ℕ) (p to : ℕ) → length r ≤ p → Laying r room whole image p to → (to ≡ length whole) × Holds image to whole room
  laying-done image p to h l = (
    omega (arith, l.ends, ap length (laid-end r p h)),
    record {
      front = sym (append-nil (take to image)) ∙ ap (λ (b : List ℕ). take to image ++ b) (sym (laid-end r p h)) ∙ l.joins;
      long = l.long;
    },
  )
