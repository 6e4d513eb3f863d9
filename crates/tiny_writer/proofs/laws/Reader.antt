-- What the reader can say of an image that is made of a run without a bad item: only what rules 7, 9, 10 and 11 say, since header, length, check and
-- items are the writer's own work and the pool comes last. Assumes nothing.
use Rattle.std.specs.Prelude.{ℕ, ◌≤◌, Bool, true, false, not, ◌&&◌, ◌≡◌, refl, ltb, length, take, None}
use mathlib.Core.List.{List, [], ◌∷◌, map, append-nil, Memᴰ}
use Rattle.std.proofs.Common.{sym, ap, ◌∙◌, arith, take_at}
use Rattle.std.proofs.lemmas.List.{get_or_at}
use borrow.Author.Tests.{le-ltb, eq-eqb}
use Rattle.chain.specs.First.{when}
use Rattle.chain.proofs.laws.All.{all-map}
use Rattle.chain.proofs.laws.First.{first-none}
use Rattle.crc.specs.Crc8.{crc8}
use Rattle.kinds.specs.Kinds.{listed, all, full}
use Rattle.octets.specs.Bytes.{byte}
use Rattle.octets.specs.Cut.{cut}
use Rattle.octets.proofs.laws.Cut.{cut-fits}
use Rattle.tiny_layout.specs.Layout.{check_place, data_at, size, next, items}
use Rattle.tiny_layout.proofs.laws.Layout.{data-within, size-some}
use Rattle.tiny_rules.specs.Judged.{judged}
use Rattle.tiny_rules.specs.Rules.{passes, early, rule1, rule2, rule3, rule4, rule5, rule6, rule7, rule8, rule9, rule10, rule11}
use Rattle.tiny_writer.specs.Image.{Parts, laid_items, body, image_length, unchecked, image}
use Rattle.tiny_writer.specs.Run.{run_items, is_pool_tag, rule46, laid}
use Rattle.tiny_writer.specs.Written.{writer_rules, checked, written}
use Rattle.tiny_writer.proofs.laws.Image.{items-cut, image-length, image-items, run-other}
use Rattle.tiny_writer.proofs.laws.Last.{pool-after, ReachesEnd, last-reaches}
use Rattle.verdict.specs.Said.{refused, write_said}
use Rattle.verdict.proofs.laws.Numbers.{Refuses, table-number, rules-number}

-- rules 1 to 6 and rule 8 are not broken
pub record WellFormed (s : List ℕ) : Type 0 where
  pub one : rule1 s ≡ None
  pub two : rule2 s ≡ None
  pub three : rule3 s ≡ None
  pub four : rule4 s ≡ None
  pub five : rule5 s ≡ None
  pub six : rule6 s ≡ None
  pub eight : rule8 full s ≡ None

-- ---- rule 5: the check byte, past all the others
check-place : (x : Parts) → length (unchecked x) ≡ check_place (image x)
unfolding image
check-place x = omega arith

check-right : (x : Parts) → rule5 (image x) ≡ None
unfolding rule5 image
check-right x =
    let check : ℕ = crc8 (unchecked x) in
    let end : ℕ = check_place (image x) in
    ap (λ (b : Bool). when (not b) end)
    (eq-eqb (byte (image x) end) (crc8 (take end (image x)))
    (get_or_at (unchecked x) check [] 0 end (check-place x) ∙ ap crc8 (sym (take_at (unchecked x) (check ∷ []) end (check-place x)))))

-- ---- rules 6 and 8: the items reach just to the check byte, and no item follows the pool
-- what rule 8 asks of an item, which is a pool or not and ends at a
not-early : (b : Bool) (a end p : ℕ) → (b ≡ true → end ≤ a) → when (b && ltb a end) p ≡ None
not-early true a end p h = rw (le-ltb a end (h refl))
not-early false a end p h = refl

module _ (x : Parts) (good : rule46 x.run ≡ None) where
  abbrev end : ℕ
  end = check_place (image x)

  laid-cut : cut size (image x) end 3 ≡ laid_items x
  laid-cut = sym (items-cut (image x)) ∙ rw (append-nil (image x)) at (image-items x [] good)

  items-fit : rule6 (image x) ≡ None
  unfolding rule6 next body
  items-fit =
      first-none (passes (image x)) (items (image x))
      (all-map (λ q. next (image x) q ≤ end) (λ q. passes (image x) q ≡ None)
      (λ q h. rw (le-ltb end (data_at (image x) q) (omega (arith, data-within (image x) q)), le-ltb end (next (image x) q) h)) (items (image x))
      (cut-fits size size-some (image x) end 3 (rw laid-cut (omega (arith, check-place x)))))

  none-early : rule8 full (image x) ≡ None
  unfolding rule8 listed all
  none-early =
      first-none (early full (image x)) (items (image x))
      (all-map (ReachesEnd (image x) end) (λ q. early full (image x) q ≡ None)
      (λ q h. not-early (is_pool_tag (byte (image x) q)) (next (image x) q) end q h) (items (image x))
      (last-reaches (image x) end 3 (rw laid-cut (pool-after (map laid (run_items x.run)) x.pool (run-other x [] good)))))

-- the image of a run without a bad item breaks none of them
pub image-well-formed : (x : Parts) → rule46 x.run ≡ None → WellFormed (image x)
unfolding image rule1 rule2 rule3 rule4
image-well-formed x good =
    record {
      one = rw (le-ltb (length (image x)) 4 (omega (arith, image-length x)));
      two = refl;
      three = refl;
      four = rw (le-ltb (image_length x) 4 (omega arith), le-ltb (length (image x)) (image_length x) (omega (arith, image-length x)));
      five = check-right x;
      six = items-fit x good;
      eight = none-early x good;
    }

-- ---- the number of a refusal
-- what the reader may say of an image that is well-formed
reader-number : (bytes buffer : List ℕ) (n p : ℕ) → WellFormed bytes → Refuses bytes buffer n p (judged full bytes) → Memᴰ n (7 ∷ 9 ∷ 10 ∷ 11 ∷ [])
unfolding judged
reader-number bytes buffer n p w e =
    rules-number bytes buffer n p ((7, rule7 bytes) ∷ (9, rule9 full bytes) ∷ (10, rule10 full bytes) ∷ (11, rule11 full bytes) ∷ []) (length (items bytes))
    (rw (w.one, w.two, w.three, w.four, w.five, w.six, w.eight) at e)

-- so a refusal of the writer has one of these numbers
pub refused-numbers : (x : Parts) (buffer : List ℕ) (n p : ℕ) → write_said (written x buffer).0 ≡ refused n p
    → Memᴰ n (46 ∷ (40 ∷ (41 ∷ (7 ∷ (9 ∷ (10 ∷ (11 ∷ [])))))))
unfolding written checked
refused-numbers x buffer n p e =
    table-number (image x) buffer n p (writer_rules x (length buffer)) (judged full (image x)) (7 ∷ 9 ∷ 10 ∷ 11 ∷ [])
    (λ c. reader-number (image x) buffer n p (image-well-formed x c.0)) e
