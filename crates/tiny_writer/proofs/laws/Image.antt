-- The image that is made of a run and a pool: its length, its total length L, its items, and so its parts. Bytes may follow it. Assumes nothing.
use Rattle.std.specs.Prelude.{ℕ, ◌+◌, Option, true, false, not, ◌≡◌, length, Some, None}
use mathlib.Core.List.{List, [], ◌∷◌, ◌++◌, map, flatten, append_assoc}
use Rattle.std.proofs.Math.Path.{refl, ap}
use Rattle.std.proofs.Common.{sym, ap₂, ◌∙◌, arith, length-append}
use Rattle.std.proofs.lemmas.List.{length-map}
use Rattle.chain.specs.All.{All}
use Rattle.chain.specs.Keep.{keep}
use Rattle.chain.proofs.laws.All.{all-map, all-append, all-mapped, map-undone}
use Rattle.chain.proofs.laws.Keep.{keep-front, keep-back}
use Rattle.crc.specs.Crc8.{crc8}
use Rattle.octets.specs.Bytes.{run}
use Rattle.octets.specs.Cut.{cut, Whole}
use Rattle.octets.proofs.laws.Cut.{cut-flatten}
use Rattle.tiny_layout.specs.Layout.{total, check_place, head_size, data_length, size, next, items}
use Rattle.tiny_layout.proofs.laws.Layout.{size-some, size-own}
use Rattle.tiny_writer.specs.Image.{Parts, pool_items, laid_items, body, image_length, unchecked, image}
use Rattle.tiny_writer.specs.PartsOf.{is_pool, others, item_bytes, run_of, data_of, pool_of, parts_of}
use Rattle.tiny_writer.specs.Run.{run_items, is_pool_tag, rule46, laid, given}
use Rattle.tiny_writer.proofs.laws.Run.{Good, run-good, run-flatten, laid-whole, laid-tag, given-laid}

-- the items of an image by the walk along them
pub items-cut : (s : List ℕ) → item_bytes s ≡ cut size s (check_place s) 3
unfolding next
items-cut s = refl

-- the image has L bytes
pub image-length : (x : Parts) → length (image x) ≡ image_length x
unfolding image
image-length x = omega (arith, length-append (body x) (crc8 (unchecked x) ∷ []))

-- ---- the pool as an item
pool-whole : (pool : Option (List ℕ)) → All (Whole size) (pool_items pool)
unfolding head_size data_length
pool-whole None = tt
pool-whole (Some pool) = (omega arith, tt)

pool-data : (pool : Option (List ℕ)) → data_of (pool_items pool) ≡ pool
pool-data None = refl
pool-data (Some pool) = refl

pools-are : (pool : Option (List ℕ)) → All (λ y. is_pool y ≡ true) (pool_items pool)
pools-are None = tt
pools-are (Some pool) = (refl, tt)

-- ---- the items of the run as they lie in the image
abbrev laid_run : Parts → List (List ℕ)
laid_run x = map laid (run_items x.run)

-- what holds of a good item when it is laid
laid-all : (x : Parts) → rule46 x.run ≡ None → (P : List ℕ → Type 0) → ((y : List ℕ) → Good y → P (laid y)) → All P (laid_run x)
laid-all x good P h = all-mapped P laid (run_items x.run) (all-map Good (λ y. P (laid y)) h (run_items x.run) (run-good x.run good))

module _ (x : Parts) (rest : List ℕ) where
  -- its byte L says how many bytes it has
  pub image-total : total (image x ++ rest) ≡ image_length x
  unfolding image
  image-total = refl

  abbrev header : List ℕ
  header = 0x56 ∷ (0x02 ∷ (image_length x ∷ []))

  -- what comes after the items
  abbrev past : List ℕ
  past = crc8 (unchecked x) ∷ rest

  image-laid : image x ++ rest ≡ header ++ flatten (laid_items x) ++ past
  unfolding image body
  image-laid = ap (λ (l : List ℕ). header ++ l) (append_assoc (body x) (crc8 (unchecked x) ∷ []) rest)

  image-check : check_place (image x ++ rest) ≡ length header + length (flatten (laid_items x))
  unfolding body
  image-check = omega (arith, image-total)

  module _ (good : rule46 x.run ≡ None) where
    laid-wholes : All (Whole size) (laid_items x)
    laid-wholes =
        all-append (Whole size) (laid_run x) (pool_items x.pool) (laid-all x good (Whole size) laid-whole) (pool-whole x.pool)

    -- its items are those of the run and the pool
    pub image-items : item_bytes (image x ++ rest) ≡ laid_items x
    image-items =
        items-cut (image x ++ rest) ∙ ap₂ (λ (s : List ℕ) (end : ℕ). cut size s end 3) image-laid image-check
        ∙ cut-flatten size size-some size-own (laid_items x) header past laid-wholes

    -- and their count is that of both
    pub image-count : length (items (image x ++ rest)) ≡ length (run_items x.run) + length (pool_items x.pool)
    image-count =
        let s : List ℕ = image x ++ rest in
        sym (length-map (items s) (λ q. run s q (size s q)))
        ∙ ap length image-items
        ∙ length-append (laid_run x) (pool_items x.pool)
        ∙ ap (λ (n : ℕ). n + length (pool_items x.pool)) (length-map (run_items x.run) laid)

    -- ---- the items but the pool, and the pool
    -- no item of the run is a pool
    pub run-other : All (λ y. is_pool y ≡ false) (laid_run x)
    run-other = laid-all x good (λ y. is_pool y ≡ false) (λ y g. ap is_pool_tag (laid-tag y) ∙ g.other)

    run-kept : others (laid_items x) ≡ laid_run x
    run-kept =
        keep-front (λ y. not (is_pool y)) (laid_run x) (pool_items x.pool)
        (all-map (λ y. is_pool y ≡ false) (λ y. not (is_pool y) ≡ true) (λ y e. ap not e) (laid_run x) run-other)
        (all-map (λ y. is_pool y ≡ true) (λ y. not (is_pool y) ≡ false) (λ y e. ap not e) (pool_items x.pool) (pools-are x.pool))

    pool-kept : keep is_pool (laid_items x) ≡ pool_items x.pool
    pool-kept = keep-back is_pool (laid_run x) (pool_items x.pool) run-other (pools-are x.pool)

    run-read : run_of (image x ++ rest) ≡ x.run
    unfolding run_of
    run-read =
        ap (λ (l : List (List ℕ)). flatten (map given (others l))) image-items
        ∙ ap (λ (l : List (List ℕ)). flatten (map given l)) run-kept
        ∙ ap flatten
        (map-undone laid given (run_items x.run) (all-map Good (λ y. given (laid y) ≡ y) given-laid (run_items x.run) (run-good x.run good)))
        ∙ run-flatten x.run good

    pool-read : pool_of (image x ++ rest) ≡ x.pool
    unfolding pool_of
    pool-read = ap (λ (l : List (List ℕ)). data_of (keep is_pool l)) image-items ∙ ap data_of pool-kept ∙ pool-data x.pool

    -- and what is read from it is what it was made of
    pub parts-image : parts_of (image x ++ rest) ≡ x
    parts-image = ap₂ (λ (r : List ℕ) (p : Option (List ℕ)). record { run = r; pool = p }) run-read pool-read
