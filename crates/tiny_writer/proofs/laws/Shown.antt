-- Item by item: where the items given lie in the image. The item of a number of the run has its tag, its length and its data bytes, so the rows of its tag show
-- there what they show over the bytes given; the pool comes after them; and no other number has an item. Assumes nothing.
use Rattle.std.specs.Prelude.{ℕ, ◌+◌, ◌-◌, ◌≤◌, ◌<◌, Bool, ◌&&◌, List, [], ◌∷◌, ◌++◌, map, ◌≡◌, get_or, Option, Some, None}
use Rattle.std.proofs.Math.Bool.{true, false}
use Rattle.std.proofs.lemmas.Bool.{false≢true}
use Rattle.std.proofs.Common.{inl, inr, sym, ap₂, subst, ◌∙◌, add-zero, arith, eq-eqb, length-append, get_or-append-add}
use Rattle.std.proofs.Math.Path.{refl, ap}
use Rattle.std.proofs.Math.ListN.{length, get_or-append}
use Rattle.std.proofs.lemmas.List.{length-map, get_or_at}
use Rattle.chain.specs.First.{when}
use Rattle.chain.specs.Nth.{nth}
use Rattle.chain.proofs.laws.All.{all-get_or, map-get_or}
use Rattle.chain.proofs.laws.Below.{below}
use Rattle.chain.proofs.laws.Fill.{tab-agree}
use Rattle.chain.proofs.laws.First.{at-nothing, first-none}
use Rattle.chain.proofs.laws.Nth.{nth-below, nth-past, all-of-nth}
use Rattle.kinds.specs.Kinds.{listed}
use Rattle.kinds.specs.declared.Kind.TheVariants.{Tag}
use Rattle.kinds.specs.declared.Kinds.{Kinds}
use Rattle.octets.specs.Bytes.{byte, run}
use Rattle.octets.specs.Rows.{Value, shown_rows}
use Rattle.octets.proofs.laws.Bytes.{length-run, byte-run, run-append, run-all}
use Rattle.octets.proofs.laws.Rows.{rows-same}
use Rattle.tiny_layout.specs.Layout.{head_size, data_length, data_at, size, next, items}
use Rattle.tiny_layout.specs.Pool.{known_of, pool_at, pool}
use Rattle.tiny_layout.specs.Strings.{split, texts}
use Rattle.tiny_layout.specs.Tables.{table}
use Rattle.tiny_layout.specs.Tags.{shape_of, field_bytes}
use Rattle.tiny_layout.proofs.laws.Layout.{head-bounds, size-some}
use Rattle.tiny_layout.proofs.laws.Tables.{gapless, by-bytes}
use Rattle.tiny_layout.proofs.laws.Tags.{fields-within}
use Rattle.tiny_writer.specs.Image.{Parts, pool_items, laid_items, image}
use Rattle.tiny_writer.specs.Run.{run_items, is_pool_tag, rule46, laid}
use Rattle.tiny_writer.proofs.laws.Image.{image-items, image-count}
use Rattle.tiny_writer.proofs.laws.Run.{Good, run-good, laid-at}

-- ---- an item given, and the same item in an image
-- at p of s lies the item y of a run: the same tag, length and data
pub record Lies (s : List ℕ) (p : ℕ) (y : List ℕ) : Type 0 where
  pub tag : byte s p ≡ byte y 0
  pub length : data_length s p ≡ byte y 1
  pub bytes : (j : ℕ) → j < byte y 1 → byte s (data_at s p + j) ≡ byte y (2 + j)

-- an item as it lies in an image: its head, and then its data
abbrev headed : List ℕ → List ℕ
headed y = run y 0 (head_size (byte y 0)) ++ run y 2 (byte y 1)

headed-lies : (s : List ℕ) (p : ℕ) (y : List ℕ) → run s p (size s p) ≡ headed y → Lies s p y
headed-lies s p y e = record { tag = tag; length = long; bytes = bytes }
  where
    tag : byte s p ≡ byte y 0
    tag =
        ap (byte s) (sym (add-zero p)) ∙ sym (byte-run s p (size s p) 0 (size-some s p)) ∙ ap (λ (l : List ℕ). byte l 0) e
        ∙ get_or-append (run y 0 (head_size (byte y 0))) (run y 2 (byte y 1)) 0 0
        (omega (arith, length-run y 0 (head_size (byte y 0)), (head-bounds (byte y 0)).0))
        ∙ byte-run y 0 (head_size (byte y 0)) 0 (head-bounds (byte y 0)).0

    whole : size s p ≡ head_size (byte y 0) + byte y 1
    whole =
        sym (length-run s p (size s p)) ∙ ap length e ∙ length-append (run y 0 (head_size (byte y 0))) (run y 2 (byte y 1))
        ∙ ap₂ (λ (a b : ℕ). a + b) (length-run y 0 (head_size (byte y 0))) (length-run y 2 (byte y 1))

    long : data_length s p ≡ byte y 1
    long = omega (arith, whole, ap head_size tag)

    bytes : (j : ℕ) → j < byte y 1 → byte s (data_at s p + j) ≡ byte y (2 + j)
    bytes j h =
        let n : ℕ = head_size (byte y 0) in
        let past : length (run y 0 n) + j ≡ n + j = ap (λ (a : ℕ). a + j) (length-run y 0 n) in
        ap (byte s) (omega (arith, ap head_size tag)) ∙ sym (byte-run s p (size s p) (n + j) (omega (arith, whole)))
        ∙ ap (λ (l : List ℕ). byte l (n + j)) e ∙ ap (byte (headed y)) (sym past)
        ∙ get_or-append-add (run y 0 n) (run y 2 (byte y 1)) j 0 ∙ byte-run y 2 (byte y 1) j h

-- so does an item of a run that is laid
laid-lies : (s : List ℕ) (p : ℕ) (y : List ℕ) → Good y → run s p (size s p) ≡ laid y → Lies s p y
laid-lies s p y g e = headed-lies s p y (e ∙ ap laid (sym (run-all y) ∙ ap (run y 0) (sym g.whole)) ∙ laid-at y 0)

-- and the pool, which has a length byte
pool-lies : (s : List ℕ) (p : ℕ) (d : List ℕ) → run s p (size s p) ≡ 0x01 ∷ (length d ∷ d) → Lies s p (0x01 ∷ (length d ∷ d))
unfolding head_size
pool-lies s p d e =
    let y : List ℕ = 0x01 ∷ (length d ∷ d) in
    let whole : length y ≡ 2 + length d = omega arith in
    headed-lies s p y (e ∙ sym (run-all y) ∙ ap (run y 0) whole ∙ run-append y 0 2 (length d))

-- the rows of its tag show there what they show over the bytes given
pub rows-given : (look : ℕ → Value) (s : List ℕ) (p : ℕ) (y : List ℕ) → Good y → Lies s p y
    → shown_rows look s (data_at s p) (data_length s p) (table (shape_of (byte s p))) ≡ shown_rows look y 2 (byte y 1) (table (shape_of (byte y 0)))
unfolding next
rows-given look s p y g l =
    ap₂ (λ (n tag : ℕ). shown_rows look s (data_at s p) n (table (shape_of tag))) l.length l.tag
    ∙ rows-same look s y (data_at s p) 2 (byte y 1) (field_bytes (shape_of (byte y 0)))
    (λ j h. l.bytes j (omega (arith, fields-within s p, l.length, ap (λ (tag : ℕ). field_bytes (shape_of tag)) l.tag)))
    0 (table (shape_of (byte y 0))) (gapless (shape_of (byte y 0)))
    (by-bytes (byte y 0) (λ t. false≢true (sym g.other ∙ eq-eqb (byte y 0) 0x01 t)))

-- the texts of a pool that lies at p are those of its data
pub texts-given : (s : List ℕ) (p : ℕ) (d : List ℕ) → Lies s p (0x01 ∷ (length d ∷ d)) → texts s (record { from = data_at s p; to = next s p }) ≡ split d
unfolding texts next
texts-given s p d l = ap split (ap (run s (data_at s p)) long ∙ same ∙ run-all d)
  where
    long : next s p - data_at s p ≡ length d
    long = omega (arith, l.length)

    same : run s (data_at s p) (length d) ≡ run d 0 (length d)
    same =
        tab-agree (λ j. byte s (data_at s p + j)) (λ j. byte d (0 + j)) (length d)
        (λ j h. l.bytes j h ∙ get_or-append-add (0x01 ∷ (length d ∷ [])) d j 0 ∙ ap (byte d) (omega arith))

-- ---- the items of an image by number
module _ (x : Parts) (rest : List ℕ) (good : rule46 x.run ≡ None) where
  abbrev s : List ℕ
  s = image x ++ rest

  abbrev count : ℕ
  count = length (run_items x.run)

  -- the place of item i, and the bytes there
  abbrev pub place_at : ℕ → ℕ
  place_at i = get_or (items s) i 0

  bytes-at : (i : ℕ) → i < count + length (pool_items x.pool) → run s (place_at i) (size s (place_at i)) ≡ get_or (laid_items x) i []
  bytes-at i h =
      sym (map-get_or (λ q. run s q (size s q)) (items s) i 0 [] (omega (arith, image-count x rest good)))
      ∙ ap (λ (l : List (List ℕ)). get_or l i []) (image-items x rest good)

  -- item i of the run
  pub run-stands : (i : ℕ) → i < count → nth (items s) i ≡ Some (place_at i)
  run-stands i h = nth-below (items s) i (omega (arith, image-count x rest good))

  pub good-at : (i : ℕ) → i < count → Good (get_or (run_items x.run) i [])
  good-at i h = all-get_or Good (run_items x.run) i [] (run-good x.run good) h

  pub run-lies : (i : ℕ) → i < count → Lies s (place_at i) (get_or (run_items x.run) i [])
  run-lies i h =
      laid-lies s (place_at i) (get_or (run_items x.run) i []) (good-at i h)
      (bytes-at i (omega arith)
      ∙ get_or-append (map laid (run_items x.run)) (pool_items x.pool) [] i (omega (arith, length-map (run_items x.run) laid))
      ∙ map-get_or laid (run_items x.run) i [] [] h)

  -- the pool, after them
  module _ (d : List ℕ) (e : x.pool ≡ Some d) where
    one-pool : length (pool_items x.pool) ≡ 1
    one-pool = ap (λ o. length (pool_items o)) e

    pub pool-stands : nth (items s) count ≡ Some (place_at count)
    pool-stands = nth-below (items s) count (omega (arith, image-count x rest good, one-pool))

    pub pool-lies-last : Lies s (place_at count) (0x01 ∷ (length d ∷ d))
    pool-lies-last =
        pool-lies s (place_at count) d
        (bytes-at count (omega (arith, one-pool)) ∙ ap (λ o. get_or (map laid (run_items x.run) ++ pool_items o) count []) e
        ∙ get_or_at (map laid (run_items x.run)) (0x01 ∷ (length d ∷ d)) [] [] count (length-map (run_items x.run) laid))

  -- and none past them
  pub none-past : (i : ℕ) → count + length (pool_items x.pool) ≤ i → nth (items s) i ≡ None
  none-past i h = nth-past (items s) i (omega (arith, image-count x rest good))

  -- so what holds of each item of the run and of the pool holds of each item
  pub run-or-pool : (P : ℕ → ℕ → Type 0) → ((i : ℕ) → i < count → P i (place_at i)) → ((d : List ℕ) → x.pool ≡ Some d → P count (place_at count))
      → (j q : ℕ) → nth (items s) j ≡ Some q → P j q
  run-or-pool P runs pool j q at = elim (below j count) [ inl h ↦ found j (run-stands j h) at (runs j h) | inr h ↦ past x.pool refl h ]
    where
      found : (i : ℕ) → nth (items s) i ≡ Some (place_at i) → nth (items s) i ≡ Some q → P i (place_at i) → P i q
      found i a b w = let z : place_at i ≡ q = cc in subst (P i) z w

      past : (o : Option (List ℕ)) → x.pool ≡ o → count ≤ j → P j q
      past None e h = absurd (at-nothing (sym at ∙ none-past j (omega (arith, ap (λ o. length (pool_items o)) e))))
      past (Some d) e h =
          elim (below j (count + 1)) [
            | inl l ↦
                let z : count ≡ j = omega arith in
                subst (λ (i : ℕ). nth (items s) i ≡ Some q → P i q) z (λ a. found count (pool-stands d e) a (pool d e)) at
            | inr l ↦ absurd (at-nothing (sym at ∙ none-past j (omega (arith, one-pool d e))))
          ]

  -- without a pool no item is one, whatever is on the list
  pub none-pool : (k : Kinds) → x.pool ≡ None → pool k s ≡ record { from = 0; to = 0 }
  unfolding pool
  none-pool k e =
      ap (pool_at s)
      (first-none (known_of k s 0x01) (items s)
      (all-of-nth (λ q. known_of k s 0x01 q ≡ None) (items s)
      (run-or-pool (λ j q. known_of k s 0x01 q ≡ None) (λ i h. unmarked (listed k (Tag 0x01)) (place_at i) (ap is_pool_tag (run-lies i h).tag ∙ (good-at i h).other))
      (λ d f. absurd (omega (arith, ap (λ o. length (pool_items o)) (sym e ∙ f)))))))
    where
      unmarked : (b : Bool) (q : ℕ) → is_pool_tag (byte s q) ≡ false → when (b && is_pool_tag (byte s q)) q ≡ None
      unmarked true q off = ap (λ (t : Bool). when t q) off
      unmarked false q off = refl
