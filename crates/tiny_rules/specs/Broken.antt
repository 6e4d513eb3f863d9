-- Rules 1 to 11 as the rows of the paper's table: at which places each is broken, with a case for each clause of its wording, in its order. Paper 01, "Refusal
-- numbers and their order". What the judge looks for (Rules.antt) is proved to be the smallest such place. Assumes nothing.
use Rattle.std.specs.Prelude.{ℕ, ◌+◌, ◌≤◌, ◌<◌, true, false, List, [], ◌∷◌, ◌⊎◌, ◌≡◌, length, take}
use Rattle.chain.specs.Finds.{Among}
use Rattle.crc.specs.Crc8.{crc8}
use Rattle.kinds.specs.Kinds.{listed}
use Rattle.kinds.specs.declared.Kind.TheVariants.{Tag}
use Rattle.kinds.specs.declared.Kinds.{Kinds}
use Rattle.octets.specs.Bytes.{byte, le16}
use Rattle.octets.specs.Label.{is_text}
use Rattle.tiny_layout.specs.Layout.{total, check_place, data_at, next, items}
use Rattle.tiny_layout.specs.Pool.{is_known, pool}
use Rattle.tiny_layout.specs.Strings.{letter, texts}
use Rattle.tiny_layout.specs.Tags.{shape_of, index_count}
use Rattle.tiny_layout.specs.declared.Shape.TheVariants.{Identity, Batched}
use Rattle.tiny_rules.specs.Rules.{is_major}
use Rattle.verdict.specs.Table.{Row}

module _ (k : Kinds) (s : List ℕ) where
  -- ---- the items that the rows speak of
  -- an item starts at p
  abbrev pub ItemAt : ℕ → Type 0
  ItemAt p = Among (items s) p

  -- "known item"
  abbrev pub KnownAt : ℕ → Type 0
  KnownAt p = ItemAt p × (is_known k s p ≡ true)

  -- "listed pool": an item of tag 01, with 01 on the list
  abbrev pub PoolAt : ℕ → Type 0
  PoolAt p = KnownAt p × (byte s p ≡ 0x01)

  -- a known item with an identity: 61 and 62, or with a batch number too: 80 and 81
  abbrev pub BatchedAt : ℕ → Type 0
  BatchedAt p = KnownAt p × (shape_of (byte s p) ≡ Batched)

  abbrev pub IdentityAt : ℕ → Type 0
  IdentityAt p = (KnownAt p × (shape_of (byte s p) ≡ Identity)) ⊎ BatchedAt p

  -- ---- the rows: rule broken, place
  -- 1: under 4 bytes lent; 0
  pub data Broken1 (q : ℕ) : Type 0 where
    under_four_lent : q ≡ 0 → length s < 4 → Broken1 q

  -- 2: magic; 0
  pub data Broken2 (q : ℕ) : Type 0 where
    wrong_magic : q ≡ 0 → (byte s 0 ≡ 0x56 → ⊥) → Broken2 q

  -- 3: version; 1
  pub data Broken3 (q : ℕ) : Type 0 where
    wrong_version : q ≡ 1 → (byte s 1 ≡ 0x02 → ⊥) → Broken3 q

  -- 4: L below 4 or above what is lent; 2
  pub data Broken4 (q : ℕ) : Type 0 where
    total_below_four : q ≡ 2 → total s < 4 → Broken4 q
    total_above_lent : q ≡ 2 → length s < total s → Broken4 q

  -- 5: CRC-8; L - 1
  pub data Broken5 (q : ℕ) : Type 0 where
    wrong_check : q ≡ check_place s → (byte s q ≡ crc8 (take q s) → ⊥) → Broken5 q

  -- 6: an item, or its length byte, passes L - 1; its tag
  pub data Broken6 (q : ℕ) : Type 0 where
    item_passes : ItemAt q → check_place s < next s q → Broken6 q
    length_byte_passes : ItemAt q → check_place s < data_at s q → Broken6 q

  -- 7: long tag 00; its tag
  pub data Broken7 (q : ℕ) : Type 0 where
    long_tag_zero : ItemAt q → byte s q ≡ 0x00 → Broken7 q

  -- 8: listed pool is not the last item; its tag
  pub data Broken8 (q : ℕ) : Type 0 where
    pool_not_last : PoolAt q → (p : ℕ) → ItemAt p → q < p → Broken8 q

  -- 9: listed pool: a byte's low seven bits not 20h to 7Eh; last byte unmarked; the byte
  pub data Broken9 (q : ℕ) : Type 0 where
    no_character_there : (p : ℕ) → PoolAt p → data_at s p ≤ q → q < next s p → is_text (letter (byte s q)) ≡ false → Broken9 q
    last_unmarked : (p : ℕ) → PoolAt p → data_at s p ≤ q → q + 1 ≡ next s p → byte s q < 128 → Broken9 q

  -- 10: pool listed, known item's index not below the string count (0 without a pool); the index
  pub data Broken10 (q : ℕ) : Type 0 where
    index_not_below : listed k (Tag 0x01) ≡ true → (p : ℕ) → KnownAt p → data_at s p ≤ q → q < data_at s p + index_count (shape_of (byte s p))
        → length (texts s (pool k s)) ≤ byte s q → Broken10 q

  -- 11: known item: major, minor, characters or batch out of range; the field's first byte
  pub data Broken11 (q : ℕ) : Type 0 where
    major_out_of_range : (p : ℕ) → IdentityAt p → q ≡ data_at s p + 2 → is_major (byte s q) ≡ false → Broken11 q
    minor_out_of_range : (p : ℕ) → IdentityAt p → q ≡ data_at s p + 3 → 99 < byte s q → Broken11 q
    characters_out_of_range : (p : ℕ) → IdentityAt p → q ≡ data_at s p + 4 → (is_text (byte s q) ≡ false) ⊎ (is_text (byte s (q + 1)) ≡ false) → Broken11 q
    batch_out_of_range : (p : ℕ) → BatchedAt p → q ≡ data_at s p + 6 → 9999 < le16 s q → Broken11 q

-- the table
abbrev pub table : Kinds → List ℕ → List Row
table k s =
    (1, Broken1 k s)
    ∷ (2, Broken2 k s)
    ∷ (3, Broken3 k s)
    ∷ (4, Broken4 k s)
    ∷ (5, Broken5 k s)
    ∷ (6, Broken6 k s)
    ∷ (7, Broken7 k s)
    ∷ (8, Broken8 k s)
    ∷ (9, Broken9 k s)
    ∷ (10, Broken10 k s)
    ∷ (11, Broken11 k s)
    ∷ []
