-- What a reader answers about what was written is what was given. Of tiny images: the items given lie at the places of their numbers, and the pool's texts are those
-- given, so that each call shows them. Of boards: the writer's own laws, as answers. Assumes nothing.
use Rattle.std.specs.Prelude.{Option, Some, None, Ok}
use Prim.Native.Nat.{ℕ, ◌+◌, ◌-◌, ◌/◌, ◌≤◌, ◌<◌}
use mathlib.Core.Bool.{Bool, true, false, cond, ◌&&◌, and-eq-true_iff}
use mathlib.Core.List.{List, [], ◌∷◌, ◌++◌}
use mathlib.Core.Path.{◌≡◌, refl, sym, ap, ap₂, subst, ◌∙◌}
use native.Mathlib.Nat.{add-zero}
use native.Mathlib.Omega.{arith}
use borrow.Author.Tests.{eqb-true, eq-eqb}
use lib.Dec.{eqb, ltb}
use lib.ListN.{length, get_or, take, drop}
use Rattle.board.specs.Answers as board-answers
use Rattle.board.specs.Values.{map_record_said}
use Rattle.board.specs.declared.Fields.{Fields}
use Rattle.board.specs.declared.ShownItem.{ShownItem}
use Rattle.board_layout.specs.Layout.{header_length}
use Rattle.board_writer.specs.Image.{map_length, board_length, map_place, board_place}
use Rattle.board_writer.specs.Parts as board-parts
use Rattle.board_writer.specs.Shown.{item_shown as structure_shown, header_shown, map_shown}
use Rattle.board_writer.specs.Written as board-writer
use Rattle.board_writer.proofs.laws.Reader.{written-answers}
use Rattle.chain.specs.Fill.{tab}
use Rattle.chain.specs.Keep.{only}
use Rattle.chain.proofs.laws.Keep.{only-number}
use Rattle.kinds.specs.Kinds.{full, listed}
use Rattle.kinds.specs.Signatures.{eeprom, eepr_map, brd_info}
use Rattle.kinds.specs.declared.Kind.TheVariants.{Tag}
use Rattle.kinds.specs.declared.Kinds.{Kinds}
use Rattle.kinds.proofs.laws.Kinds.{full-contains}
use Rattle.octets.specs.Bytes.{byte}
use Rattle.octets.specs.Rows as rows
use Rattle.octets.specs.Rows.{Field, Value, shown_rows}
use Rattle.promises.proofs.Fields.{rows-at}
use Rattle.promises.proofs.Given.{view, item-given}
use Rattle.promises.proofs.View.{item_from}
use Rattle.promises.specs.Answers.{answers}
use Rattle.promises.specs.Hidden.{has_pool, has_serial}
use Rattle.promises.specs.ReadBack.{given_count, given_item, given_texts, texts_for, given_string, rows_given, ShowsItem, ShowsPool, OnlySerial, given_name, TinyShows, BoardShows}
use Rattle.reader.specs.Values.{tiny_fields, tiny-fields, not_known, item_values, item_said}
use Rattle.reader.specs.declared.Format.TheVariants.{Tiny, Board}
use Rattle.reader.specs.declared.Item as board-over
use Rattle.reader.proofs.laws.Items.{from_board, board-numbered}
use Rattle.tiny.specs.Answers.{is_serial, serials, string_numbered}
use Rattle.tiny.specs.Items.{fields_at, item_at, pool_shown}
use Rattle.tiny.specs.Shown.{string_value, item_shown}
use Rattle.tiny.specs.Texts.{referred}
use Rattle.tiny.specs.Values as tiny
use Rattle.tiny.specs.Values.{field_values, name_said, string_said}
use Rattle.tiny.specs.declared.Item.{Item}
use Rattle.tiny.specs.AnswerTypes.{NameAnswer}
use Rattle.tiny.proofs.laws.Resolved.{string-text, string-beyond, name-is-text}
use Rattle.tiny.proofs.laws.Told.{pool-is}
use Rattle.tiny_layout.specs.Layout.{is_long, head_size, data_length, data_at, next, items}
use Rattle.tiny_layout.specs.Pool.{is_known, pool}
use Rattle.tiny_layout.specs.Strings.{split, texts}
use Rattle.tiny_layout.specs.Tables.{table}
use Rattle.tiny_layout.specs.Tags.{shape_of}
use Rattle.tiny_layout.specs.declared.Shape.{Shape}
use Rattle.tiny_layout.proofs.laws.Pool.{no-pool}
use Rattle.tiny_rules.specs.Judged.{judged}
use Rattle.tiny_rules.proofs.laws.Shorter.{shorter-accepts}
use Rattle.tiny_writer.specs.Image as tiny-parts
use Rattle.tiny_writer.specs.Image.{image, pool_items}
use Rattle.tiny_writer.specs.Run.{rule46}
use Rattle.tiny_writer.specs.Written as tiny-writer
use Rattle.tiny_writer.proofs.laws.Shown.{Lies, rows-given, texts-given, place_at, run-stands, good-at, run-lies, pool-stands, pool-lies-last, none-past, run-or-pool, none-pool}
use Rattle.tiny_writer.proofs.laws.Written.{written-within, written-holds, written-reads-back}
use Rattle.verdict.specs.Said.{says, refused, write_said}

-- ---- tiny images
module _ (x : tiny-parts.Parts) (rest : List ℕ) (good : rule46 x.run ≡ None) (k : Kinds) (c : ℕ) (e : judged k (image x ++ rest) ≡ Ok c) where
  -- what the reader is lent
  abbrev s : List ℕ
  s = image x ++ rest

  -- where item i stands
  abbrev place : ℕ → ℕ
  place i = place_at x rest good i

  -- ---- the texts of the pool are those given
  texts-listed : has_pool k ≡ true → (o : Option (List ℕ)) → x.pool ≡ o → texts s (pool k s) ≡ given_texts o
  unfolding texts split tab
  texts-listed on None o = ap (texts s) (none-pool x rest good k o)
  texts-listed on (Some d) o =
      let lies = pool-lies-last x rest good d o in
      ap (texts s) (pool-is k s c e (given_count x) (place (given_count x)) (pool-stands x rest good d o) on lies.tag)
      ∙ texts-given s (place (given_count x)) d lies

  texts-are : texts s (pool k s) ≡ texts_for k x
  unfolding texts split tab
  texts-are = go (has_pool k) refl
    where
      go : (b : Bool) → has_pool k ≡ b → texts s (pool k s) ≡ cond b (given_texts x.pool) []
      go true on = texts-listed on x.pool refl
      go false off = ap (texts s) (no-pool k s off)

  -- so an index refers to the string given
  referred-given : (n : ℕ) → string_value (referred k s n) ≡ given_string k x n
  referred-given n =
      ap (λ (ts : List (List ℕ)). string_value (cond (ltb n (length ts)) (tiny.text (get_or ts n [])) tiny.undecodable)) texts-are
      ∙ go (ltb n (length (texts_for k x)))
    where
      go : (b : Bool) → string_value (cond b (tiny.text (get_or (texts_for k x) n [])) tiny.undecodable) ≡ cond b (rows.text (get_or (texts_for k x) n [])) rows.undecodable
      go true = refl
      go false = refl

  -- ---- items
  -- at the place of item i of the run, the rows of its tag are those over the item given
  given-rows : (i : ℕ) → i < given_count x → cond (is_known k s (place i)) (item_shown k s (place i)) [] ≡ rows_given k x (given_item x i)
  given-rows i h =
      let p : ℕ = place i in
      let lies = run-lies x rest good i h in
      let shown : item_shown k s p ≡ shown_rows (given_string k x) (given_item x i) 2 (byte (given_item x i) 1) (table (shape_of (byte (given_item x i) 0))) =
      ap (λ (look : ℕ → Value). shown_rows look s (data_at s p) (data_length s p) (table (shape_of (byte s p)))) (λ j n. referred-given n j)
      ∙ rows-given (given_string k x) s p (given_item x i) (good-at x rest good i h) lies in
      ap₂ (λ (tag : ℕ) (l : List Field). cond (listed k (Tag tag)) l []) lies.tag shown

  item-back : (i : ℕ) → i < given_count x → ShowsItem k x (given_item x i) ((answers Tiny k s).item i)
  unfolding item_at
  item-back i h =
      record {
        value = (view Tiny k s).item (place i);
        said = item-given Tiny k s c e i ∙ ap (item_from (view Tiny k s)) (run-stands x rest good i h);
        kind = ap Tag (run-lies x rest good i h).tag;
        size = (run-lies x rest good i h).length;
        fields = rows-at Tiny k s (place i) ∙ given-rows i h;
      }

  -- the pool's fields, where it lies
  pool-fields : (p : ℕ) (d : List ℕ) → Lies s p (0x01 ∷ (length d ∷ d))
      → tiny_fields (field_values s (item_at k s (pool k s) p).item) ≡ cond (has_pool k) (tiny-fields (tiny.pool (length (split d)) (p + 2) (length d))) not_known
  unfolding item_at shape_of pool_shown next head_size
  pool-fields p d lies =
      ap (λ (tag : ℕ). tiny_fields (field_values s (cond (listed k (Tag tag)) (fields_at s (pool k s) (shape_of tag) p) Item.NotKnown))) lies.tag ∙ go (has_pool k)
    where
      start : data_at s p ≡ p + 2
      start = ap (λ (tag : ℕ). p + head_size tag) lies.tag

      long : next s p - data_at s p ≡ length d
      long = omega (arith, lies.length)

      go : (b : Bool) → tiny_fields (field_values s (cond b (fields_at s (pool k s) Shape.Pool p) Item.NotKnown))
          ≡ cond b (tiny-fields (tiny.pool (length (split d)) (p + 2) (length d))) not_known
      go true = λ j. tiny-fields (tiny.pool (length (texts-given s p d lies j)) (start j) (long j))
      go false = refl

  pool-back : (d : List ℕ) → x.pool ≡ Some d → ShowsPool k d ((answers Tiny k s).item (given_count x))
  unfolding item_at
  pool-back d o =
      let lies = pool-lies-last x rest good d o in
      record {
        value = (view Tiny k s).item (place (given_count x));
        said = item-given Tiny k s c e (given_count x) ∙ ap (item_from (view Tiny k s)) (pool-stands x rest good d o);
        kind = ap Tag lies.tag;
        size = lies.length;
        fields = pool-fields (place (given_count x)) d lies;
      }

  end-back : (i : ℕ) → given_count x + length (pool_items x.pool) ≤ i → (answers Tiny k s).item i ≡ refused 42 0
  end-back i h = item-given Tiny k s c e i ∙ ap (item_from (view Tiny k s)) (none-past x rest good i h)

  -- ---- strings and the name, with 01 on the list
  module _ (on : has_pool k ≡ true) where
    texts-on : texts s (pool k s) ≡ given_texts x.pool
    texts-on = texts-listed on x.pool refl

    string-back : (n : ℕ) → n < length (given_texts x.pool) → (answers Tiny k s).further.string n ≡ says (tiny.text (get_or (given_texts x.pool) n []))
    unfolding answers
    string-back =
        subst (λ (ts : List (List ℕ)). (n : ℕ) → n < length ts → string_said s (string_numbered k s n) ≡ says (tiny.text (get_or ts n []))) texts-on (string-text k s c e on)

    no-string-back : (n : ℕ) → length (given_texts x.pool) ≤ n → (answers Tiny k s).further.string n ≡ refused 42 0
    unfolding answers
    no-string-back =
        subst (λ (ts : List (List ℕ)). (n : ℕ) → length ts ≤ n → string_said s (string_numbered k s n) ≡ refused 42 0) texts-on (string-beyond k s c e on)

    module _ (mark : has_serial k ≡ true) (i : ℕ) (serial : OnlySerial x i) where
      -- the only serial of the run is that of the image
      tag-of : (q : ℕ) → is_serial k s q ≡ true → byte s q ≡ 0x10
      tag-of q t = eqb-true (byte s q) 0x10 ((and-eq-true_iff (has_serial k) (eqb (byte s q) 0x10)).0 t).1

      lies : Lies s (place i) (given_item x i)
      lies = run-lies x rest good i serial.below

      only-back : only (serials k s) ≡ Some (place i)
      only-back =
          only-number (is_serial k s) (items s) i (place i) (run-stands x rest good i serial.below)
          (ap₂ (λ (a b : Bool). a && b) mark (eq-eqb (byte s (place i)) 0x10 (lies.tag ∙ serial.serial)))
          (run-or-pool x rest good (λ j q. is_serial k s q ≡ true → j ≡ i)
          (λ j h t. serial.alone j h (sym (run-lies x rest good j h).tag ∙ tag-of (place j) t))
          (λ d o t. absurd (omega (arith, (pool-lies-last x rest good d o).tag, tag-of (place (given_count x)) t))))

      -- its data byte is that given
      one-byte : data_length s (place i) ≡ 1
      unfolding data_length
      one-byte = ap (λ (tag : ℕ). cond (is_long tag) (byte s (place i + 1)) (tag / 16)) (lies.tag ∙ serial.serial)

      index : byte s (data_at s (place i)) ≡ byte (given_item x i) 2
      index = ap (byte s) (sym (add-zero (data_at s (place i)))) ∙ lies.bytes 0 (omega (arith, one-byte, lies.length))

      name-back : (b : List ℕ) → length (given_name x i) ≤ length b
          → (answers Tiny k s).further.name b ≡ (says (length (given_name x i)), given_name x i ++ drop (length (given_name x i)) b)
      unfolding answers
      name-back b =
          subst
          (λ (name : List ℕ). length name ≤ length b → (answers Tiny k s).further.name b ≡ (says (length name), name ++ drop (length name) b))
          (ap₂ (λ (ts : List (List ℕ)) (n : ℕ). get_or ts n []) texts-on index)
          (λ room. ap (λ (a : NameAnswer × List ℕ). (name_said a.0, a.1)) (name-is-text k s c e (place i) only-back on b room))

  image-shows : TinyShows x k (answers Tiny k s)
  image-shows =
      record {
        item = item-back;
        pool = pool-back;
        end = end-back;
        string = string-back;
        no_string = no-string-back;
        name = name-back;
      }

-- what is written is the image and other bytes; what the full list accepts, any list accepts
pub written-tiny : (x : tiny-parts.Parts) (b : List ℕ) (n : ℕ) → write_said (tiny-writer.written x b).0 ≡ says n → (k : Kinds)
    → TinyShows x k (answers Tiny k (tiny-writer.written x b).1)
written-tiny x b n told k =
    let count : ℕ = given_count x + length (pool_items x.pool) in
    let holds : (tiny-writer.written x b).1 ≡ image x ++ drop n b = written-holds x b n told in
    let accepted : judged full (image x ++ drop n b) ≡ Ok count =
    subst (λ (t : List ℕ). judged full t ≡ Ok count) holds (written-reads-back x b n told).accepted in
    subst (λ (t : List ℕ). TinyShows x k (answers Tiny k t)) (sym holds)
    (image-shows x (drop n b) (written-within x b n told).0 k count (shorter-accepts full k (full-contains k) (image x ++ drop n b) count accepted))

-- ---- board images
-- what the format's own call shows is said by number
board-said : (k : Kinds) (s : List ℕ) (i : ℕ) (v : ShownItem) → board-answers.item_numbered k s i ≡ Ok v
    → (answers Board k s).item i ≡ says (item_values s (board-over.Item.Board v))
unfolding answers
board-said k s i v e = ap (item_said s) (sym (board-numbered k s i) ∙ ap from_board e)

pub written-board : (x : board-parts.Parts) → board-parts.Fits x → (b : List ℕ) (n : ℕ) → write_said (board-writer.written x b).0 ≡ says n
    → (m : ℕ) → n ≤ m → m ≤ 65536 → (k : Kinds) → BoardShows x (answers Board k (take m (board-writer.written x b).1))
unfolding answers
written-board x fits b n told m h most k =
    let t : List ℕ = take m (board-writer.written x b).1 in
    let a = written-answers x b n told fits m h most k in
    record {
      header = board-said k t 0 (structure_shown eeprom 0 (header_length x.header) (Fields.Eeprom (header_shown x))) a.header;
      map = board-said k t 1 (structure_shown eepr_map (map_place x) (map_length x) (Fields.EeprMap (map_shown x))) a.map;
      board = board-said k t 2 (structure_shown brd_info (board_place x) board_length (Fields.BrdInfo x.board)) a.board;
      map_record = λ i l. ap map_record_said (a.records i l);
      no_map_record = λ i l. ap map_record_said (a.past i l);
    }
