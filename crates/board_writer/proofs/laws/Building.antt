-- How the code builds an image in a block: fields put into a structure, structures put one after the other, records by a loop, and the header last.
-- Assumes nothing.
use Prim.Native.Nat.{ℕ, ◌+◌, ◌-◌, ◌*◌, ◌≤◌}
use mathlib.Core.List.{List, [], ◌++◌, append_assoc, append-nil, flatten}
use Rattle.std.specs.Prelude.{◌≡◌, length, take, drop}
use Rattle.std.proofs.Math.Path.{refl, ap, subst}
use Rattle.std.proofs.Common.{sym, ap₂, ◌∙◌, add-one, arith, length-append, length-drop, take-append-drop, length-take-le}
use Rattle.std.proofs.Math.Seq.{take-append_seam, drop-append_seam}
use Rattle.board_layout.specs.Layout.{header_length}
use Rattle.board_layout.specs.Places.{MapData, map_record_size}
use Rattle.board_layout.specs.declared.Header.{Header}
use Rattle.board_layout.specs.declared.Header.TheVariants.{Short, Long}
use Rattle.board_writer.specs.Image.{zeros, head, header_of, map_of, board_of, laid_record, laid_records, map_length, map_place, image_length, body}
use Rattle.board_writer.specs.Parts.{Parts, record_count}
use Rattle.board_writer.proofs.laws.Length.{header-length, record-length}
use Rattle.octets.proofs.laws.Pieces.{flat-more}
use Rattle.chain.specs.Fill.{tab}
use Rattle.kinds.specs.Signatures.{eeprom}
use Rattle.octets.specs.Bytes.{spelled}
use Rattle.octets.specs.Put.{put, Holds}
use Rattle.octets.proofs.laws.Put.{holds-more}

-- what a block is after a put, where the bytes and the block before it are known
pub put-known : (at : ℕ) {one bytes known block before : List ℕ} → one ≡ put bytes at block → bytes ≡ known → block ≡ before → one ≡ put known at before
put-known at e f g = e ∙ ap₂ (λ (x y : List ℕ). put x at y) f g

-- ---- the header: its fields and sixteen zeros are the header and what is left of them, and the front that is laid is the header
pub header-whole : (h : Header) (end check covers version : ℕ)
    → head eeprom (header_length h) ++ spelled 4 end ++ spelled 4 check ++ spelled 4 covers ++ spelled 4 version ++ zeros 16
    ≡ header_of h end check covers version ++ zeros (0x30 - header_length h)
unfolding spelled
header-whole Short end check covers version = refl
header-whole Long end check covers version = refl

pub header-part : (h : Header) (end check covers version n : ℕ) (bytes : List ℕ) → n ≡ header_length h
    → bytes ≡ header_of h end check covers version ++ zeros (0x30 - header_length h) → take n bytes ≡ header_of h end check covers version
header-part h end check covers version n bytes e d =
    let header : List ℕ = header_of h end check covers version in
    let k : n ≡ length header = omega (arith, header-length h end check covers version) in
    ap₂ take k d ∙ take-append_seam header (zeros (0x30 - header_length h))

-- ---- the records, laid from a place on behind what is there
module _ (r : List ℕ) (block start : ℕ) where
  records-none : laid_records r block 0 ≡ []
  unfolding laid_records tab flatten
  records-none = refl

  records-more : (k : ℕ) → laid_records r block (k + 1) ≡ laid_records r block k ++ laid_record r block k
  unfolding laid_records
  records-more k = ap (λ (n : ℕ). flatten (tab (laid_record r block) n)) (add-one k) ∙ flat-more (laid_record r block) k

  -- how far it is after k of them
  abbrev pub Laying : List ℕ → ℕ → List ℕ → Type 0
  Laying front k image = Holds image (start + map_record_size * k) (front ++ laid_records r block k) 65536

  pub laying-start : (image : List ℕ) → length image ≡ 65536 → Laying (take start image) 0 image
  laying-start image long =
      let k : start + map_record_size * 0 ≡ start = omega arith in
      record {
        front = ap (λ (n : ℕ). take n image) k ∙ sym (append-nil (take start image)) ∙ ap (λ (l : List ℕ). take start image ++ l) (sym records-none);
        long = long;
      }

  pub laying-turn : (front image two bytes : List ℕ) (k at : ℕ) → at ≡ start + map_record_size * k → at + map_record_size ≤ 65536
      → bytes ≡ laid_record r block k → two ≡ put bytes at image → Laying front k image → Laying front (k + 1) two
  laying-turn front image two bytes k at a fits b e h =
      let l : List ℕ = laid_record r block k in
      let n : length l ≡ map_record_size = record-length r block k in
      let more = holds-more image (front ++ laid_records r block k) l (start + map_record_size * k) 65536 h (omega arith) in
      let same : two ≡ put l (start + map_record_size * k) image = e ∙ ap₂ (λ (x : List ℕ) (p : ℕ). put x p image) b a in
      let far : start + map_record_size * (k + 1) ≡ start + map_record_size * k + length l = omega arith in
      record {
        front =
            ap₂ take far same ∙ more.front ∙ append_assoc front (laid_records r block k) l
            ∙ ap (λ (x : List ℕ). front ++ x) (sym (records-more k));
        long = ap length same ∙ more.long;
      }

  pub laying-done : (front image : List ℕ) (k n : ℕ) → k ≡ n → Laying front k image → Laying front n image
  laying-done front image k n e h = subst (λ (m : ℕ). Laying front m image) e h

-- ---- bytes put where those end that a block holds
pub holds-next : (block bytes known two : List ℕ) (more : List ℕ) (to at end room : ℕ) → at ≡ to → end ≡ to + length known → end ≤ room
    → more ≡ known → two ≡ put more at block → Holds block to bytes room → Holds two end (bytes ++ known) room
holds-next block bytes known two more to at end room a e fits k d h =
    let held = holds-more block bytes known to room h (omega arith) in
    let same : two ≡ put known to block = d ∙ ap₂ (λ (x : List ℕ) (p : ℕ). put x p block) k a in
    record { front = ap₂ take e same ∙ held.front; long = ap length same ∙ held.long }

-- another front of the same length
pub holds-front : (block two front other rest : List ℕ) (size n room : ℕ) → length front ≡ size → length other ≡ size → two ≡ other ++ drop size block
    → n ≤ room → Holds block n (front ++ rest) room → Holds two n (other ++ rest) room
holds-front block two front other rest size n room f o e fits h =
    let tail : List ℕ = drop n block in
    let whole : front ++ (rest ++ tail) ≡ block =
    sym (append_assoc front rest tail) ∙ ap (λ (l : List ℕ). l ++ tail) (sym h.front) ∙ take-append-drop n block in
    let kept : drop size block ≡ rest ++ tail = ap₂ drop (sym f) (sym whole) ∙ drop-append_seam front (rest ++ tail) in
    let now : two ≡ other ++ rest ++ tail = e ∙ ap (λ (l : List ℕ). other ++ l) kept ∙ sym (append_assoc other rest tail) in
    let sum : length rest + size ≡ n =
    omega (arith, length-append front rest, ap length h.front, length-take-le n block (omega (arith, h.long))) in
    let end : n ≡ length (other ++ rest) = omega (arith, length-append other rest) in
    record {
      front = ap₂ take end now ∙ take-append_seam (other ++ rest) tail;
      long = ap length now ∙ length-append (other ++ rest) tail ∙ omega (arith, length-drop n block, h.long);
    }

-- ---- all that follows the header: the map, its records, the board structure, the further bytes
module _ (x : Parts) (image : List ℕ) (fits : image_length x ≤ 65536) (long : length image ≡ 65536) (start : ℕ) (here : start ≡ map_place x) where
  abbrev front : List ℕ
  front = take (map_place x) image

  abbrev map : List ℕ
  map = map_of (map_length x) x.map

  abbrev records : List ℕ
  records = laid_records x.records x.map.blklength (record_count x)

  pub holds-map : (one head : List ℕ) → head ≡ map → one ≡ put head start image → Holds one (map_place x + MapData) (front ++ map) 65536
  unfolding spelled tab
  holds-map one head h e =
      holds-next image front map one head (map_place x) start (map_place x + MapData) 65536 here refl (omega arith) h e (record { front = refl; long = long })

  in-order : front ++ map ++ records ++ board_of x.board ++ x.further ≡ front ++ body x
  unfolding body
  in-order =
      let board : List ℕ = board_of x.board in
      ap (λ (l : List ℕ). l ++ board ++ x.further) (append_assoc front map records)
      ∙ ap (λ (l : List ℕ). l ++ x.further) (append_assoc front (map ++ records) board)
      ∙ append_assoc front (map ++ records ++ board) x.further

  pub holds-body : (one two three four head board : List ℕ) (at : ℕ) → head ≡ map → one ≡ put head start image
      → Holds two (start + MapData + map_record_size * record_count x) (take (start + MapData) one ++ records) 65536
      → at ≡ start + map_length x → board ≡ board_of x.board → three ≡ put board at two → four ≡ put x.further (at + 0x60) three
      → Holds four (image_length x) (front ++ body x) 65536
  unfolding spelled tab
  holds-body one two three four head board at h e held a b d c =
      let second : Holds two (map_place x + MapData + map_record_size * record_count x) (front ++ map ++ records) 65536 =
      subst (λ (l : List ℕ). Holds two (map_place x + MapData + map_record_size * record_count x) (l ++ records) 65536) (holds-map one head h e).front
      (subst (λ (p : ℕ). Holds two (p + MapData + map_record_size * record_count x) (take (p + MapData) one ++ records) 65536) here held) in
      let third =
      holds-next two (front ++ map ++ records) (board_of x.board) three board (map_place x + MapData + map_record_size * record_count x) at (at + 0x60) 65536
      (omega (arith, here)) (omega (arith, here)) (omega (arith, here)) b d second in
      subst (λ (l : List ℕ). Holds four (image_length x) l 65536) in-order
      (holds-next three (front ++ map ++ records ++ board_of x.board) x.further four x.further (at + 0x60) (at + 0x60) (image_length x) 65536
      refl (omega (arith, here)) fits refl c third)
