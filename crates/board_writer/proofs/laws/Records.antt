-- The map's records: the run that is read of them has seventeen bytes for each, label and address, so the records that are laid of it are the bytes of the
-- image. Assumes nothing.
use Prim.Native.Nat.{ℕ, ◌+◌, ◌*◌, ◌<◌}
use mathlib.Core.List.{List, [], flatten, append-nil}
use Rattle.std.specs.Prelude.{◌≡◌, refl, length, take, Ok}
use Rattle.std.proofs.Common.{sym, subst, ◌∙◌, arith}
use Rattle.std.proofs.Math.Path.{ap, ap₂}
use Rattle.board.specs.Records.{map_record_at}
use Rattle.board_layout.specs.Layout.{map_at, records, map_count}
use Rattle.board_layout.specs.Places.{BlkLength, MapData, MapLabel, Address, map_record_size}
use Rattle.board_layout.specs.declared.Records.TheVariants.{Map}
use Rattle.board_rules.specs.Judged.{judged}
use Rattle.board_rules.proofs.laws.Accepted.{map-head, record-place}
use Rattle.board_rules.proofs.laws.Fields.{GoodMapRecord, map-records, record-offset}
use Rattle.board_writer.specs.Image.{record_of, laid_record, laid_records}
use Rattle.board_writer.specs.Parts.{given_size}
use Rattle.board_writer.specs.PartsOf.{record_given, records_of, Rebuildable}
use Rattle.board_writer.proofs.laws.Fixed.{record-run}
use Rattle.octets.proofs.laws.Lies.{Lies, lies-piece, lies-run}
use Rattle.board_writer.proofs.laws.MapRecords.{run-records}
use Rattle.octets.proofs.laws.Pieces.{flat-length, flat-runs}
use Rattle.board_writer.proofs.laws.Reserved.{record-zero}
use Rattle.chain.specs.Fill.{tab}
use Rattle.chain.proofs.laws.Fill.{tab-agree}
use Rattle.chain.proofs.laws.Nth.{nth-all}
use Rattle.kinds.specs.Kinds.{full}
use Rattle.octets.specs.Bytes.{byte, Octets, run, le32}

module _ (s : List ℕ) (n : ℕ) (e : judged full s ≡ Ok n) where
  -- how many there are, where record k starts, and its seventeen bytes
  abbrev count : ℕ
  count = map_count s (map_at s)

  abbrev place : ℕ → ℕ
  place k = map_at s + MapData + k * map_record_size

  abbrev given : ℕ → List ℕ
  given k = record_given (map_record_at s (place k))

  given-size : (k : ℕ) → length (given k) ≡ given_size
  unfolding tab map_record_at
  given-size k = refl

  -- the run that is read is their seventeens, end to end
  read : records_of s ≡ flatten (tab given count)
  read = run-records s (map_at s) count (map-head full s n e).1 refl

  -- so many bytes
  pub records-length : length (records_of s) ≡ count * given_size
  records-length = ap length read ∙ flat-length given given_size count given-size

  -- so those of record k lie there
  lies : (k : ℕ) → k < count → Lies (records_of s) (k * given_size) (given k)
  lies k h =
      subst (λ (l : List ℕ). Lies l (k * given_size) (given k)) (append-nil (flatten (tab given count)) ∙ sym read)
      (lies-piece given given_size count k [] given-size h)

  -- as a run
  seventeen : (k : ℕ) → k < count → run (records_of s) (given_size * k) given_size ≡ given k
  unfolding tab map_record_at
  seventeen k h = ap (λ (p : ℕ). run (records_of s) p given_size) (omega arith) ∙ lies-run (records_of s) (k * given_size) (given k) (lies k h)

  -- label and address of record k
  label-read : (k : ℕ) → k < count → run (records_of s) (given_size * k) 16 ≡ run s (place k + MapLabel) 16
  unfolding tab map_record_at
  label-read k h = ap (take 16) (seventeen k h)

  address-read : (k : ℕ) → k < count → byte (records_of s) (given_size * k + 16) ≡ byte s (place k + Address)
  unfolding tab map_record_at
  address-read k h = ap (λ (l : List ℕ). byte l 16) (seventeen k h)

  -- ---- the records laid are those of the image
  module _ (r : Rebuildable s) (octets : Octets s) where
    -- each, and all of them
    laid-record : (k : ℕ) → k < count → laid_record (records_of s) (le32 s (map_at s + BlkLength)) k ≡ run s (place k) map_record_size
    unfolding laid_record
    laid-record k h =
        let offset : ℕ = k * le32 s (map_at s + BlkLength) in
        let good = nth-all (GoodMapRecord s (map_at s)) (records Map s (map_at s)) k (place k) (map-records full s n e) (record-place full s n e k h) in
        ap₂ (λ (l : List ℕ) (a : ℕ). record_of l offset a) (label-read k h) (address-read k h)
        ∙ record-run s octets (place k) offset good.size (record-offset full s n e k h) (record-zero s n e r k h)

    pub laid-records : laid_records (records_of s) (le32 s (map_at s + BlkLength)) count ≡ run s (map_at s + MapData) (count * map_record_size)
    unfolding laid_records
    laid-records =
        ap flatten
        (tab-agree (laid_record (records_of s) (le32 s (map_at s + BlkLength))) (λ k. run s (place k) map_record_size) count laid-record)
        ∙ flat-runs s map_record_size (map_at s + MapData) count
