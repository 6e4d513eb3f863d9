-- What is accepted is rebuilt to the last byte: what is read of a board image without `$PromSig` and with minor 0 in its first three structures, that a reader
-- with the full list accepts, is written as its first StructLen bytes. Assumes nothing.
use Rattle.std.specs.Prelude.{ℕ, ◌+◌, ◌≤◌, List, ◌++◌, ◌≡◌, length, take, drop, None, Ok}
use Rattle.std.proofs.Common.{sym, ap, ◌∙◌, arith, get_or-take, length-take-le}
use Rattle.board_layout.specs.Layout.{struct_len}
use Rattle.board_layout.specs.Places.{Crc32, CrcLength}
use Rattle.board_rules.specs.Judged.{judged}
use Rattle.board_rules.specs.Rules.{prom_sig_at}
use Rattle.board_rules.proofs.laws.Front.{front-accepted}
use Rattle.board_rules.proofs.laws.Accepted.{lent-within, struct-len-within, struct-len-least}
use Rattle.board_writer.specs.Image.{image}
use Rattle.board_writer.specs.Parts.{rule46}
use Rattle.board_writer.specs.PartsOf.{parts_of, Rebuildable}
use Rattle.board_writer.specs.Written.{written}
use Rattle.board_writer.proofs.laws.Check.{image-accepted}
use Rattle.board_writer.proofs.laws.Front.{same-signed}
use Rattle.board_writer.proofs.laws.Laid.{length-parts, laid-parts}
use Rattle.board_writer.proofs.laws.Order.{whole-records}
use Rattle.board_writer.proofs.laws.Records.{records-length}
use Rattle.board_writer.proofs.laws.Written.{Writable, written-exactly, written-holds}
use Rattle.kinds.specs.Kinds.{full}
use Rattle.octets.specs.Bytes.{Octets, le32}
use Rattle.octets.proofs.laws.Same.{Same, le32-same}
use Rattle.verdict.specs.Said.{says, write_said}

module _ (s : List ℕ) (n : ℕ) (e : judged full s ≡ Ok n) (r : Rebuildable s) where
  -- ---- the first StructLen bytes are read as the image is
  abbrev front : List ℕ
  front = take (struct_len s) s

  -- StructLen is within what is lent
  within : (0x20 ≤ struct_len s) × (struct_len s ≤ length s)
  within = (struct-len-least full s n e, (struct-len-within full s n e).1)

  most : struct_len s ≤ 65536
  most = omega (arith, within.1, (lent-within full s n e).1)

  -- the front agrees with the image, has StructLen bytes, is accepted and has no `$PromSig`
  same : Same s front 0 (struct_len s)
  same q _ h = sym (get_or-take (struct_len s) s q 0 h)

  front-length : length front ≡ struct_len s
  front-length = length-take-le (struct_len s) s within.1

  accepted : judged full front ≡ Ok n
  accepted = front-accepted full s n e

  front-unsigned : prom_sig_at front ≡ None
  front-unsigned = same-signed full s front n e same ∙ r.unsigned

  module _ (octets : Octets s) where
    -- ---- the image made of what is read is these bytes
    pub image-parts : image (parts_of s) ≡ take (struct_len s) s
    image-parts =
        let laid = laid-parts s n e r octets in
        let field : (p : ℕ) → p + 4 ≤ 0x20 → le32 front p ≡ le32 s p =
        λ p h. sym (le32-same s front 0 (struct_len s) same p (omega arith) (omega (arith, within.0))) in
        image-accepted (parts_of s) full (le32 s Crc32) (le32 s CrcLength) n (ap (judged full) laid ∙ accepted)
        (ap (λ (t : List ℕ). le32 t Crc32) laid ∙ field Crc32 (omega arith)) (ap (λ (t : List ℕ). le32 t CrcLength) laid ∙ field CrcLength (omega arith))
        ∙ laid

    -- ---- the writer accepts it
    -- no rule of its own is broken
    whole-seventeens : rule46 (parts_of s) ≡ None
    unfolding parts_of
    whole-seventeens = whole-records (parts_of s) (omega (arith, records-length s n e))

    writable : (buffer : List ℕ) → struct_len s ≤ length buffer → Writable (parts_of s) buffer (struct_len s)
    writable buffer room =
        record {
          whole = whole-seventeens;
          size = sym (length-parts s n e);
          most = most;
          room = room;
          count = n;
          accepted = ap (judged full) image-parts ∙ accepted;
          unsigned = ap prom_sig_at image-parts ∙ front-unsigned;
        }

    -- so it is written, into every buffer that is long enough, and the buffer's rest stays
    pub rebuilt : (buffer : List ℕ) → struct_len s ≤ length buffer
        → (write_said (written (parts_of s) buffer).0 ≡ says (struct_len s))
        × ((written (parts_of s) buffer).1 ≡ take (struct_len s) s ++ drop (struct_len s) buffer)
    rebuilt buffer room =
        let told = (written-exactly (parts_of s) buffer (struct_len s)).1 (writable buffer room) in
        (told, written-holds (parts_of s) buffer (struct_len s) told ∙ ap (λ (l : List ℕ). l ++ drop (struct_len s) buffer) image-parts)
