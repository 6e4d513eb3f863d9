-- The generic head of a structure in two numbers of eight bytes: the signature, and what holds VerMajor, VerMinor and Length. And the head at the front of
-- the sixteen bytes from a place on is the head at that place. Assumes nothing.
use Rattle.std.specs.Prelude.{ℕ, ◌+◌, ◌/◌, ◌%◌, List, ◌≡◌, take, drop}
use Rattle.std.proofs.Common.{ap, ◌∙◌, add-zero, arith}
use Rattle.board_layout.specs.Layout.{minor_at, length_at, head_at}
use Rattle.octets.specs.Bytes.{Octets, le16, le32, le64}
use Rattle.octets.proofs.laws.Parts.{le64-low, le64-next, le64-high, le16-part-at, le32-part-at, le64-part-at}

pub head-parts :
    (s : List ℕ) → Octets s → (p : ℕ) →
    record {
      signature = le64 s p;
      major = le64 s (p + 8) % 65536;
      minor = le64 s (p + 8) / 65536 % 65536;
      length = le64 s (p + 8) / 4294967296;
    }
    ≡ head_at s p
head-parts s octets p =
    let minor : le64 s (p + 8) / 65536 % 65536 ≡ minor_at s p = le64-next s octets (p + 8) ∙ ap (le16 s) (omega arith) in
    let length : le64 s (p + 8) / 4294967296 ≡ length_at s p = le64-high s octets (p + 8) ∙ ap (le32 s) (omega arith) in
    rw (le64-low s octets (p + 8), minor, length)

pub head-part : (s : List ℕ) (p : ℕ) → head_at (take 16 (drop p s)) 0 ≡ head_at s p
head-part s p =
    rw (
      le64-part-at 16 s p 0 (omega arith),
      le16-part-at 16 s p 8 (omega arith),
      le16-part-at 16 s p 10 (omega arith),
      le32-part-at 16 s p 12 (omega arith),
      add-zero p,
    )
