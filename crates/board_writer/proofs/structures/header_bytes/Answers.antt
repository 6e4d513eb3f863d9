-- `structures::header_bytes` meets its contract: each put fills the next field. Assumes nothing.
use Rattle.std.proofs.Common.{◌≡◌, ℕ, List, ◌++◌, refl, ◌∙◌, ap}
use Rattle.octets.specs.Bytes.{spelled}
use Rattle.octets.proofs.laws.Spelled.{low-bytes}
use Rattle.octets.specs.Put.{put}
use Rattle.board_writer.proofs.laws.Building.{put-known, header-whole}
use Rattle.board_writer.specs.Image.{head, zeros}
use Rattle.board_layout.specs.Layout.{header_length}
use Rattle.kinds.specs.Signatures.{eeprom}
use Rattle.board_writer.proofs.structures.header_bytes.Goals as goal

pub returns : goal.returns
unfolding put spelled
returns c = let a = c.args in
    let e0 : zeros 48 ≡ zeros 48 = refl in
    let f1 : List ℕ = head eeprom (header_length a.header) in
    let e1 : _ ≡ f1 ++ zeros 32 = put-known 0 c.put_at.ensures (c.head_bytes.ensures ∙ ap (head eeprom) c.header_length.ensures) e0 in
    let f2 : List ℕ = f1 ++ spelled 4 a.end in
    let e2 : _ ≡ f2 ++ zeros 28 = put-known 0x10 c.put_at-2.ensures (c.to_le_bytes.ensures ∙ low-bytes 4 a.end) e1 in
    let f3 : List ℕ = f2 ++ spelled 4 a.check in
    let e3 : _ ≡ f3 ++ zeros 24 = put-known 0x14 c.put_at-3.ensures (c.to_le_bytes-2.ensures ∙ low-bytes 4 a.check) e2 in
    let f4 : List ℕ = f3 ++ spelled 4 a.covers in
    let e4 : _ ≡ f4 ++ zeros 20 = put-known 0x18 c.put_at-4.ensures (c.to_le_bytes-3.ensures ∙ low-bytes 4 a.covers) e3 in
    put-known 0x1C c.put_at-5.ensures (c.to_le_bytes-4.ensures ∙ low-bytes 4 a.version) e4
    ∙ header-whole a.header a.end a.check a.covers a.version
