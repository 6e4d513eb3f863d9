-- `structures::record_bytes` meets its contract: each put fills the next field. Assumes nothing.
use Rattle.std.proofs.Common.{◌≡◌, ℕ, List, ◌++◌, refl, sym, ◌∙◌, ap, rules, set, take}
use Rattle.board_layout.specs.Places.{map_record_size}
use Rattle.board_writer.proofs.laws.Building.{put-known}
use Rattle.board_writer.specs.Image.{zeros, record_of}
use Rattle.chain.specs.Fill.{tab}
use Rattle.octets.proofs.laws.Bytes.{sixteen-all}
use Rattle.octets.specs.Bytes.{spelled}
use Rattle.octets.proofs.laws.Spelled.{low-bytes}
use Rattle.octets.specs.Put.{put}
use Rattle.octets.specs.Runs.{sixteen}
use Rattle.board_writer.proofs.structures.record_bytes.Goals as goal

pub returns : goal.returns
unfolding put spelled tab
returns c = let a = c.args in
    let whole : sixteen a.label ≡ a.label = sixteen-all a.label (search rules) in
    let e0 : zeros 32 ≡ zeros 32 = refl in
    let f1 : List ℕ = sixteen a.label in
    let e1 : _ ≡ f1 ++ zeros 16 = put-known 0 c.put_at.ensures (sym whole) e0 in
    let f2 : List ℕ = f1 ++ spelled 4 map_record_size in
    let e2 : _ ≡ f2 ++ zeros 12 = put-known 0x10 c.put_at-2.ensures (c.to_le_bytes.ensures ∙ low-bytes 4 map_record_size) e1 in
    let f3 : List ℕ = f2 ++ spelled 4 a.offset in
    let e3 : _ ≡ f3 ++ zeros 8 = put-known 0x14 c.put_at-3.ensures (ap (take 4) c.to_le_bytes-2.ensures ∙ low-bytes 4 a.offset) e2 in
    ap (λ (l : List ℕ). set l 0x18 a.address) e3
    ∙ ap (λ (l : List ℕ). record_of l a.offset a.address) whole
