-- `structures::map_bytes` meets its contract: each put fills the next field. Assumes nothing.
use Rattle.std.proofs.Common.{◌≡◌, ℕ, List, ◌++◌, refl, sym, ◌∙◌, ap, rules, set}
use Rattle.octets.specs.Bytes.{spelled}
use Rattle.octets.proofs.laws.Spelled.{low-bytes}
use Rattle.octets.specs.Put.{put}
use Rattle.octets.specs.Runs.{sixteen}
use Rattle.octets.proofs.laws.Bytes.{sixteen-all}
use Rattle.chain.specs.Fill.{tab}
use Rattle.board_writer.proofs.laws.Building.{put-known}
use Rattle.board_writer.specs.Image.{head, zeros}
use Rattle.kinds.specs.Signatures.{eepr_map}
use Rattle.board_writer.proofs.structures.map_bytes.Goals as goal

pub returns : goal.returns
unfolding put spelled tab
returns c = let a = c.args in
    let e0 : zeros 48 ≡ zeros 48 = refl in
    let f1 : List ℕ = head eepr_map a.length in
    let e1 : _ ≡ f1 ++ zeros 32 = put-known 0 c.put_at.ensures c.head_bytes.ensures e0 in
    let f2 : List ℕ = f1 ++ sixteen a.map.partlabel in
    let e2 : _ ≡ f2 ++ zeros 16 = put-known 0x10 c.put_at-2.ensures (sym (sixteen-all a.map.partlabel (search rules))) e1 in
    let f3 : List ℕ = f2 ++ spelled 4 a.map.blklength in
    let e3 : _ ≡ f3 ++ zeros 12 = put-known 0x20 c.put_at-3.ensures (c.to_le_bytes.ensures ∙ low-bytes 4 a.map.blklength) e2 in
    let f4 : List ℕ = f3 ++ spelled 2 a.map.pagesize in
    let e4 : _ ≡ f4 ++ zeros 10 = put-known 0x24 c.put_at-4.ensures (c.to_le_bytes-2.ensures ∙ low-bytes 2 a.map.pagesize) e3 in
    let f5 : List ℕ = f4 ++ spelled 4 a.map.partsize in
    let e5 : _ ≡ f5 ++ zeros 6 = put-known 0x26 c.put_at-5.ensures (c.to_le_bytes-3.ensures ∙ low-bytes 4 a.map.partsize) e4 in
    ap (λ (l : List ℕ). set (set (set l 0x2A a.map.busnumber) 0x2B a.map.master) 0x2C a.map.speed) e5
