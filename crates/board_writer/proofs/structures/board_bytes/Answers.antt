-- `structures::board_bytes` meets its contract: each put fills the next field. Assumes nothing.
use Rattle.std.proofs.Common.{◌≡◌, ℕ, List, ◌++◌, refl, sym, ◌∙◌, ap, rules, set}
use Rattle.octets.specs.Bytes.{spelled}
use Rattle.octets.proofs.laws.Spelled.{low-bytes}
use Rattle.octets.specs.Put.{put}
use Rattle.octets.specs.Runs.{sixteen}
use Rattle.octets.proofs.laws.Bytes.{sixteen-all}
use Rattle.chain.specs.Fill.{tab}
use Rattle.board_writer.proofs.laws.Building.{put-known}
use Rattle.board_writer.specs.Image.{head, zeros}
use Rattle.kinds.specs.Signatures.{brd_info}
use Rattle.board_writer.proofs.structures.board_bytes.Goals as goal

pub returns : goal.returns
unfolding put spelled tab
returns c = let a = c.args in
    let e0 : zeros 96 ≡ zeros 96 = refl in
    let f1 : List ℕ = head brd_info 0x60 in
    let e1 : _ ≡ f1 ++ zeros 80 = put-known 0 c.put_at.ensures c.head_bytes.ensures e0 in
    let f2 : List ℕ = f1 ++ sixteen a.board.manuname in
    let e2 : _ ≡ f2 ++ zeros 64 = put-known 0x10 c.put_at-2.ensures (sym (sixteen-all a.board.manuname (search rules))) e1 in
    let f3 : List ℕ = f2 ++ sixteen a.board.brdname in
    let e3 : _ ≡ f3 ++ zeros 48 = put-known 0x20 c.put_at-3.ensures (sym (sixteen-all a.board.brdname (search rules))) e2 in
    let f4 : List ℕ = f3 ++ sixteen a.board.brdserial in
    let e4 : _ ≡ f4 ++ zeros 32 = put-known 0x30 c.put_at-4.ensures (sym (sixteen-all a.board.brdserial (search rules))) e3 in
    let f5 : List ℕ = f4 ++ spelled 4 a.board.boardid in
    let e5 : _ ≡ f5 ++ zeros 28 = put-known 0x40 c.put_at-5.ensures (c.to_le_bytes.ensures ∙ low-bytes 4 a.board.boardid) e4 in
    let f6 : List ℕ = f5 ++ spelled 4 a.board.fabid in
    let e6 : _ ≡ f6 ++ zeros 24 = put-known 0x44 c.put_at-6.ensures (c.to_le_bytes-2.ensures ∙ low-bytes 4 a.board.fabid) e5 in
    let f7 : List ℕ = f6 ++ spelled 4 a.board.ecid in
    let e7 : _ ≡ f7 ++ zeros 20 = put-known 0x48 c.put_at-7.ensures (c.to_le_bytes-3.ensures ∙ low-bytes 4 a.board.ecid) e6 in
    ap (λ (l : List ℕ). set l 0x4C a.board.boardtype) e7
