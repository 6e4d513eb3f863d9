-- `structures::head_bytes` meets its contract: each put fills the next field. Assumes nothing.
use Rattle.std.proofs.Common.{◌≡◌, ℕ, List, ◌++◌, refl, ◌∙◌, ap, set}
use Rattle.octets.proofs.laws.Spelled.{low-bytes}
use Rattle.octets.specs.Bytes.{spelled}
use Rattle.octets.specs.Put.{put}
use Rattle.board_writer.proofs.laws.Building.{put-known}
use Rattle.board_writer.specs.Image.{zeros}
use Rattle.board_writer.proofs.structures.head_bytes.Goals as goal

pub returns : goal.returns
unfolding put spelled
returns c = let a = c.args in
    let e0 : zeros 16 ≡ zeros 16 = refl in
    let f1 : List ℕ = spelled 8 a.signature in
    let e1 : _ ≡ f1 ++ zeros 8 = put-known 0 c.put_at.ensures (c.to_le_bytes.ensures ∙ low-bytes 8 a.signature) e0 in
    put-known 12 c.put_at-2.ensures (c.to_le_bytes-2.ensures ∙ low-bytes 4 a.length) (ap (λ (l : List ℕ). set l 8 1) e1)
