-- `Parts::lay_header` meets its contract: the first bytes of the array, as many as the header has, are put at the front. Assumes nothing.
use Rattle.std.proofs.Common.{◌≡◌, ℕ, List, ◌++◌, length, drop, ◌∙◌, ap, arith, rules}
use Rattle.board_layout.specs.Layout.{header_length}
use Rattle.board_layout.proofs.laws.Layout.{header-size}
use Rattle.board_writer.specs.Image.{header_of}
use Rattle.board_writer.proofs.laws.Building.{header-part}
use Rattle.board_writer.proofs.laws.Length.{header-length}
use Rattle.octets.specs.Put.{put}
use Rattle.octets.proofs.laws.Put.{put-first}
use Rattle.board_writer.proofs.Parts.lay_header.Goals as goal

pub returns : goal.returns
returns c = let a = c.args in
    let p = a.self.now in
    let long : length a.image.now ≡ 65536 = search rules in
    let header : List ℕ = header_of p.header a.end a.check a.covers p.version in
    let size : length header ≡ header_length p.header = header-length p.header a.end a.check a.covers p.version in
    c.put_at.ensures
    ∙ ap (λ (l : List ℕ). put l 0 a.image.now)
    (header-part p.header a.end a.check a.covers p.version _ _ c.header_length-n.ensures c.header_bytes-bytes.ensures)
    ∙ put-first header a.image.now (omega (arith, long, size, (header-size p.header).1))
    ∙ ap (λ (n : ℕ). header ++ drop n a.image.now) size
