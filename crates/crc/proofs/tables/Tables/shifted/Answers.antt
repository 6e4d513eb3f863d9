-- `crc::tables::Tables::shifted` meets its contract. All parts of a word go by the tables, and nothing stands above them.
-- Assumes nothing.
use Rattle.std.proofs.Common.{ℕ, ◌≡◌, ◌+◌, ◌-◌, ◌*◌, ◌/◌, ◌∙◌, ap, arith}
use Rattle.crc.specs.Crc32.{shifts}
use Rattle.crc.proofs.Lookup.{word-above}
use Rattle.crc.proofs.tables.Tables.shifted.Goals as goal

pub lookup-requires : goal.lookup-requires
lookup-requires g c = let t = c.args.self.now in
    (omega arith, (omega arith, word-above (g.row.N - 64) (g.row.W * (64 / g.row.W)) c.args.x t.parts.2 (omega arith)))

pub returns : goal.returns
returns g c = let t = c.args.self.now in
    let all : g.row.N - 64 + g.row.W * (64 / g.row.W) ≡ g.row.N = omega (arith, t.parts.2, t.word_or_more) in
    c.lookup.ensures ∙ ap (λ (n : ℕ). shifts n c.args.x) all
