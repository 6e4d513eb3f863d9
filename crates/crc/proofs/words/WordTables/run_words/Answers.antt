-- `crc::words::WordTables::run_words` meets its contract. The words, and on from there (`run-chunks`).
-- Assumes nothing.
use Rattle.std.proofs.Common.{◌≡◌, ◌/◌, length, rules, fold}
use Rattle.crc.specs.Crc32.{run32}
use Rattle.crc.proofs.Runs.{run-chunks}
use Rattle.crc.proofs.words.WordTables.run_words.Goals as goal

pub returns : goal.returns
returns c = let s = c.args.s.now in
    let words : c.fold-r.result ≡ fold run32 c.args.c c.as_chunks.result.0.now = search rules in
    rw (c.run_rest.ensures, words, c.as_chunks.ensures.front, c.as_chunks.ensures.back) (run-chunks 8 (length s / 8) c.args.c s)
