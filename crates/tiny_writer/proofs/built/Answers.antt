-- `built` meets its contract: header, items, pool and check byte are put one after the other. Assumes nothing.
use mathlib.Core.List.{flatten}
use Rattle.std.specs.Option.{option_copied}
use Rattle.std.proofs.Common.{ℕ, ◌+◌, ◌-◌, List, [], ◌∷◌, ◌++◌, length, take, ◌∙◌, ap, arith, replicate}
use Rattle.octets.proofs.laws.Put.{put-length, put-front}
use Rattle.tiny_writer.specs.Building.{laid_from}
use Rattle.tiny_writer.specs.Image.{parts, pool_items}
use Rattle.tiny_writer.proofs.laws.Holds.{holds-image}
use Rattle.tiny_writer.proofs.laws.Length.{length-is, last-place, unchecked-is}
use Rattle.tiny_writer.proofs.built.Goals as goal

pub lay_run-to-requires : goal.lay_run-to-requires
lay_run-to-requires c = let a = c.args in (
  c.requires.0,
  omega (arith, c.requires.1, length-is (parts a.items.now (option_copied a.pool))),
  ap length c.put_at.ensures ∙ put-length _ _ _ (omega arith),
)

pub lay_pool-requires : goal.lay_pool-requires
lay_pool-requires c = let a = c.args in
    let laid = c.lay_run-to.ensures in
    (omega (arith, last-place (parts a.items.now (option_copied a.pool)) _ _ c.requires.1 laid.0), laid.1.long)

pub returns : goal.returns
returns c = let a = c.args in
    let r = a.items.now in
    let x = parts r (option_copied a.pool) in
    let laid = c.lay_run-to.ensures in
    let held = c.lay_pool.ensures in
    let pool = flatten (pool_items x.pool) in
    let header : List ℕ = 0x56 ∷ (0x02 ∷ (a.length ∷ [])) in
    let last = last-place x _ _ c.requires.1 laid.0 in
    let head = ap (take 3) c.put_at.ensures ∙ put-front header 0 (replicate 255 0) (omega arith) in
    holds-image x _ (c.lay_run-to.result + length pool) (a.length - 1) a.length 255 _
    (omega (arith, last)) (omega (arith, last)) (omega arith) c.crc8.ensures
    (record {
      front =
          held.front
          ∙ ap (λ (l : List ℕ). l ++ pool) (laid.1.front ∙ ap (λ (l : List ℕ). l ++ laid_from r 0) head)
          ∙ unchecked-is x a.length c.requires.1;
      long = held.long;
    })
