-- `lay_pool` meets its contract: the head is put after what the image holds, and the data after the head; without a pool, nothing. Assumes nothing.
use Rattle.std.specs.Option.{option_copied}
use Rattle.std.proofs.Common.{◌+◌, take, refl, ap, arith}
use Rattle.tiny_writer.specs.Building.{pool_bytes}
use Rattle.tiny_writer.proofs.laws.Holds.{holds-none, holds-item}
use Rattle.tiny_writer.proofs.laws.Length.{pool-size, pool-given, none-given}
use Rattle.tiny_writer.proofs.lay_pool.Goals as goal

pub overflow_cast-data : goal.overflow_cast-data
overflow_cast-data c = let a = c.args in
    omega (arith, c.requires.0, pool-size (option_copied a.pool), ap (λ o. pool_bytes (option_copied o)) c.in-Some.is)

pub returns-in-Some : goal.returns-in-Some
returns-in-Some c = let a = c.args in
    holds-item a.image.now (take a.to a.image.now) _ _ _ _ _ a.to (a.to + 2) _ 255 (pool-given (option_copied a.pool) _ (ap option_copied c.in-Some.is)) refl refl
    c.put_at.ensures c.put_at-in-Some.ensures (record { front = refl; long = c.requires.1 }) c.requires.0

pub returns-in_default : goal.returns-in_default
returns-in_default c = let a = c.args in
    holds-none a.image.now _ a.to 255 (none-given (option_copied a.pool) (ap option_copied c.in_default.is)) c.requires.1
