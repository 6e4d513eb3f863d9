-- `serial::name_in` meets its contract: at each return, what the item and its reference are known to be. Assumes nothing.
use Rattle.std.proofs.Common.{sym, ◌∙◌, arith}
use Rattle.verdict.proofs.laws.Kept.{present}
use Rattle.tiny.proofs.laws.Serials.{serial-known}
use Rattle.tiny.proofs.serial.name_in.Goals as goal

pub overflow_cast-at : goal.overflow_cast-at
overflow_cast-at c = let a = c.args in
    omega (arith, (serial-known a.kinds a.image.now _ (sym c.only_serial.ensures ∙ present _ _ c.in_ok-at.ensures.value)).to, c.type_inv.image 2)
