-- `request::bytes` meets its contract. The loop's invariant is `Going`: with what is read from the place on, the buffer holds all bytes of the part. Assumes nothing.
use Rattle.std.proofs.Common.{◌≡◌, ◌∙◌, ◌+◌, None, Some, rules}
use Rattle.octets.specs.Bytes.{byte}
use Rattle.console.specs.Request.{pair_value}
use Rattle.console.proofs.laws.Counts.{prefix_len_of_le}
use Rattle.console.proofs.laws.Bytes.{going_start, going_blank, going_pair, going_full, going_bad, going_done}
use Rattle.console.proofs.laws.Request.{pair_some, pair_none}
use Rattle.console.proofs.request.bytes.Goals as goal

pub loop-at-init : goal.loop-at-init
loop-at-init c = going_start _ _

pub loop-at-preserved-then-part-at-eq32 : goal.loop-at-preserved-then-part-at-eq32
loop-at-preserved-then-part-at-eq32 c = going_blank _ _ _ _ _ c.loop-at.invariant c.loop-at-test.true c.if-part-at-eq32.true

pub returns-in_err-b : goal.returns-in_err-b
returns-in_err-b c =
    let h : None ≡ pair_value (byte c.args.part.now c.loop-at.at) (byte c.args.part.now (c.loop-at.at + 1)) = search rules in
    let r : c.from_residual.result ≡ None = search rules in
    let e = going_bad _ _ _ _ _ c.loop-at.invariant c.loop-at-test.true c.if-part-at-eq32.false (pair_none _ _ h) in
    (r ∙ e.0, e.1, search rules)

pub returns-then-out-n : goal.returns-then-out-n
returns-then-out-n c =
    let h : Some c.in_ok-b.b ≡ pair_value (byte c.args.part.now c.loop-at.at) (byte c.args.part.now (c.loop-at.at + 1)) = search rules in
    let b = pair_some _ _ _ h in
    let e = going_full _ _ _ _ _ c.loop-at.invariant c.loop-at-test.true c.if-part-at-eq32.false _ b.0 b.1 c.if-out-n.true in
    (e.0, e.1, tt)

pub loop-at-preserved : goal.loop-at-preserved
loop-at-preserved c =
    let h : Some c.in_ok-b.b ≡ pair_value (byte c.args.part.now c.loop-at.at) (byte c.args.part.now (c.loop-at.at + 1)) = search rules in
    let b = pair_some _ _ _ h in
    going_pair _ _ _ _ _ c.loop-at.invariant c.loop-at-test.true c.if-part-at-eq32.false _ b.0 b.1 c.if-out-n.false

pub returns : goal.returns
returns c = let e = going_done _ _ _ _ _ c.loop-at.invariant c.loop-at-test.false in
    (e.0, e.1, prefix_len_of_le _ _ c.loop-at.invariant.room)
