-- `write` meets its contract, case by case in the order of its checks (`laws.Order`). Assumes nothing.
use Rattle.std.specs.Option.{option_copied}
use Rattle.std.proofs.Common.{◌≡◌, ◌<◌, ◌≤◌, ℕ, List, length, take, sym, ◌∙◌, ap, arith, ltb-true, ltb-false, length-take, None, Ok, Err}
use Rattle.kinds.specs.Kinds.{full, all}
use Rattle.octets.proofs.laws.Put.{put-first}
use Rattle.tiny_rules.specs.Judged.{judged}
use Rattle.tiny_writer.specs.Image.{Parts, parts, image_length, image}
use Rattle.tiny_writer.proofs.laws.Laid.{measured-bad, measured-good}
use Rattle.tiny_writer.proofs.laws.Length.{length-is, fitting-some, fitting-none}
use Rattle.tiny_writer.proofs.laws.Order.{written-bad, written-over, written-short, written-judged}
use Rattle.tiny_writer.specs.Run.{rule46}
use Rattle.tiny_writer.specs.Written.{written}
use Rattle.verdict.specs.Answers.{WriteAnswer}
use Rattle.verdict.specs.Written.{written_if}
use Rattle.verdict.specs.declared.Refusal.{Refusal}
use Rattle.verdict.proofs.laws.Kept.{handed, missing, present, kept-broken, kept-whole}
use Rattle.tiny_writer.proofs.write.Goals as goal

-- an answer and the buffer beside it
beside : (buffer : List ℕ) {v w : WriteAnswer} → v ≡ w → ◌≡◌ {A = WriteAnswer × List ℕ} (v, buffer) (w, buffer)
beside buffer e = ap (λ (w : WriteAnswer). (w, buffer)) e

pub returns-in_err-bytes : goal.returns-in_err-bytes
returns-in_err-bytes c = let a = c.args in
    let bad = measured-bad a.items.now _ c.in_err-bytes.ensures in
    beside a.buffer.now (handed _ c.from_residual.ensures.1 ∙ ap (λ (r : Refusal). Err r) bad.1)
    ∙ sym (written-bad (parts a.items.now (option_copied a.pool)) a.buffer.now _ bad.0)

pub returns-in_err-length : goal.returns-in_err-length
returns-in_err-length c = let a = c.args in
    let x = parts a.items.now (option_copied a.pool) in
    let good = measured-good a.items.now _ c.in_ok-bytes.ensures in
    let none = missing _ c.in_err-length.ensures.value in
    let long = fitting-none _ (sym c.total_length.ensures ∙ none.0) in
    let over : 255 < image_length x = omega (arith, length-is x, good.1, long) in
    beside a.buffer.now (handed _ c.from_residual-in_err-length.ensures.1 ∙ ap (λ (r : Refusal). Err r) none.1)
    ∙ sym (written-over x a.buffer.now good.0 over)

pub returns-in_err-keeps : goal.returns-in_err-keeps
returns-in_err-keeps c = let a = c.args in
    let x = parts a.items.now (option_copied a.pool) in
    let good = measured-good a.items.now _ c.in_ok-bytes.ensures in
    let fits = fitting-some _ (sym c.total_length.ensures ∙ present _ _ c.in_ok-length.ensures.value) in
    let short = kept-broken 41 _ c.in_err-keeps.ensures c.then_some.ensures in
    let room = ltb-true _ _ short.0 in
    beside a.buffer.now (handed _ c.from_residual-in_err-keeps.ensures.1 ∙ ap (λ (r : Refusal). Err r) short.1)
    ∙ sym (written-short x a.buffer.now good.0 (omega (arith, length-is x, good.1, fits.0)) (omega (arith, length-is x, good.1, fits.1, room)))

pub built-block-requires : goal.built-block-requires
built-block-requires c = let a = c.args in
    let x = parts a.items.now (option_copied a.pool) in
    let good = measured-good a.items.now _ c.in_ok-bytes.ensures in
    let fits = fitting-some _ (sym c.total_length.ensures ∙ present _ _ c.in_ok-length.ensures.value) in
    (good.0, omega (arith, length-is x, good.1, fits.1))

-- the length of what is handed over, and the buffer after it
answered : {m n : ℕ} {b l : List ℕ} → m ≡ n → b ≡ l → ◌≡◌ {A = WriteAnswer × List ℕ} (Ok m, b) (Ok n, l)
answered e d i = (Ok (e i), d i)

-- what the judge says of the front of the block is what it says of the image
handed_over : (x : Parts) (buffer front : List ℕ) → rule46 x.run ≡ None → image_length x ≤ 255 → image_length x ≤ length buffer → front ≡ image x
    → written_if front buffer (judged full front) ≡ written x buffer
handed_over x buffer front good fits room e =
    ap (λ (l : List ℕ). written_if l buffer (judged full l)) e ∙ sym (written-judged x buffer good fits room)

pub returns-in_err-judge : goal.returns-in_err-judge
unfolding all
returns-in_err-judge c = let a = c.args in
    let x = parts a.items.now (option_copied a.pool) in
    let good = measured-good a.items.now _ c.in_ok-bytes.ensures in
    let fits = fitting-some _ (sym c.total_length.ensures ∙ present _ _ c.in_ok-length.ensures.value) in
    let room = ltb-false _ _ (kept-whole 41 _ _ c.in_ok-keeps.ensures c.then_some.ensures) in
    beside a.buffer.now (handed _ c.from_residual-in_err-judge.ensures.1)
    ∙ ap (written_if (take c.in_ok-length.length c.built-block.result) a.buffer.now) c.in_err-judge.ensures
    ∙ handed_over x a.buffer.now _ good.0 (omega (arith, length-is x, good.1, fits.0)) (omega (arith, length-is x, good.1, fits.1, room)) c.built-block.ensures.front

pub returns : goal.returns
unfolding all
returns c = let a = c.args in
    let x = parts a.items.now (option_copied a.pool) in
    let good = measured-good a.items.now _ c.in_ok-bytes.ensures in
    let fits = fitting-some _ (sym c.total_length.ensures ∙ present _ _ c.in_ok-length.ensures.value) in
    let room = ltb-false _ _ (kept-whole 41 _ _ c.in_ok-keeps.ensures c.then_some.ensures) in
    let front = take c.in_ok-length.length c.built-block.result in
    let long : length front ≡ c.in_ok-length.length = simp length-take (omega (arith, c.built-block.ensures.long, fits.0, fits.1)) in
    let after = c.put_at.ensures ∙ put-first front a.buffer.now (omega (arith, long, room)) in
    answered (sym long) after
    ∙ ap (written_if front a.buffer.now) c.in_ok-judge.ensures
    ∙ handed_over x a.buffer.now _ good.0 (omega (arith, length-is x, good.1, fits.0)) (omega (arith, length-is x, good.1, fits.1, room)) c.built-block.ensures.front
