-- `list` meets its contract: each turn stores the entry of its number (`fill-turn`) and goes on to the next item (`along-step`); as many entries as the answer
-- says are the list (`list-filled`). Assumes nothing.
use Rattle.std.proofs.Common.{refl, ◌≡◌, ℕ, ◌≤◌, List, length, sym, ap, ap₂, ◌∙◌, subst, arith}
use Rattle.chain.proofs.laws.Fill.{fill-start, fill-turn, fill-done}
use Rattle.chain.proofs.laws.Onward.{along-step}
use Rattle.chain.specs.Onward.{onward}
use Rattle.reader.specs.Answers.{list_answer, entry_count}
use Rattle.reader.specs.Entries.{entry_at}
use Rattle.reader.specs.Formats.{judged, start, end, next}
use Rattle.reader.specs.declared.Entry.{Entry}
use Rattle.reader.specs.AnswerTypes.{ListAnswer}
use Rattle.verdict.specs.Answers.{Judged}
use Rattle.reader.proofs.laws.List.{entry_of, place-first, count-room, list-filled}
use Rattle.reader.specs.Answers.{list_of}
use Rattle.verdict.proofs.laws.Kept.{handed}
use Rattle.reader.proofs.entries.list.Goals as goal

-- no more entries are stored than there is room for
room : (lent : ℕ) (j : Judged) (answer : ListAnswer) (count : ℕ) → answer ≡ list_answer lent j → count ≡ entry_count answer → count ≤ lent
room lent j answer count a e = let P : ℕ → Type 0 = λ n. n ≤ lent in subst P (sym (e ∙ ap entry_count a)) (count-room lent j)

pub loop-i-init : goal.loop-i-init
loop-i-init c =
    let a = c.args in
    record { stored = fill-start _ _; place = c.first_place-at.ensures ∙ place-first a.format a.image.now }

pub returns-in_err-count : goal.returns-in_err-count
unfolding list_of
returns-in_err-count c = let a = c.args in
    let told = sym c.list_answer.ensures ∙ c.in_err-count.was in
    rw told (ap (λ (x : ListAnswer). (x, a.out.now)) (handed c.from_residual.result c.from_residual.ensures.1))

pub loop-i-preserved : goal.loop-i-preserved
loop-i-preserved c =
    let a = c.args in
    let told = sym c.in_ok-count.was ∙ c.list_answer.ensures in
    let bound : c.in_ok-count.count ≤ length a.out.now = room (length a.out.now) (judged a.format a.kinds a.image.now) _ _ told refl in
    let entry : c.entry_at.result ≡ entry_of a.format a.kinds a.image.now c.loop-i.i =
    c.entry_at.ensures ∙ ap (entry_at a.format a.kinds a.image.now) c.loop-i.invariant.place in
    record {
      stored = rw entry (fill-turn (entry_of a.format a.kinds a.image.now) _ _ _ (omega (arith, bound)) c.loop-i.invariant.stored);
      place =
          c.go_on-at.ensures
          ∙ ap₂ (λ (e p : ℕ). onward (next a.format a.image.now) e p) c.items_end-end.ensures c.loop-i.invariant.place
          ∙ along-step (next a.format a.image.now) (end a.format a.image.now) c.loop-i.i (start a.format);
    }

pub returns : goal.returns
returns c =
    let a = c.args in
    let told = sym c.in_ok-count.was ∙ c.list_answer.ensures in
    let stored =
    fill-done (entry_of a.format a.kinds a.image.now) _ _ _ _ (omega arith ∙ ap entry_count told) c.loop-i.invariant.stored in
    ap₂ (λ (x : ListAnswer) (l : List Entry). (x, l)) told stored ∙ list-filled a.format a.kinds a.image.now a.out.now
