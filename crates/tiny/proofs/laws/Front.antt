-- A reader needs no more than the first 255 bytes of what is lent, for any answer: a refused image gets the same refusal from them, and an accepted one has
-- its L bytes among them, on which every answer is the same. Assumes nothing.
use Rattle.std.specs.Prelude.{ℕ, ◌≤◌, List, ◌≡◌, refl, length, take, Ok, Err}
use Rattle.std.proofs.Common.{sym, ap, ◌∙◌, arith, length-take, get_or-take}
use Rattle.kinds.specs.declared.Kinds.{Kinds}
use Rattle.octets.specs.Bytes.{Octets}
use Rattle.octets.proofs.laws.Same.{Same}
use Rattle.tiny_layout.specs.Layout.{total}
use Rattle.tiny_rules.specs.Judged.{judged}
use Rattle.tiny_rules.proofs.laws.Accepted.{total-within}
use Rattle.tiny_rules.proofs.laws.Front.{judged-front}
use Rattle.tiny.specs.Answers.{item_if, item_numbered, string_if, string_numbered, name_if, name_of}
use Rattle.tiny.specs.Values.{item_said, string_said}
use Rattle.tiny.proofs.laws.Same.{item-answer-same, item-same, string-answer-same, string-same, name-same}
use Rattle.verdict.specs.Answers.{Judged}
use Rattle.verdict.specs.declared.Refusal.{Refusal}

module _ (k : Kinds) (s : List ℕ) (n : ℕ) (octets : Octets s) (enough : 255 ≤ n) where
  -- an answer that goes by the verdict: the same from the front, where a refusal gives the same and where the L bytes decide
  front :
      {A : Type 0} (f : List ℕ → Judged → A)
      → ((r : Refusal) → f (take n s) (Err r) ≡ f s (Err r))
      → (4 ≤ total s → Same s (take n s) 0 (total s) → total s ≤ length s → total s ≤ length (take n s)
      → f s (judged k s) ≡ f (take n s) (judged k (take n s)))
      → f (take n s) (judged k (take n s)) ≡ f s (judged k s)
  front f refused whole = go (judged k s) refl
    where
      go : (j : Judged) → judged k s ≡ j → f (take n s) (judged k (take n s)) ≡ f s (judged k s)
      go (Ok c) e =
          let w = total-within k s c e in
          sym (whole w.0 (λ q _ h. sym (get_or-take n s q 0 (omega (arith, octets 2)))) w.1 (simp length-take (omega (arith, octets 2, w.1))))
      go (Err r) e =
          ap (f (take n s)) (judged-front k s n octets enough ∙ e) ∙ refused r ∙ ap (f s) (sym e)

  -- the item of a number: the answer, and its values
  pub item-front : (i : ℕ) → item_numbered k (take n s) i ≡ item_numbered k s i
  unfolding item_numbered
  item-front i =
      front (λ t. item_if k t i) (λ r. refl) (λ long same whole other. item-answer-same s (take n s) long same whole other k i)

  pub item-said-front : (i : ℕ) → item_said (take n s) (item_numbered k (take n s) i) ≡ item_said s (item_numbered k s i)
  unfolding item_numbered
  item-said-front i =
      front (λ t j. item_said t (item_if k t i j)) (λ r. refl) (λ long same whole other. item-same s (take n s) long same whole other k i)

  -- the string of a number
  pub string-front : (i : ℕ) → string_numbered k (take n s) i ≡ string_numbered k s i
  unfolding string_numbered
  string-front i =
      front (λ t. string_if k t i) (λ r. refl) (λ long same whole other. string-answer-same s (take n s) long same whole other k i)

  pub string-said-front : (i : ℕ) → string_said (take n s) (string_numbered k (take n s) i) ≡ string_said s (string_numbered k s i)
  unfolding string_numbered
  string-said-front i =
      front (λ t j. string_said t (string_if k t i j)) (λ r. refl) (λ long same whole other. string-same s (take n s) long same whole other k i)

  -- the name, and what the lent buffer then holds
  pub name-front : (buffer : List ℕ) → name_of k (take n s) buffer ≡ name_of k s buffer
  unfolding name_of
  name-front buffer =
      front (λ t. name_if k t buffer) (λ r. refl) (λ long same whole other. name-same s (take n s) long same whole other k buffer)
