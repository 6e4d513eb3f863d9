-- Bytes lent past L are ignored by every answer: two images that agree on the first one's L bytes, both lent whole, get the same item, the same string
-- and the same name, as answers (places of texts) and as values (the texts). The judge gives both one answer; and images that agree everywhere are alike for
-- any list. Assumes nothing.
use Rattle.std.specs.Prelude.{ℕ, ◌≤◌, List, ◌≡◌, refl, length, Ok, Err}
use Rattle.std.proofs.Common.{inl, arith}
use Rattle.kinds.specs.declared.Kinds.{Kinds}
use Rattle.octets.proofs.laws.Same.{Same}
use Rattle.tiny_layout.specs.Layout.{total}
use Rattle.tiny_layout.proofs.laws.Same.{total-same}
use Rattle.tiny_rules.specs.Judged.{judged}
use Rattle.tiny_rules.proofs.laws.Same.{judged-same}
use Rattle.tiny.specs.Answers.{item_if, item_numbered, string_if, string_numbered, name_if, name_of}
use Rattle.tiny.specs.Values.{item_said, string_said}
use Rattle.tiny.proofs.laws.Alike.{Alike, numbered-alike, said-alike, looked-alike, string-alike, name-alike}
use Rattle.verdict.specs.Answers.{Judged}
use Rattle.verdict.specs.declared.Refusal.{Refusal}
use Rattle.verdict.proofs.laws.Agree.{verdict-agree}

module _ (s t : List ℕ) (long : 4 ≤ total s) (same : Same s t 0 (total s)) where
  alike : (k : Kinds) → Alike k s t
  alike k = record { length = total-same s t long same; bytes = λ q h. inl (same q (omega arith) h) }

  module _ (whole : total s ≤ length s) (other : total s ≤ length t) (k : Kinds) where
    -- answers that go by the verdict: they agree where they agree in an accepted image and at a refusal
    verdict-same :
        {A : Type 0} (f g : Judged → A)
        → ((c : ℕ) → judged k s ≡ Ok c → f (Ok c) ≡ g (Ok c))
        → ((r : Refusal) → f (Err r) ≡ g (Err r)) → f (judged k s) ≡ g (judged k t)
    verdict-same f g = verdict-agree f g (judged k s) (judged k t) (judged-same s t long same whole other k)

    -- the item of a number: the answer, and its values
    pub item-answer-same : (n : ℕ) → item_numbered k s n ≡ item_numbered k t n
    unfolding item_numbered
    item-answer-same n = verdict-same (item_if k s n) (item_if k t n) (λ c e. numbered-alike k s t c e (alike k) n) (λ r. refl)

    pub item-same : (n : ℕ) → item_said s (item_numbered k s n) ≡ item_said t (item_numbered k t n)
    unfolding item_numbered
    item-same n =
        verdict-same (λ j. item_said s (item_if k s n j)) (λ j. item_said t (item_if k t n j)) (λ c e. said-alike k s t c e (alike k) n) (λ r. refl)

    -- the string of a number
    pub string-answer-same : (n : ℕ) → string_numbered k s n ≡ string_numbered k t n
    unfolding string_numbered
    string-answer-same n = verdict-same (string_if k s n) (string_if k t n) (λ c e. looked-alike k s t c e (alike k) n) (λ r. refl)

    pub string-same : (n : ℕ) → string_said s (string_numbered k s n) ≡ string_said t (string_numbered k t n)
    unfolding string_numbered
    string-same n =
        verdict-same (λ j. string_said s (string_if k s n j)) (λ j. string_said t (string_if k t n j)) (λ c e. string-alike k s t c e (alike k) n) (λ r. refl)

    -- the name, and what the lent buffer then holds
    pub name-same : (buffer : List ℕ) → name_of k s buffer ≡ name_of k t buffer
    unfolding name_of
    name-same buffer = verdict-same (name_if k s buffer) (name_if k t buffer) (λ c e. name-alike k s t c e (alike k) buffer) (λ r. refl)
