-- What is answered for the name: the image's own refusal, 43 or 44 at place 0, or a length below 256, for the text lies before the check byte. `name-view` turns
-- a claim about the answer into these cases. Assumes nothing.
use Rattle.std.specs.Prelude.{ℕ, ◌≤◌, Bool, true, false, cond, List, ◌++◌, ◌≡◌, leb, length, drop, Some, None, Ok, Err}
use Rattle.std.proofs.Math.Path.{refl}
use Rattle.std.proofs.Common.{sym, subst, arith}
use Rattle.chain.specs.Keep.{only}
use Rattle.chain.specs.Nth.{nth}
use Rattle.chain.specs.Found.{Found}
use Rattle.kinds.specs.declared.Kinds.{Kinds}
use Rattle.octets.specs.Bytes.{byte, Octets}
use Rattle.octets.specs.declared.Span.{Span}
use Rattle.tiny_layout.specs.Layout.{data_at}
use Rattle.tiny_layout.specs.Pool.{pool}
use Rattle.tiny_layout.specs.Strings.{strings, span_at, text_of, reference_at, reference}
use Rattle.tiny_layout.specs.Reference.{Reference}
use Rattle.tiny_layout.proofs.laws.Strings.{string-fits, string-within}
use Rattle.tiny_rules.specs.Judged.{judged}
use Rattle.tiny_rules.proofs.laws.Accepted.{pool-fits}
use Rattle.tiny.specs.Answers.{refused_with, serials, copied, name_at, name_if, name_of}
use Rattle.tiny.specs.Values.{name_said}
use Rattle.tiny.specs.AnswerTypes.{NameAnswer}
use Rattle.tiny.proofs.laws.Serials.{serial-known, serial-shown}
use Rattle.verdict.specs.Said.{Said, says, refused}
use Rattle.verdict.specs.Verdict.{refusal}
use Rattle.verdict.specs.Answers.{Judged}

-- a string of the pool of an accepted image has fewer than 256 bytes
pub string-short : (k : Kinds) (s : List ℕ) → Octets s → (c : ℕ) → judged k s ≡ Ok c → (n p : ℕ) → nth (strings s (pool k s)) n ≡ Some p
    → (span_at s (pool k s).to p).length ≤ 255
string-short k s octets c e n p d =
    omega (arith, octets 2, pool-fits k s c e, string-fits s (pool k s).to p (string-within s (pool k s) n p d).1)

module _ (k : Kinds) (s : List ℕ) (octets : Octets s) (P : Said ℕ → Type 0)
    (own : (n p : ℕ) → judged k s ≡ refusal n p → P (refused n p)) (short : P (refused 43 0)) (none : P (refused 44 0))
    (fits : (n : ℕ) → n ≤ 255 → P (says n)) (buffer : List ℕ) where
  -- a text, by whether the buffer has room for it
  copied-view : (span : Span) → span.length ≤ 255 → P (name_said (copied s buffer (Some span)).0)
  copied-view span h = go (leb span.length (length buffer))
    where
      answer : Bool → NameAnswer × List ℕ
      answer b =
          cond b (Ok span.length, text_of s span ++ drop span.length buffer) (Err (refused_with 43), buffer)

      go : (b : Bool) → P (name_said (answer b).0)
      go true = fits span.length h
      go false = short

  module _ (c : ℕ) (e : judged k s ≡ Ok c) where
    -- what a reference to string n gives
    reference-view : (n : ℕ) → P (name_said (copied s buffer (reference s (pool k s) n)).0)
    unfolding reference
    reference-view n = go (nth (strings s (pool k s)) n) refl
      where
        go : (f : Found) → nth (strings s (pool k s)) n ≡ f → P (name_said (copied s buffer (reference_at s (pool k s) f)).0)
        go (Some p) d = copied-view (span_at s (pool k s).to p) (string-short k s octets c e n p d)
        go None d = none

    -- what the only serial gives
    serial-view : (f : Found) → only (serials k s) ≡ f → P (name_said (name_at k s buffer f).0)
    serial-view (Some p) d =
        let h = serial-known k s p d in
        subst (λ (r : Reference). P (name_said (copied s buffer r).0)) (sym (serial-shown k s p (pool k s) h.mark h.own))
        (reference-view (byte s (data_at s p)))
    serial-view None d = none

  -- a claim about what is said for the name, shown of the image's own refusal, of 43 and 44, and of each length below 256, holds
  pub name-view : P (name_said (name_of k s buffer).0)
  unfolding name_of
  name-view = go (judged k s) refl
    where
      go : (j : Judged) → judged k s ≡ j → P (name_said (name_if k s buffer j).0)
      go (Ok c) e = serial-view c e (only (serials k s)) refl
      go (Err r) e = own r.number r.place e
