-- Bytes lent past StructLen are ignored by every answer: two images that agree up to the first one's StructLen, both lent whole and neither too long, get the
-- same item, the same record of the map and the same record of GPIO data for every list and number. The judge gives both one answer; and images that agree
-- everywhere are alike for any list. The values follow: they are read off the answers alone. Assumes nothing.
use Rattle.std.specs.Prelude.{ℕ, ◌≤◌, List, ◌≡◌, refl, length, Ok, Err}
use Rattle.std.proofs.Common.{inl, arith}
use Rattle.board.specs.Answers.{item_if, item_numbered, map_record_if, map_record_numbered, gpio_record_if, gpio_record_numbered}
use Rattle.board.proofs.laws.AlikeBytes.{Alike}
use Rattle.board.proofs.laws.Alike.{numbered-alike, map-record-alike, gpio-record-alike}
use Rattle.board_layout.specs.Layout.{struct_len}
use Rattle.board_layout.proofs.laws.Same.{struct-len-same}
use Rattle.board_rules.specs.Judged.{judged}
use Rattle.board_rules.proofs.laws.Same.{judged-same}
use Rattle.kinds.specs.declared.Kinds.{Kinds}
use Rattle.octets.proofs.laws.Same.{Same}
use Rattle.verdict.specs.Answers.{Judged}
use Rattle.verdict.specs.declared.Refusal.{Refusal}
use Rattle.verdict.proofs.laws.Agree.{verdict-agree}

module _ (s t : List ℕ) (long : 0x20 ≤ struct_len s) (same : Same s t 0 (struct_len s)) (k : Kinds) where
  alike : Alike k s t
  alike = record { length = struct-len-same s t long same; bytes = λ q h. inl (same q (omega arith) h) }

  module _ (whole : struct_len s ≤ length s) (other : struct_len s ≤ length t) (most : length s ≤ 65536) (second : length t ≤ 65536) where
    -- answers that go by the verdict: they agree where they agree in an accepted image and at a refusal
    verdict-same :
        {A : Type 0} (f g : Judged → A)
        → ((c : ℕ) → judged k s ≡ Ok c → f (Ok c) ≡ g (Ok c))
        → ((r : Refusal) → f (Err r) ≡ g (Err r)) → f (judged k s) ≡ g (judged k t)
    verdict-same f g = verdict-agree f g (judged k s) (judged k t) (judged-same s t long same whole other most second k)

    -- the item of a number
    pub item-answer-same : (n : ℕ) → item_numbered k s n ≡ item_numbered k t n
    unfolding item_numbered
    item-answer-same n = verdict-same (item_if k s n) (item_if k t n) (λ c e. numbered-alike k s t c e alike n) (λ r. refl)

    -- the record of a number, of the map
    pub map-record-same : (n : ℕ) → map_record_numbered k s n ≡ map_record_numbered k t n
    unfolding map_record_numbered
    map-record-same n = verdict-same (map_record_if s n) (map_record_if t n) (λ c e. map-record-alike k s t c e alike n) (λ r. refl)

    -- and of item i
    pub gpio-record-same : (i n : ℕ) → gpio_record_numbered k s i n ≡ gpio_record_numbered k t i n
    unfolding gpio_record_numbered
    gpio-record-same i n =
        verdict-same (gpio_record_if k s i n) (gpio_record_if k t i n) (λ c e. gpio-record-alike k s t c e alike i n) (λ r. refl)
