-- The item at a place is the first of the part of the image that begins there: it has as many data bytes, and as a pool the same texts. Assumes nothing.
use Rattle.std.specs.Prelude.{ℕ, ◌-◌, ◌/◌, List, ◌≡◌, drop, Some}
use Rattle.std.proofs.Math.Bool.{cond}
use Rattle.std.proofs.Common.{sym, ap₂, ◌∙◌, zero-add, arith, get_or-drop}
use Rattle.std.proofs.Math.Path.{ap}
use Rattle.octets.specs.Bytes.{byte, run}
use Rattle.octets.proofs.laws.Parts.{run-drop}
use Rattle.tiny_layout.specs.Layout.{is_long, head_size, data_length, data_at, next}
use Rattle.tiny_layout.specs.Pool.{pool_at}
use Rattle.tiny_layout.specs.Strings.{split, texts}

-- how many data bytes an item has, and what its texts are as a pool
pub data-length : (s : List ℕ) (p : ℕ) → next s p - data_at s p ≡ data_length s p
unfolding next
data-length s p = omega arith

texts-data : (s : List ℕ) (p : ℕ) → texts s (pool_at s (Some p)) ≡ split (run s (data_at s p) (data_length s p))
unfolding texts
texts-data s p = ap (λ (n : ℕ). split (run s (data_at s p) n)) (data-length s p)

module _ (s : List ℕ) (p : ℕ) where
  -- read in the part: the tag, how many bytes come before the data, and how many data bytes there are
  tag-part : byte (drop p s) 0 ≡ byte s p
  tag-part = get_or-drop p s 0 0 ∙ ap (byte s) (omega arith)

  head-part : data_at (drop p s) 0 ≡ head_size (byte s p)
  head-part = zero-add (head_size (byte (drop p s) 0)) ∙ ap head_size tag-part

  length-part : data_length (drop p s) 0 ≡ data_length s p
  unfolding data_length
  length-part =
      ap (λ (b : ℕ). cond (is_long b) (byte (drop p s) 1) (b / 16)) tag-part
      ∙ ap (λ (b : ℕ). cond (is_long (byte s p)) b (byte s p / 16)) (get_or-drop p s 1 0)

  -- so the texts are the same
  pub texts-part : texts (drop p s) (pool_at (drop p s) (Some 0)) ≡ texts s (pool_at s (Some p))
  texts-part =
      texts-data (drop p s) 0
      ∙ ap split (ap₂ (run (drop p s)) head-part length-part ∙ run-drop s p (head_size (byte s p)) (data_length s p))
      ∙ sym (texts-data s p)
