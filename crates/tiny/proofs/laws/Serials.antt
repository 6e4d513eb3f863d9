-- The serial that gives the name: the only known item of tag 10. What holds of each item holds of it, and it shows the string whose number its data
-- byte holds. Assumes nothing.
use Rattle.std.specs.Prelude.{ℕ, ◌≤◌, ◌<◌, Bool, true, cond, List, ◌≡◌, eqb, Some}
use Rattle.std.proofs.Math.Bool.{and-eq-true_iff}
use Rattle.std.proofs.Math.Path.{ap}
use Rattle.std.proofs.Common.{◌∙◌, eqb-true}
use Rattle.chain.specs.All.{All}
use Rattle.chain.specs.Keep.{only}
use Rattle.chain.proofs.laws.Keep.{keep-all, only-all}
use Rattle.kinds.specs.Kinds.{listed}
use Rattle.kinds.specs.declared.Kind.TheVariants.{Tag}
use Rattle.kinds.specs.declared.Kinds.{Kinds}
use Rattle.octets.specs.Bytes.{byte}
use Rattle.tiny_layout.specs.Layout.{check_place, data_at, items}
use Rattle.tiny_layout.specs.Strings.{reference}
use Rattle.tiny_layout.specs.Tags.{shape_of}
use Rattle.tiny_layout.specs.declared.Pool.{Pool}
use Rattle.tiny_layout.specs.declared.Shape.{Shape}
use Rattle.tiny_layout.proofs.laws.Layout.{items-within}
use Rattle.tiny_layout.proofs.laws.Pool.{Known}
use Rattle.tiny.specs.Answers.{is_serial, serials, serial_of}
use Rattle.tiny.specs.Items.{fields_at, item_at}
use Rattle.tiny.specs.declared.Item.{Item}

module _ (k : Kinds) (s : List ℕ) (p : ℕ) where
  -- the only one is such an item, and what holds of each item holds of it
  pub only-serial : (P : ℕ → Type 0) → All P (items s) → only (serials k s) ≡ Some p → (listed k (Tag 0x10) ≡ true) × (byte s p ≡ 0x10) × P p
  only-serial P a one =
      let h : (is_serial k s p ≡ true) × P p =
      only-all (λ q. (is_serial k s q ≡ true) × P q) (serials k s) p (keep-all P (is_serial k s) (items s) a) one in
      let t = (and-eq-true_iff (listed k (Tag 0x10)) (eqb (byte s p) 0x10)).0 h.0 in
      (t.0, eqb-true (byte s p) 0x10 t.1, h.1)

  -- so it lies between the header and the check byte, its tag on the list
  pub serial-known : only (serials k s) ≡ Some p → Known k s 0x10 p
  serial-known one =
      let h = only-serial (λ q. (3 ≤ q) × (q < check_place s)) (items-within s) one in
      record { from = h.2.0; to = h.2.1; mark = h.0; own = h.1 }

  -- it shows the string whose number its data byte holds
  pub serial-shown : (x : Pool) → listed k (Tag 0x10) ≡ true → byte s p ≡ 0x10 → serial_of (item_at k s x p).item ≡ reference s x (byte s (data_at s p))
  unfolding item_at shape_of
  serial-shown x mark own =
      ap (λ (tag : ℕ). serial_of (cond (listed k (Tag tag)) (fields_at s x (shape_of tag) p) Item.NotKnown)) own
      ∙ ap (λ (b : Bool). serial_of (cond b (fields_at s x Shape.Serial p) Item.NotKnown)) mark
