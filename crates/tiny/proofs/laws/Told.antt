-- What a reader answers about a tiny image tells each byte that an answer is about: items by number and strings by number tell all but the check byte, the data of
-- items not known, and the index bytes of known ones (`complete-tiny`). Where references show their places too (request R-7) and 01 is on the list, index bytes are told
-- as well (`complete-listed`); so with no item not known the first L bytes are equal (`one-listing`, request R-14). Assumes nothing.
use Prim.Native.Nat.{ℕ, zero, suc, ◌+◌, ◌-◌, ◌/◌, ◌≤◌, ◌<◌}
use Rattle.std.specs.Prelude.{Bool, ◌&&◌, List, [], ◌⊎◌, ◌≡◌, get_or, Some, None, Ok}
use Rattle.std.proofs.Math.Bool.{true, false, cond}
use Rattle.std.proofs.lemmas.Bool.{false≢true}
use Rattle.std.proofs.Common.{inl, inr, ◌∙◌, arith, ext_get_or}
use Rattle.std.proofs.Math.Path.{refl, sym, ap, ap₂, subst}
use borrow.Author.Tests.{eqb-true, eq-eqb}
use Rattle.std.proofs.Math.ListN.{length}
use Rattle.chain.specs.All.{All}
use Rattle.chain.specs.First.{first}
use Rattle.chain.specs.Nth.{nth}
use Rattle.chain.specs.Found.{Found}
use Rattle.chain.proofs.laws.Apart.{Apart, chain-apart}
use Rattle.chain.proofs.laws.Below.{below}
use Rattle.chain.proofs.laws.First.{first-all, when-nothing}
use Rattle.chain.proofs.laws.Inside.{In, chain-covers}
use Rattle.chain.proofs.laws.Nth.{nth-all, all-of-nth}
use Rattle.kinds.specs.Kinds.{listed}
use Rattle.kinds.specs.declared.Kind.TheVariants.{Tag}
use Rattle.kinds.specs.declared.Kinds.{Kinds}
use Rattle.octets.specs.Bytes.{byte, Octets, run}
use Rattle.octets.specs.Rows.{Value, shown_rows}
use Rattle.octets.proofs.laws.Bytes.{length-run, byte-run, run-octets}
use Rattle.octets.proofs.laws.Rows.{rows-told}
use Rattle.octets.proofs.laws.Same.{Same}
use Rattle.octets.proofs.laws.Told.{run-told}
use Rattle.tiny.specs.Answers.{string_numbered}
use Rattle.tiny.specs.Items.{pool_shown, fields_at, item_at}
use Rattle.tiny.specs.NotShown.{InIndex, NotShown, check, unknown}
use Rattle.tiny.specs.Shown.{string_value, labelled, item_shown}
use Rattle.tiny.specs.Texts.{referred}
use Rattle.tiny.specs.Values.{item_values, field_values, string_said}
use Rattle.tiny.specs.declared.Item.{Item}
use Rattle.tiny.proofs.laws.Exactly.{Filled, listed-filled}
use Rattle.tiny.proofs.laws.Rows.{known-rows}
use Rattle.tiny.proofs.laws.Resolved.{string-text}
use Rattle.tiny_layout.specs.Layout.{total, check_place, is_long, head_size, data_length, data_at, next, items}
use Rattle.tiny_layout.specs.Pool.{is_known, is_of, known_of, pool_at, pool}
use Rattle.tiny_layout.specs.Strings.{is_marked, texts, strings}
use Rattle.tiny_layout.specs.Tables.{table}
use Rattle.tiny_layout.proofs.laws.Tables.{gapless, hidden}
use Rattle.tiny_layout.specs.Tags.{shape_of, index_count, field_bytes}
use Rattle.tiny_layout.specs.declared.Shape.{Shape}
use Rattle.tiny_layout.proofs.laws.Layout.{next-grows, data-within, item-within}
use Rattle.tiny_layout.proofs.laws.Pool.{known-holds}
use Rattle.tiny_layout.proofs.laws.Tags.{shape-view, fields-exact}
use Rattle.tiny_rules.specs.Judged.{judged}
use Rattle.tiny_rules.proofs.laws.Accepted.{head-accepted, total-within, items-fit, pool-last, pool-ends}
use Rattle.tiny_layout.proofs.laws.Split.{Closed, split-injective}

-- ---- one image: the listed pool is the item of tag 01
module _ (k : Kinds) (s : List ℕ) (c : ℕ) (e : judged k s ≡ Ok c) (i p : ℕ) (at : nth (items s) i ≡ Some p) (on : listed k (Tag 0x01) ≡ true) (tag : byte s p ≡ 0x01) where
  ends : next s p ≡ check_place s
  ends = nth-all (λ q. listed k (Tag 0x01) ≡ true → byte s q ≡ 0x01 → next s q ≡ check_place s) (items s) i p (pool-last k s c e) at on tag

  pub pool-is : pool k s ≡ record { from = data_at s p; to = next s p }
  unfolding pool
  pool-is = go (first (known_of k s 0x01) (items s)) refl
    where
      Near : ℕ → Type 0
      Near q = (listed k (Tag 0x01) ≡ true → byte s q ≡ 0x01 → next s q ≡ check_place s) × ((q < check_place s) × Apart (next s) (check_place s) (next-grows s) p q)

      near : All Near (items s)
      near =
          all-of-nth Near (items s)
          (λ j q stands. (
            nth-all (λ q. listed k (Tag 0x01) ≡ true → byte s q ≡ 0x01 → next s q ≡ check_place s) (items s) j q (pool-last k s c e) stands,
            ((item-within s j q stands).1, chain-apart (next s) (check_place s) (next-grows s) 3 i j p q at stands),
          ))

      go : (f : Found) → first (known_of k s 0x01) (items s) ≡ f → pool_at s f ≡ record { from = data_at s p; to = next s p }
      go (Some q) d =
          let w = known-holds k s 0x01 q Near near d in
          let o : next s q ≡ check_place s = w.2.0 w.0 w.1 in
          let z : q ≡ p = elim w.2.1.1 [
            | inl x ↦ sym x
            | inr (inl x) ↦ absurd (omega (arith, x, ends, w.2.1.0))
            | inr (inr x) ↦ absurd (omega (arith, x, o, (item-within s i p at).1))
          ] in
          ap (λ (x : ℕ). pool_at s (Some x)) z
      go None d =
          let w : known_of k s 0x01 p ≡ None = nth-all (λ x. known_of k s 0x01 x ≡ None) (items s) i p (first-all (known_of k s 0x01) (items s) d) at in
          absurd (false≢true (sym (when-nothing (is_of k s 0x01 p) p w) ∙ ap₂ (λ (x y : Bool). x && y) on (eq-eqb (byte s p) 0x01 tag)))

-- the last byte of the pool is marked
closed : (k : Kinds) (s : List ℕ) (c : ℕ) → judged k s ≡ Ok c → (from to : ℕ) → pool k s ≡ record { from = from; to = to } → Closed (run s from (to - from))
closed k s c e from to is j h =
    let n : j + 1 ≡ to - from = h ∙ length-run s from (to - from) in
    ap (λ (x : ℕ). is_marked x) (byte-run s from (to - from) j (omega arith))
    ∙ pool-ends k s c e (from + j) (omega (arith, ap (λ x. x.from) is)) (omega (arith, ap (λ x. x.to) is))

-- ---- two images, item i of both at p
module _ (k : Kinds) (s t : List ℕ) (good : Octets s) (fine : Octets t) (c d : ℕ) (e : judged k s ≡ Ok c) (g : judged k t ≡ Ok d) (i p : ℕ) (at : nth (items s) i ≡ Some p) (too : nth (items t) i ≡ Some p) (item : item_values s (item_at k s (pool k s) p) ≡ item_values t (item_at k t (pool k t) p)) where
  -- the head: tag, and the length byte of a long tag
  pub tags : byte s p ≡ byte t p
  unfolding item_at
  tags = ap (λ v. v.kind) item

  lengths : data_length s p ≡ data_length t p
  unfolding item_at
  lengths = ap (λ v. v.length) item

  pub datas : data_at s p ≡ data_at t p
  datas = ap (λ (x : ℕ). p + head_size x) tags

  pub nexts : next s p ≡ next t p
  unfolding next
  nexts = ap₂ (λ (x n : ℕ). p + (head_size x + n)) tags lengths

  pub head-told : Same s t p (data_at s p)
  unfolding head_size data_length
  head-told q a b = go (is_long (byte s p)) refl b (lengths ∙ ap (λ (x : ℕ). cond (is_long x) (byte t (p + 1)) (x / 16)) (sym tags))
    where
      tag : q ≡ p → byte s q ≡ byte t q
      tag z = ap (byte s) z ∙ tags ∙ ap (byte t) (sym z)

      go : (m : Bool) → is_long (byte s p) ≡ m → q < p + cond m 2 1 → cond m (byte s (p + 1)) (byte s p / 16) ≡ cond m (byte t (p + 1)) (byte s p / 16)
          → byte s q ≡ byte t q
      go true f l n =
          elim (below q (p + 1)) [
            | inl x ↦ tag (omega arith)
            | inr x ↦ let z : q ≡ p + 1 = omega arith in ap (byte s) z ∙ n ∙ ap (byte t) (sym z)
          ]
      go false f l n = tag (omega arith)

  -- ---- known
  module _ (on : is_known k s p ≡ true) where
    shown : field_values s (fields_at s (pool k s) (shape_of (byte s p)) p) ≡ field_values t (fields_at t (pool k t) (shape_of (byte s p)) p)
    unfolding item_at
    shown =
        sym (ap (λ (b : Bool). field_values s (cond b (fields_at s (pool k s) (shape_of (byte s p)) p) Item.NotKnown)) on)
        ∙ ap (λ v. v.fields) item
        ∙ ap (λ (x : ℕ). field_values t (cond (listed k (Tag x)) (fields_at t (pool k t) (shape_of x) p) Item.NotKnown)) (sym tags)
        ∙ ap (λ (b : Bool). field_values t (cond b (fields_at t (pool k t) (shape_of (byte s p)) p) Item.NotKnown)) on

    -- the rows of its tag: every byte of them agrees, or is an index
    rows-shown : item_shown k s p ≡ item_shown k t p
    unfolding item_at
    rows-shown =
        sym (known-rows k s p on) ∙ ap (λ v. labelled v.fields) item ∙ known-rows k t p (ap (λ (x : ℕ). listed k (Tag x)) (sym tags) ∙ on)

    fields-told : (q : ℕ) → data_at s p ≤ q → q < data_at s p + field_bytes (shape_of (byte s p)) → (byte s q ≡ byte t q) ⊎ (q < data_at s p + index_count (shape_of (byte s p)))
    fields-told q a b =
        elim (rows-told (look s) (look t) s t good fine (data_at s p) (data_length s p) (data_length t p) q 0 (field_bytes (shape_of (byte s p)))
        (table (shape_of (byte s p))) (gapless (shape_of (byte s p))) (rows-shown ∙ moved) (omega arith) b) [
          | inl x ↦ inl x
          | inr x ↦ inr (hidden (data_at s p) q (shape_of (byte s p)) x)
        ]
      where
        look : List ℕ → ℕ → Value
        look x n = string_value (referred k x n)

        moved : item_shown k t p ≡ shown_rows (look t) t (data_at s p) (data_length t p) (table (shape_of (byte s p)))
        moved = ap₂ (λ (d b : ℕ). shown_rows (look t) t d (data_length t p) (table (shape_of b))) (sym datas) (sym tags)

    -- ---- the pool
    module _ (tag : byte s p ≡ 0x01) (strings : (n : ℕ) → string_said s (string_numbered k s n) ≡ string_said t (string_numbered k t n)) where
      listed-pool : listed k (Tag 0x01) ≡ true
      listed-pool = ap (λ (x : ℕ). listed k (Tag x)) (sym tag) ∙ on

      mine : pool k s ≡ record { from = data_at s p; to = next s p }
      mine = pool-is k s c e i p at listed-pool tag

      theirs : pool k t ≡ record { from = data_at s p; to = next s p }
      theirs =
          pool-is k t d g i p too listed-pool (sym tags ∙ tag) ∙ (λ j. record { from = sym datas j; to = sym nexts j })

      counted : field_values s (fields_at s (pool k s) Shape.Pool p) ≡ field_values t (fields_at t (pool k t) Shape.Pool p)
      unfolding shape_of
      counted = subst (λ (x : ℕ). field_values s (fields_at s (pool k s) (shape_of x) p) ≡ field_values t (fields_at t (pool k t) (shape_of x) p)) tag shown

      counts : length (texts s (pool k s)) ≡ length (texts t (pool k t))
      unfolding pool_shown
      counts =
          let w = counted in
          let z : length (texts s (pool_at s (Some p))) ≡ length (texts t (pool_at t (Some p))) = cc in
          ap (λ x. length (texts s x)) mine ∙ z
          ∙ sym (ap (λ x. length (texts t x)) (pool-is k t d g i p too listed-pool (sym tags ∙ tag)))

      same-texts : texts s (pool k s) ≡ texts t (pool k t)
      same-texts = ext_get_or [] (texts s (pool k s)) (texts t (pool k t)) counts (λ n h. told n h)
        where
          told : (n : ℕ) → n < length (texts s (pool k s)) → get_or (texts s (pool k s)) n [] ≡ get_or (texts t (pool k t)) n []
          told n h =
              let z = sym (string-text k s c e listed-pool n h) ∙ strings n ∙ string-text k t d g listed-pool n (omega (arith, counts)) in cc

      pool-told : Same s t (data_at s p) (next s p)
      unfolding texts
      pool-told q a b =
          let n : ℕ = next s p - data_at s p in
          run-told s t (data_at s p) n
          (split-injective (run s (data_at s p) n) (run t (data_at s p) n) (run-octets s (data_at s p) n good) (run-octets t (data_at s p) n fine)
          (closed k s c e (data_at s p) (next s p) mine) (closed k t d g (data_at s p) (next s p) theirs)
          (sym (ap (texts s) mine) ∙ same-texts ∙ ap (texts t) theirs))
          q a (omega (arith, data-within s p))

    -- ---- the data of a known item
    data-end : 0 < field_bytes (shape_of (byte s p)) → next s p ≡ data_at s p + field_bytes (shape_of (byte s p))
    unfolding next data_length
    data-end h = go (is_long (byte s p)) refl
      where
        go : (b : Bool) → is_long (byte s p) ≡ b
            → p + (head_size (byte s p) + cond b (byte s (p + 1)) (byte s p / 16)) ≡ p + head_size (byte s p) + field_bytes (shape_of (byte s p))
        go true z = absurd (omega (arith, h, fields-exact (byte s p) h, eqb-true (byte s p / 16) 0 z))
        go false z = omega (arith, fields-exact (byte s p) h)

    -- a row that a list may hold is that of the pool, or has fields
    some-row : (byte s p ≡ 0x01) ⊎ (0 < field_bytes (shape_of (byte s p)))
    some-row =
        elim (shape-view (λ tag a. (tag ≡ 0x01) ⊎ ((0 < field_bytes a) ⊎ (a ≡ Shape.Other))) (inl refl) (inr (inl (omega arith))) (inr (inl (omega arith)))
        (inr (inl (omega arith))) (inr (inl (omega arith))) (inr (inl (omega arith))) (inr (inl (omega arith))) (inr (inl (omega arith))) (λ tag. inr (inr refl)) (byte s p)) [
          | inl z ↦ inl z
          | inr (inl z) ↦ inr z
          | inr (inr z) ↦ absurd (subst (λ (a : Shape). Filled (field_values s (fields_at s (pool k s) a p))) z (listed-filled k s (pool k s) p (byte s p) on))
        ]

    pub data-told : ((n : ℕ) → string_said s (string_numbered k s n) ≡ string_said t (string_numbered k t n)) → (q : ℕ) → data_at s p ≤ q → q < next s p
        → (byte s q ≡ byte t q) ⊎ (q < data_at s p + index_count (shape_of (byte s p)))
    data-told strings q a b =
        elim some-row [
          | inl z ↦ inl (pool-told z strings q a b)
          | inr z ↦ fields-told q a (omega (arith, b, data-end z))
        ]

-- ---- item i of the first stands at p, and so does that of the second, and both show the same
pub record Both (k : Kinds) (s t : List ℕ) (i p : ℕ) : Type 0 where
  pub too : nth (items t) i ≡ Some p
  pub item : item_values s (item_at k s (pool k s) p) ≡ item_values t (item_at k t (pool k t) p)

-- every item of the first does
abbrev pub AllBoth : Kinds → List ℕ → List ℕ → Type 0
AllBoth k s t = (i p : ℕ) → nth (items s) i ≡ Some p → Both k s t i p

module _ (k : Kinds) (s t : List ℕ) (c d : ℕ) (e : judged k s ≡ Ok c) (g : judged k t ≡ Ok d) (both : AllBoth k s t) where
  -- the last item of the one lies in the other
  reaches : Octets s → Octets t → check_place s ≤ check_place t
  reaches good fine =
      elim (below 3 (check_place s)) [
        | inl h ↦
            let w : In (next s) (items s) (check_place s - 1) = chain-covers (next s) (check_place s) (next-grows s) 3 (check_place s - 1) (omega arith) (omega arith) in
            let o : Both k s t w.number w.place = both w.number w.place w.stands in
            let n = nexts k s t good fine c d e g w.number w.place w.stands o.too o.item in
            omega (
              arith,
              w.before,
              n,
              (nth-all (λ p. (3 ≤ p) × (next t p ≤ check_place t)) (items t) w.number w.place (items-fit k t d g) o.too).1,
            )
        | inr h ↦ omega (arith, (total-within k t d g).0)
      ]

module _ (k : Kinds) (s t : List ℕ) (good : Octets s) (fine : Octets t) (c d : ℕ) (e : judged k s ≡ Ok c) (g : judged k t ≡ Ok d) (both : AllBoth k s t) (back : AllBoth k t s) (strings : (n : ℕ) → string_said s (string_numbered k s n) ≡ string_said t (string_numbered k t n)) where
  pub totals : total s ≡ total t
  totals =
      omega (
        arith,
        reaches k s t c d e g both good fine,
        reaches k t s d c g e back fine good,
        (total-within k s c e).0,
        (total-within k t d g).0,
      )

  inside : (q : ℕ) → 3 ≤ q → q < check_place s → (byte s q ≡ byte t q) ⊎ (NotShown k s q ⊎ InIndex k s q)
  inside q h l =
      let w : In (next s) (items s) q = chain-covers (next s) (check_place s) (next-grows s) 3 q h l in
      let p : ℕ = w.place in
      let o : Both k s t w.number p = both w.number p w.stands in
      elim (below q (data_at s p)) [
        | inl x ↦ inl (head-told k s t good fine c d e g w.number p w.stands o.too o.item q w.past x)
        | inr x ↦ go w.number p w.stands o.too o.item w.before x (is_known k s p) refl
      ]
    where
      go : (i p : ℕ) → nth (items s) i ≡ Some p → nth (items t) i ≡ Some p → item_values s (item_at k s (pool k s) p) ≡ item_values t (item_at k t (pool k t) p)
          → q < next s p → data_at s p ≤ q → (b : Bool) → is_known k s p ≡ b → (byte s q ≡ byte t q) ⊎ (NotShown k s q ⊎ InIndex k s q)
      go i p at too item b a true on =
          elim (data-told k s t good fine c d e g i p at too item on strings q a b) [
            | inl z ↦ inl z
            | inr z ↦ inr (inr (record { number = i; place = p; stands = at; property = on; past = a; before = z }))
          ]
      go i p at too item b a false off = inr (inl (unknown (record { number = i; place = p; stands = at; property = off; past = a; before = b })))

  pub complete-tiny : (q : ℕ) → q < total s → (byte s q ≡ byte t q) ⊎ (NotShown k s q ⊎ InIndex k s q)
  complete-tiny zero h = inl ((head-accepted k s c e).0 ∙ sym (head-accepted k t d g).0)
  complete-tiny (suc zero) h = inl ((head-accepted k s c e).1 ∙ sym (head-accepted k t d g).1)
  complete-tiny (suc (suc zero)) h = inl totals
  complete-tiny (suc (suc (suc q))) h =
      elim (below (suc (suc (suc q))) (check_place s)) [
        | inl x ↦ inside (suc (suc (suc q))) (omega arith) x
        | inr x ↦ inr (inl (check (omega arith)))
      ]
