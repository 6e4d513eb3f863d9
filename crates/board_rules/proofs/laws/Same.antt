-- The judge reads an image up to StructLen and nothing lent past it: two images that agree up to the first one's StructLen, both lent whole, get one answer,
-- a refusal with its place included. The tables of rules agree rule by rule. Rules 20 to 23 read what lies before StructLen by themselves; where rule 23 is
-- not broken each structure does, and with it all that the later rules read. Assumes nothing.
use Prim.Native.Nat.{ℕ, ◌+◌, ◌-◌, ◌≤◌, ◌<◌}
use Rattle.std.specs.Prelude.{Bool, ◌&&◌, ◌⊎◌, ◌≡◌, eqb, length, Some, None, Ok}
use Rattle.std.proofs.Math.Bool.{true, false, not, cond}
use mathlib.Core.List.{List, [], ◌∷◌}
use Rattle.std.proofs.Common.{inl, inr, ◌∙◌, arith, ltb-true, le-ltb, eq-eqb}
use Rattle.std.proofs.Math.Path.{refl, sym, ap, ap₂}
use Rattle.std.proofs.Math.Dec.{ltb, leb}
use Rattle.board_fields.specs.Hash.{bad_hash}
use Rattle.board_fields.specs.Heads.{bad_map_head, bad_board_head, bad_prom_sig_head}
use Rattle.board_fields.specs.Inside.{bad_inside}
use Rattle.board_fields.specs.Map.{bad_map, bad_board_type}
use Rattle.board_fields.specs.Reserved.{reserved_used}
use Rattle.board_fields.proofs.laws.Same.{bad-map-head-same, bad-board-head-same, bad-prom-sig-head-same, bad-hash-same, bad-map-same, repeated-labels-same, bad-board-type-same, reserved-used-same, bad-inside-same}
use Rattle.board_layout.specs.Layout.{signature_at, shape_at, struct_len, end_at, next, structures, header_length, map_at, board_at, later_at, records}
use Rattle.board_layout.specs.Places.{head_size, StructLen, Crc32, CrcLength}
use Rattle.board_layout.specs.Shapes.{knows}
use Rattle.board_layout.specs.declared.Header.TheVariants.{Short}
use Rattle.board_layout.specs.declared.Records.TheVariants.{Map}
use Rattle.board_layout.specs.declared.Shape.{Shape}
use Rattle.board_layout.proofs.laws.Layout.{next-grows, end-next}
use Rattle.board_layout.proofs.laws.Same.{signature-same, major-same, length-same, shape-same, end-same, next-same, struct-len-same, part-same, head-same, walk-same, structures-same, map-place-same}
use Rattle.board_records.specs.Records.{repeated_label}
use Rattle.board_rules.specs.Judged.{rules, judged}
use Rattle.board_rules.specs.Rules.{is_header_length, rule20, rule21, rule22, misplaced, rule23, gap_used, rule24, expected, is_early, out_of_order, rule25, is_prom_sig, prom_sig_at, on_found, rule26, covered_up_to, covered, check_over, rule27, rule28, rule29, rule30, rule31, on_known, rule32, rule33, rule34}
use Rattle.chain.proofs.laws.Checks.{kept-under}
use Rattle.board_rules.proofs.laws.Heads.{map-head, board-head, prom-sig-head, covered-within}
use Rattle.board_rules.proofs.laws.Order.{expected-there}
use Rattle.board_rules.proofs.laws.Walk.{Fits, fits, walk-fits, prom-sig-fits, first-three}
use Rattle.chain.specs.All.{All}
use Rattle.chain.specs.Chain.{chain}
use Rattle.chain.specs.First.{checks, first, search, or_else, when}
use Rattle.chain.specs.Found.{Found}
use Rattle.chain.proofs.laws.All.{all-of, all-map}
use Rattle.chain.proofs.laws.First.{or_else-agree, first-all, first-agree}
use Rattle.chain.proofs.laws.Loops.{clear-here, clear-on}
use Rattle.crc.specs.Blank.{blank}
use Rattle.crc.specs.Crc32.{crc32}
use Rattle.kinds.specs.Signatures.{eeprom, eepr_map, brd_info, prom_sig}
use Rattle.kinds.specs.declared.Kinds.{Kinds}
use Rattle.octets.specs.Label.{dollar}
use Rattle.octets.specs.Runs.{nonzero}
use Rattle.octets.proofs.laws.Same.{Same, le32-same, nonzero-same, take-same}
use Rattle.verdict.proofs.laws.Agree.{Agree, agree-more, agree-answer}

module _ (s t : List ℕ) (long : 0x20 ≤ struct_len s) (same : Same s t 0 (struct_len s)) where
  -- StructLen is one number in both
  len : struct_len s ≡ struct_len t
  len = struct-len-same s t long same

  -- a rule along the structures: two tests that agree at each of them find the same
  along-same : (P : ℕ → Type 0) → All P (structures s) → (f g : ℕ → Found) → ((p : ℕ) → P p → f p ≡ g p) → first f (structures s) ≡ first g (structures t)
  along-same P a f g h =
      first-agree f g (structures s) (all-map P (λ p. f p ≡ g p) h (structures s) a) ∙ ap (first g) (structures-same s t long same)

  -- ---- the rules on the header, where both images are lent whole
  rule21-same : rule21 s ≡ rule21 t
  unfolding rule21
  rule21-same i =
      let h : Same s t 0 head_size = head-same s t long same 0 (omega arith) in
      checks
      (when (not (eqb (signature-same s t 0 h i) eeprom)) 0
      ∷ when (not (eqb (major-same s t 0 h i) 1)) 0
      ∷ when (not (is_header_length (length-same s t 0 h i))) 0
      ∷ [])

  -- ---- rule 23: what comes after a head that passes StructLen is not read
  misplaced-same : (p : ℕ) → misplaced s p ≡ misplaced t p
  unfolding misplaced
  misplaced-same p =
      or_else-agree (ap (λ (n : ℕ). when (ltb n (p + head_size)) p) len)
      (λ e.
      let room : p + head_size ≤ struct_len s = kept-under (struct_len s) (p + head_size) p e in
      let h : Same s t p (p + head_size) = head-same s t long same p room in
      λ i.
      checks
      (when (not (eqb (same p (omega arith) (omega arith) i) dollar)) p
      ∷ when (ltb (length-same s t p h i) head_size) p
      ∷ when (ltb (len i) (end-same s t p h i)) p
      ∷ when (not (eqb (end-same s t p h i) (len i)) && leb (len i) (next-same s t p h i)) (next-same s t p h i)
      ∷ []))

  rule23-same : rule23 s ≡ rule23 t
  unfolding rule23
  rule23-same =
      along-same (λ _. Unit {0}) (all-of (λ _. Unit {0}) (λ _. tt) (structures s)) (misplaced s) (misplaced t) (λ p _. misplaced-same p)

  -- ---- the later rules, where rule 23 is not broken
  module _ (walk : rule23 s ≡ None) where
    -- the head of a structure agrees
    head : (p : ℕ) → Fits s p → Same s t p (p + head_size)
    head p f = head-same s t long same p f.room

    -- rule 24: between two structures, the second of which starts before StructLen
    gap-same : (p : ℕ) → Fits s p → gap_used s p ≡ gap_used t p
    unfolding gap_used
    gap-same p f =
        go f.goes
        ∙ (λ i.
        let end : ℕ = end-same s t p (head p f) i in cond (eqb end (len i)) None (nonzero t end 0 (next-same s t p (head p f) i - end)))
      where
        go : (end_at s p ≡ struct_len s) ⊎ (next s p < struct_len s)
            → cond (eqb (end_at s p) (struct_len s)) None (nonzero s (end_at s p) 0 (next s p - end_at s p))
            ≡ cond (eqb (end_at s p) (struct_len s)) None (nonzero t (end_at s p) 0 (next s p - end_at s p))
        go (inl e) = rw (eq-eqb (end_at s p) (struct_len s) e)
        go (inr h) =
            ap (λ (f : Found). cond (eqb (end_at s p) (struct_len s)) None f)
            (nonzero-same s t 0 (struct_len s) same (end_at s p) (omega arith) 0 (next s p - end_at s p) (omega (arith, h, end-next s p)))

    rule24-same : rule24 s ≡ rule24 t
    unfolding rule24
    rule24-same = along-same (Fits s) (walk-fits s walk) (gap_used s) (gap_used t) gap-same

    -- ---- rule 25: where the second is absent the third is not looked for, and so on
    -- rule 23 from the second structure on
    from-map : search (misplaced s) (next s) (struct_len s) (map_at s) ≡ None
    unfolding rule23 map_at
    from-map = clear-on (misplaced s) (next s) (struct_len s) (next-grows s) 0 (map_at s) (omega arith) refl walk

    second-fits : map_at s < struct_len s → Fits s (map_at s)
    second-fits h = fits s (map_at s) (clear-here (misplaced s) (next s) (struct_len s) (next-grows s) (map_at s) h from-map)

    -- a signature is read only where a structure starts before StructLen
    expected-same : (g p : ℕ) → (p < struct_len s → Fits s p) → expected s g p ≡ expected t g p
    unfolding expected
    expected-same g p fit = go (ltb p (struct_len s)) refl ∙ ap (λ (n : ℕ). cond (ltb p n) (when (not (eqb (signature_at t p) g)) p) (Some n)) len
      where
        go : (b : Bool) → ltb p (struct_len s) ≡ b
            → cond b (when (not (eqb (signature_at s p) g)) p) (Some (struct_len s)) ≡ cond b (when (not (eqb (signature_at t p) g)) p) (Some (struct_len s))
        go true e =
            ap (λ (x : ℕ). when (not (eqb x g)) p) (signature-same s t p (head p (fit (ltb-true p (struct_len s) e))))
        go false e = refl

    order-same : (p : ℕ) → Fits s p → out_of_order s p ≡ out_of_order t p
    unfolding out_of_order
    order-same p f i =
        let g : ℕ = signature-same s t p (head p f) i in
        checks (when (is_early g) p ∷ when (eqb g prom_sig && not (eqb (end-same s t p (head p f) i) (len i))) p ∷ [])

    -- where the second is there, the third lies at one place in both; and where that is there, so do the later ones
    module _ (m : map_at s < struct_len s) where
      board-place-same : board_at s ≡ board_at t
      unfolding board_at
      board-place-same = next-same s t (map_at s) (head (map_at s) (second-fits m)) ∙ ap (next t) (map-place-same s t long same)

      from-board : search (misplaced s) (next s) (struct_len s) (board_at s) ≡ None
      unfolding board_at
      from-board = clear-on (misplaced s) (next s) (struct_len s) (next-grows s) (map_at s) (board_at s) m refl from-map

      third-fits : board_at s < struct_len s → Fits s (board_at s)
      third-fits h = fits s (board_at s) (clear-here (misplaced s) (next s) (struct_len s) (next-grows s) (board_at s) h from-board)

      later-same :
          board_at s < struct_len s
          → first (out_of_order s) (chain (next s) (struct_len s) (later_at s)) ≡ first (out_of_order t) (chain (next t) (struct_len t) (later_at t))
      unfolding later_at
      later-same b =
          let l : List ℕ = chain (next s) (struct_len s) (later_at s) in
          first-agree (out_of_order s) (out_of_order t) l
          (all-map (λ p. misplaced s p ≡ None) (λ p. out_of_order s p ≡ out_of_order t p) (λ p e. order-same p (fits s p e)) l
          (first-all (misplaced s) l (clear-on (misplaced s) (next s) (struct_len s) (next-grows s) (board_at s) (later_at s) b refl from-board)))
          ∙ ap (first (out_of_order t))
          (walk-same s t long same (later_at s)
          ∙ ap (chain (next t) (struct_len t)) (next-same s t (board_at s) (head (board_at s) (third-fits b)) ∙ ap (next t) board-place-same))

    rule25-same : rule25 s ≡ rule25 t
    unfolding rule25
    rule25-same =
        or_else-agree (expected-same eepr_map (map_at s) second-fits ∙ ap (expected t eepr_map) (map-place-same s t long same))
        (λ e.
        let m : map_at s < struct_len s = (expected-there s eepr_map (map_at s) e).0 in
        or_else-agree (expected-same brd_info (board_at s) (third-fits m) ∙ ap (expected t brd_info) (board-place-same m))
        (λ d. ap (λ (f : Found). or_else f None) (later-same m (expected-there s brd_info (board_at s) d).0)))

    -- ---- the rules on map, board and `$PromSig`, where rule 25 is not broken either
    -- `$PromSig` lies at one place in both
    prom-sig-same : prom_sig_at s ≡ prom_sig_at t
    unfolding prom_sig_at
    prom-sig-same =
        along-same (Fits s) (walk-fits s walk) (is_prom_sig s) (is_prom_sig t)
        (λ p f. ap (λ (g : ℕ). when (eqb g prom_sig) p) (signature-same s t p (head p f)))

    -- a rule on it: two tests that agree where it is find the same
    on-found-same : (f g : ℕ → Found) → ((p : ℕ) → prom_sig_at s ≡ Some p → f p ≡ g p) → on_found f (prom_sig_at s) ≡ on_found g (prom_sig_at t)
    on-found-same f g h = go (prom_sig_at s) refl ∙ ap (on_found g) prom-sig-same
      where
        go : (x : Found) → prom_sig_at s ≡ x → on_found f x ≡ on_found g x
        go (Some p) e = h p e
        go None e = refl

    -- and the check covers as much
    covered-same : covered s ≡ covered t
    unfolding covered
    covered-same = ap₂ covered_up_to len prom-sig-same

    module _ (order : rule25 s ≡ None) where
      -- map and board fit
      three : Fits s 0 × Fits s (map_at s) × Fits s (board_at s)
      three = first-three s (Fits s) order (walk-fits s walk)

      map-fits : Fits s (map_at s)
      map-fits = three.1

      board-fits : Fits s (board_at s)
      board-fits = three.2

      -- they lie at one place in both
      map-moved : map_at s ≡ map_at t
      map-moved = map-place-same s t long same

      board-moved : board_at s ≡ board_at t
      board-moved = board-place-same (omega (arith, map-fits.room))

      rule26-same : rule26 s ≡ rule26 t
      unfolding rule26
      rule26-same i =
          checks
          ((bad-map-head-same s t (struct_len s) same (map_at s) map-fits.room ∙ ap (bad_map_head t) map-moved) i
          ∷ (bad-board-head-same s t (struct_len s) same (board_at s) board-fits.room ∙ ap (bad_board_head t) board-moved) i
          ∷ on-found-same (bad_prom_sig_head s) (bad_prom_sig_head t)
          (λ p e. bad-prom-sig-head-same s t (struct_len s) same p (prom-sig-fits s walk p e).room) i
          ∷ [])

      rule28-same : rule28 s ≡ rule28 t
      unfolding rule28
      rule28-same i = when (ltb 4096 ((end-same s t (board_at s) (head (board_at s) board-fits) ∙ ap (end_at t) board-moved) i)) (board-moved i)

      -- ---- and where rule 26 is not
      module _ (heads : rule26 s ≡ None) where
        rule29-same : rule29 s ≡ rule29 t
        unfolding rule29
        rule29-same =
            on-found-same (bad_hash s) (bad_hash t)
            (λ p e.
            let f : Fits s p = prom-sig-fits s walk p e in
            bad-hash-same s t (struct_len s) same p f.room f.ends (prom-sig-head s heads p e).1)

        rule30-same : rule30 s ≡ rule30 t
        unfolding rule30
        rule30-same =
            bad-map-same s t (struct_len s) same (map_at s) map-fits.room map-fits.ends len (omega (arith, (map-head s heads).1))
            (omega (arith, (map-head s heads).1))
            ∙ ap (bad_map t) map-moved

        rule34-same : rule34 s ≡ rule34 t
        unfolding rule34
        rule34-same =
            repeated-labels-same s t (struct_len s) same (map_at s) map-fits.room map-fits.ends (omega (arith, (map-head s heads).1))
            (omega (arith, (map-head s heads).1))
            ∙ ap (λ (m : ℕ). first (repeated_label t m) (records Map t m)) map-moved

        rule31-same : rule31 s ≡ rule31 t
        unfolding rule31
        rule31-same =
            bad-board-type-same s t (struct_len s) same (board_at s) board-fits.room board-fits.ends (omega (arith, (board-head s heads).1))
            ∙ ap (bad_board_type t) board-moved

        -- rule 27, where both images are lent whole
        module _ (header : rule21 s ≡ None) (lent : rule22 s ≡ None) (whole : struct_len s ≤ length s) (other : struct_len s ≤ length t) where
          check-same : check_over s (covered s) ≡ check_over t (covered t)
          unfolding check_over
          check-same =
              let h : covered s ≤ struct_len s = (covered-within s header lent walk heads).1 in
              ap (λ (l : List ℕ). crc32 (blank Crc32 4 l))
              (take-same s t (covered s) (part-same s t long same 0 (covered s) h) (omega arith) (omega arith))
              ∙ ap (check_over t) covered-same

          rule27-same : rule27 s ≡ rule27 t
          unfolding rule27
          rule27-same i =
              checks
              (when (not (eqb (le32-same s t 0 (struct_len s) same Crc32 (omega arith) (omega arith) i) (check-same i))) Crc32
              ∷ when (not (eqb (le32-same s t 0 (struct_len s) same CrcLength (omega arith) (omega arith) i) (covered-same i))) CrcLength
              ∷ [])

    -- ---- the rules on the known structures
    -- two rules that agree at each structure find the same
    known-same :
        (k : Kinds) (f g : ℕ → Shape → Found) → ((p : ℕ) → Fits s p → (a : Shape) → f p a ≡ g p a)
        → first (on_known k s f) (structures s) ≡ first (on_known k t g) (structures t)
    known-same k f g agree =
        along-same (Fits s) (walk-fits s walk) (on_known k s f) (on_known k t g)
        (λ p h.
        ap (λ (x : Found). cond (knows k (shape_at s p)) x None) (agree p h (shape_at s p))
        ∙ ap (λ (a : Shape). cond (knows k a) (g p a) None) (shape-same s t p (head p h)))

    rule32-same : (k : Kinds) → rule32 k s ≡ rule32 k t
    unfolding rule32
    rule32-same k =
        known-same k (reserved_used s) (reserved_used t) (λ p f. reserved-used-same s t (struct_len s) same p f.room f.ends)

    rule33-same : (k : Kinds) → rule33 k s ≡ rule33 k t
    unfolding rule33
    rule33-same k = known-same k (bad_inside s) (bad_inside t) (λ p f. bad-inside-same s t (struct_len s) same p f.room f.ends)

  -- ---- both images are lent whole, and neither is too long
  module _ (whole : struct_len s ≤ length s) (other : struct_len s ≤ length t) where
    rule22-same : rule22 s ≡ rule22 t
    unfolding rule22
    rule22-same i =
        checks
        (when (ltb (len i) (length-same s t 0 (head-same s t long same 0 (omega arith)) i)) StructLen
        ∷ when ((le-ltb (length s) (struct_len s) whole ∙ sym (le-ltb (length t) (struct_len t) (omega (arith, other, len)))) i) StructLen
        ∷ [])

    module _ (most : length s ≤ 65536) (second : length t ≤ 65536) where
      rule20-same : rule20 s ≡ rule20 t
      unfolding rule20
      rule20-same i =
          checks
          (when ((le-ltb (length s) (header_length Short) (omega arith) ∙ sym (le-ltb (length t) (header_length Short) (omega arith))) i) 0
          ∷ when ((le-ltb 65536 (length s) most ∙ sym (le-ltb 65536 (length t) second)) i) 0
          ∷ [])

      -- the tables agree; a later rule is compared only where the earlier ones are not broken
      rules-same : (k : Kinds) → Agree (rules k s) (rules k t)
      rules-same k =
          agree-more rule20-same (λ _.
          agree-more rule21-same (λ header.
          agree-more rule22-same (λ lent.
          agree-more rule23-same (λ walk.
          agree-more (rule24-same walk) (λ _.
          agree-more (rule25-same walk) (λ order.
          agree-more (rule26-same walk order) (λ heads.
          agree-more (rule27-same walk order heads header lent whole other) (λ _.
          agree-more (rule28-same walk order) (λ _.
          agree-more (rule29-same walk order heads) (λ _.
          agree-more (rule30-same walk order heads) (λ _.
          agree-more (rule34-same walk order heads) (λ _.
          agree-more (rule31-same walk order heads) (λ _.
          agree-more (rule32-same walk k) (λ _.
          agree-more (rule33-same walk k) (λ _. tt)))))))))))))))

      -- every list gives both images one answer
      pub judged-same : (k : Kinds) → judged k s ≡ judged k t
      unfolding judged
      judged-same k =
          agree-answer (rules k s) (rules k t) (Ok (length (structures s))) (Ok (length (structures t))) (rules-same k)
          (λ _. ap (λ (l : List ℕ). Ok (length l)) (structures-same s t long same))
