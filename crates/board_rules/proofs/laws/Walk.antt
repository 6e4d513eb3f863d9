-- What rules 23 and 24 tell of a structure: it has its room, its '$' and its head, it ends by StructLen, and either ends there or another follows; and the
-- bytes up to that one are zero. With rule 25: the structures are the header, the map, the board, and later ones. Assumes nothing.
use Rattle.std.specs.Prelude.{ℕ, ◌+◌, ◌-◌, ◌≤◌, ◌<◌, Bool, true, false, not, ◌&&◌, ◌⊎◌, ◌≡◌, eqb, ltb, Some, None}
use Rattle.std.proofs.Math.Bool.{cond}
use Rattle.std.proofs.lemmas.Bool.{false≢true, lt-leb}
use mathlib.Core.List.{List, [], ◌∷◌}
use Rattle.std.proofs.Common.{inl, inr, sym, ◌∙◌, arith, eqb-true, eq-eqb, ne_eqb, leb-false, le-ltb}
use Rattle.std.proofs.Math.Path.{refl, ap, subst}
use Rattle.std.proofs.Math.Dec.{leb}
use Rattle.board_layout.specs.Layout.{signature_at, length_at, struct_len, end_at, next, structures, map_at, board_at, later_at}
use Rattle.board_layout.specs.Places.{head_size}
use Rattle.board_layout.proofs.laws.Layout.{next-grows}
use Rattle.board_rules.specs.Rules.{overdue, misplaced, rule23, gap_used, rule24, rule25, is_prom_sig, prom_sig_at}
use Rattle.board_rules.proofs.laws.Order.{map-second, board-third}
use Rattle.chain.specs.All.{All}
use Rattle.chain.specs.Chain.{chain}
use Rattle.chain.specs.First.{when}
use Rattle.chain.specs.Found.{Found}
use Rattle.chain.proofs.laws.All.{all-map}
use Rattle.chain.proofs.laws.Chain.{chain-more}
use Rattle.chain.proofs.laws.Checks.{checks-none, none-checks, kept-equal, kept-under}
use Rattle.chain.proofs.laws.First.{Hit, first-all, first-hit, hit-holds, when-place, when-nothing}
use Rattle.kinds.specs.Signatures.{prom_sig}
use Rattle.octets.specs.Bytes.{byte}
use Rattle.octets.specs.Label.{dollar}
use Rattle.octets.specs.Runs.{nonzero}
use Rattle.octets.proofs.laws.Runs.{nonzero-none}

-- what rule 23 asks of the structure at p
pub record Fits (s : List ℕ) (p : ℕ) : Type 0 where
  pub room : p + 16 ≤ struct_len s
  pub mark : byte s p ≡ dollar
  pub head : 16 ≤ length_at s p
  pub ends : end_at s p ≤ struct_len s
  -- it is the last, or another starts before StructLen
  pub goes : (end_at s p ≡ struct_len s) ⊎ (next s p < struct_len s)

module _ (s : List ℕ) where
  -- ---- rule 23: its checks
  abbrev walk_checks : ℕ → List Found
  walk_checks p =
      when (ltb (struct_len s) (p + head_size)) p
      ∷ when (not (eqb (byte s p) dollar)) p
      ∷ when (ltb (length_at s p) head_size) p
      ∷ when (ltb (struct_len s) (end_at s p)) p
      ∷ overdue s p
      ∷ []

  -- no other structure is due that does not start before StructLen
  goes-on : (p : ℕ) (a b : Bool) → eqb (end_at s p) (struct_len s) ≡ a → leb (struct_len s) (next s p) ≡ b → not a && b ≡ false
      → (end_at s p ≡ struct_len s) ⊎ (next s p < struct_len s)
  goes-on p true b d c e = inl (eqb-true (end_at s p) (struct_len s) d)
  goes-on p false true d c e = absurd (false≢true (sym e))
  goes-on p false false d c e = inr (leb-false (struct_len s) (next s p) c)

  -- a structure that is not misplaced fits
  pub fits : (p : ℕ) → misplaced s p ≡ None → Fits s p
  unfolding misplaced
  fits p e =
      let t = checks-none (walk_checks p) e in
      record {
        room = kept-under (struct_len s) (p + head_size) p t.0;
        mark = kept-equal (byte s p) dollar p t.1.0;
        head = kept-under (length_at s p) head_size p t.1.1.0;
        ends = kept-under (struct_len s) (end_at s p) p t.1.1.1.0;
        goes =
            goes-on p (eqb (end_at s p) (struct_len s)) (leb (struct_len s) (next s p)) refl refl
            (when-nothing (not (eqb (end_at s p) (struct_len s)) && leb (struct_len s) (next s p)) (next s p) t.1.1.1.1.0);
      }

  -- none is due that is not there
  none-due : (p : ℕ) → (end_at s p ≡ struct_len s) ⊎ (next s p < struct_len s) → overdue s p ≡ None
  none-due p (inl h) = rw (eq-eqb (end_at s p) (struct_len s) h)
  none-due p (inr h) = go (eqb (end_at s p) (struct_len s))
    where
      go : (a : Bool) → when (not a && leb (struct_len s) (next s p)) (next s p) ≡ None
      go true = refl
      go false = ap (λ (b : Bool). when b (next s p)) (lt-leb (struct_len s) (next s p) h)

  -- and one that fits is not misplaced
  pub fits-clear : (p : ℕ) → Fits s p → misplaced s p ≡ None
  unfolding misplaced
  fits-clear p f =
      none-checks (walk_checks p) (
        ap (λ (b : Bool). when b p) (le-ltb (struct_len s) (p + head_size) f.room),
        (
          ap (λ (b : Bool). when (not b) p) (eq-eqb (byte s p) dollar f.mark),
          (
            ap (λ (b : Bool). when b p) (le-ltb (length_at s p) head_size f.head),
            (ap (λ (b : Bool). when b p) (le-ltb (struct_len s) (end_at s p) f.ends), (none-due p f.goes, tt)),
          ),
        ),
      )

  -- rule 23 is not broken: each structure fits
  pub walk-fits : rule23 s ≡ None → All (Fits s) (structures s)
  unfolding rule23
  walk-fits e = all-map (λ p. misplaced s p ≡ None) (Fits s) fits (structures s) (first-all (misplaced s) (structures s) e)

  -- a `$PromSig` that is found fits
  pub prom-sig-fits : rule23 s ≡ None → (p : ℕ) → prom_sig_at s ≡ Some p → Fits s p
  unfolding prom_sig_at
  prom-sig-fits e p d =
      let h : Hit (is_prom_sig s) (structures s) p = first-hit (is_prom_sig s) (structures s) p d in
      subst (Fits s) (when-place (eqb (signature_at s h.item) prom_sig) h.item p h.breaks)
      (hit-holds (is_prom_sig s) (Fits s) (structures s) p (walk-fits e) h)

  -- ---- rule 24: the bytes from the end of a structure that is not the last up to the next one
  abbrev pub GapZero : ℕ → Type 0
  GapZero p = (end_at s p ≡ struct_len s → ⊥) → (q : ℕ) → end_at s p ≤ q → q < next s p → byte s q ≡ 0

  -- they are zero after a structure that does not break it
  gap-clear : (p : ℕ) → gap_used s p ≡ None → GapZero p
  unfolding gap_used
  gap-clear p e more q h l =
      subst (λ (x : ℕ). byte s x ≡ 0) (omega arith)
      (nonzero-none s (end_at s p) 0 (next s p - end_at s p)
      (subst (λ (b : Bool). cond b None (nonzero s (end_at s p) 0 (next s p - end_at s p)) ≡ None) (ne_eqb (end_at s p) (struct_len s) more) e)
      (q - end_at s p) (omega arith) (omega arith))

  -- rule 24 is not broken: all of them are zero
  pub gap-zero : rule24 s ≡ None → All GapZero (structures s)
  unfolding rule24
  gap-zero e = all-map (λ p. gap_used s p ≡ None) GapZero gap-clear (structures s) (first-all (gap_used s) (structures s) e)

  -- ---- rule 25: the structures are the header, the map, the board, and those after them
  pub structures-are : rule25 s ≡ None → structures s ≡ 0 ∷ map_at s ∷ board_at s ∷ chain (next s) (struct_len s) (later_at s)
  unfolding map_at board_at later_at
  structures-are e =
      chain-more (next s) (struct_len s) (next-grows s) 0 (omega (arith, (map-second s e).0))
      ∙ ap (λ (l : List ℕ). 0 ∷ l)
      (chain-more (next s) (struct_len s) (next-grows s) (map_at s) (map-second s e).0
      ∙ ap (λ (l : List ℕ). map_at s ∷ l) (chain-more (next s) (struct_len s) (next-grows s) (board_at s) (board-third s e).0))

  -- what holds of each structure holds of the header, the map and the board
  pub first-three : (P : ℕ → Type 0) → rule25 s ≡ None → All P (structures s) → P 0 × P (map_at s) × P (board_at s)
  first-three P e a = let t = subst (All P) (structures-are e) a in (t.0, t.1.0, t.1.1.0)
