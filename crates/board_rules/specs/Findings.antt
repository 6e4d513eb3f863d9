-- What the code's two walks along the structures note and find. A reader of the rules may skip this. Assumes nothing.
use Rattle.std.specs.Prelude.{ℕ, ◌+◌, false, cond, List, ◌≡◌, ltb, length, None}
use Rattle.board_fields.specs.Inside.{bad_inside}
use Rattle.board_fields.specs.Reserved.{reserved_used}
use Rattle.board_layout.specs.Layout.{head_at, shape_at, struct_len, next, structures, later_at}
use Rattle.board_layout.specs.Shapes.{knows}
use Rattle.board_layout.specs.declared.Head.{Head}
use Rattle.board_rules.specs.Rules.{misplaced, gap_used, out_of_order, is_prom_sig, prom_sig_at, on_known, rule23, rule24, rule32, rule33}
use Rattle.board_rules.specs.declared.known.Contents.{Contents}
use Rattle.board_rules.specs.declared.walk.Findings.{Findings}
use Rattle.chain.specs.First.{or_else, search, when}
use Rattle.chain.specs.Found.{Found}
use Rattle.kinds.specs.declared.Kinds.{Kinds}

-- a search along the structures from p on
abbrev pub along : List ℕ → (ℕ → Found) → ℕ → Found
along s rule p = search rule (next s) (struct_len s) p

-- StructLen, and the head of the structure at p
pub record Seen (s : List ℕ) (end p : ℕ) (head : Head) : Type 0 where
  pub all : end ≡ struct_len s
  pub here : head ≡ head_at s p

-- ---- the first walk: rules 23, 24 and 25
-- rule 25 of those from `later` on
unfoldable pub order_from : ℕ → List ℕ → ℕ → Found
order_from later s p = cond (ltb p later) None (out_of_order s p)

-- what it finds of those after the third structure
abbrev pub later_order : List ℕ → Found
later_order s = along s (out_of_order s) (later_at s)

-- a structure that the reader knows; and where the structures that it does not know begin, after the one at p, if `rest` is where they begin before it
abbrev pub is_known : Kinds → List ℕ → ℕ → Found
is_known k s p = when (knows k (shape_at s p)) p

abbrev pub rest_after : Kinds → List ℕ → ℕ → ℕ → ℕ
rest_after k s p rest = cond (knows k (shape_at s p)) (next s p) rest

-- a structure that is not known, keeps rule 23, and ends where the next one starts, or has only zeros up to there
pub record Plain (k : Kinds) (s : List ℕ) (p : ℕ) : Type 0 where
  pub placed : misplaced s p ≡ None
  pub tight : gap_used s p ≡ None
  pub unknown : knows k (shape_at s p) ≡ false

-- what was found before the structure at p, or else is found there
abbrev pub noted : Kinds → List ℕ → ℕ → ℕ → Findings → Findings
noted k s later p f =
    record {
      misplaced = or_else f.misplaced (misplaced s p);
      gap = or_else f.gap (gap_used s p);
      order = or_else f.order (order_from later s p);
      signature = or_else f.signature (is_prom_sig s p);
      rest = rest_after k s p f.rest;
      count = f.count + 1;
    }

-- what the walk finds: of each rule the smallest place, `$PromSig`, from where on no structure is known, and how many there are
pub record Finds (k : Kinds) (s : List ℕ) (f : Findings) : Type 0 where
  pub gap : f.gap ≡ rule24 s
  pub order : f.order ≡ later_order s
  pub signature : f.signature ≡ prom_sig_at s
  pub rest : along s (is_known k s) f.rest ≡ None
  pub count : f.count ≡ length (structures s)

-- it ends where rule 23 is broken; then no other rule counts
pub record Walked (k : Kinds) (s : List ℕ) (f : Findings) : Type 0 where
  pub misplaced : f.misplaced ≡ rule23 s
  pub finds : rule23 s ≡ None → Finds k s f

-- ---- the second walk: rules 32 and 33
-- what was found before the structure at p, or else is found there
abbrev pub looked_into : Kinds → List ℕ → ℕ → Contents → Contents
looked_into k s p f =
    record {
      reserved = or_else f.reserved (on_known k s (reserved_used s) p);
      inside = or_else f.inside (on_known k s (bad_inside s) p);
    }

-- it ends where rule 32 is broken; then rule 33 does not count
pub record Looked (k : Kinds) (s : List ℕ) (f : Contents) : Type 0 where
  pub reserved : f.reserved ≡ rule32 k s
  pub inside : rule32 k s ≡ None → f.inside ≡ rule33 k s
