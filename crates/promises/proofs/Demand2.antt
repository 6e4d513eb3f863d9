-- Demand 2: acceptance, fields, reading back and rebuilding, each from the laws of its crate. Assumes nothing.
use Rattle.std.specs.Prelude.{Some, Ok}
use Prim.Native.Nat.{ℕ}
use mathlib.Core.List.{List}
use mathlib.Core.Logic.{◌↔◌}
use mathlib.Core.Path.{◌≡◌, refl, sym, ap, subst, ◌∙◌}
use lib.ListN.{length}
use Rattle.board.specs.Items as board
use Rattle.board_rules.proofs.laws.Table as board-table
use Rattle.board_writer.proofs.laws.Rebuilt as board-rebuilt
use Rattle.board_writer.proofs.laws.Written as board-written
use Rattle.chain.specs.Nth.{nth}
use Rattle.chain.specs.Found.{Found}
use Rattle.kinds.specs.Kinds.{full}
use Rattle.kinds.specs.declared.Kinds.{Kinds}
use Rattle.promises.proofs.Exactly.{texts-shown}
use Rattle.promises.proofs.Fields.{fields-shown, major-shown, pool-count, strings-shown, no-name, records-shown}
use Rattle.promises.proofs.Labels.{labels-shown, labels-given}
use Rattle.promises.proofs.ReadBack.{written-tiny, written-board}
use Rattle.promises.proofs.Verdicts.{accepted-by, says-count}
use Rattle.promises.specs.Answers.{answers}
use Rattle.promises.specs.Demand1.{table}
use Rattle.promises.specs.Demand2.{Demand2}
use Rattle.reader.specs.Answers.{numbered, item_if, item_numbered}
use Rattle.reader.specs.Formats.{judged, places, kind_at, as_kind, length_at}
use Rattle.reader.specs.Items.{pool_of, item_at}
use Rattle.reader.specs.Values.{ItemValues, item_values, item_said}
use Rattle.reader.specs.declared.Format.{Format}
use Rattle.reader.specs.declared.Format.TheVariants.{Tiny, Board}
use Rattle.tiny.specs.Items as tiny
use Rattle.tiny_rules.proofs.laws.Table as tiny-table
use Rattle.tiny_writer.proofs.laws.Rebuilt as tiny-rebuilt
use Rattle.tiny_writer.proofs.laws.Written as tiny-written
use Rattle.verdict.specs.Said.{says}
use Rattle.verdict.specs.Answers.{Judged}
use Rattle.verdict.specs.Table.{Unbroken}

-- ---- the judge goes by the table
accepted-exactly : (f : Format) (k : Kinds) (s : List ℕ) (n : ℕ) → ((answers f k s).judge ≡ says n) ↔ (Unbroken (table f k s) × (length (places f s) ≡ n))
accepted-exactly f k s n = (λ e. (by f).0 (accepted-by f k s n e), λ u. says-count f k s n ((by f).1 u))
  where
    by : (f : Format) → (judged f k s ≡ Ok n) ↔ (Unbroken (table f k s) × (length (places f s) ≡ n))
    by Tiny = tiny-table.accepted-exactly k s n
    by Board = board-table.accepted-exactly k s n

-- ---- the item of a number is what the tables define at its place
item-shown : (f : Format) (k : Kinds) (s : List ℕ) (n : ℕ) → judged f k s ≡ Ok n → (i p : ℕ) → nth (places f s) i ≡ Some p
    → (answers f k s).item i ≡ says (item_values s (item_at f k s (pool_of f k s) p))
unfolding answers item_numbered
item-shown f k s n e i p at =
    ap (λ (j : Judged). item_said s (item_if f k s i j)) e ∙ ap (λ (x : Found). item_said s (numbered f k s x)) at

-- its kind, place and data length are those at its place
head-shown : (f : Format) (k : Kinds) (s : List ℕ) (n : ℕ) → judged f k s ≡ Ok n → (i p : ℕ) → nth (places f s) i ≡ Some p → (x : ItemValues)
    → (answers f k s).item i ≡ says x → (x.kind ≡ as_kind f (kind_at f s p)) × (x.place ≡ p) × (x.length ≡ length_at f s p)
unfolding tiny.item_at board.item_at
head-shown f k s n e i p at x said =
    let z : item_values s (item_at f k s (pool_of f k s) p) ≡ x = let w = sym (item-shown f k s n e i p at) ∙ said in cc in
    subst (λ (v : ItemValues). (v.kind ≡ as_kind f (kind_at f s p)) × (v.place ≡ p) × (v.length ≡ length_at f s p)) z (here f)
  where
    here : (f : Format)
        → ((item_values s (item_at f k s (pool_of f k s) p)).kind ≡ as_kind f (kind_at f s p)) × ((item_values s (item_at f k s (pool_of f k s) p)).place ≡ p)
        × ((item_values s (item_at f k s (pool_of f k s) p)).length ≡ length_at f s p)
    here Tiny = (refl, refl, refl)
    here Board = (refl, refl, refl)

pub demand2 : Demand2
unfolding answers
demand2 =
    record {
      accepted = accepted-exactly;
      item = λ f k s n e. item-shown f k s n (accepted-by f k s n e);
      reference = λ k s n e on. texts-shown k s n (accepted-by Tiny k s n e) on;
      head = λ f k s n e. head-shown f k s n (accepted-by f k s n e);
      fields = λ f k s n e. fields-shown f k s n (accepted-by f k s n e);
      major = λ k s n e. major-shown k s n (accepted-by Tiny k s n e);
      count = λ k s n e on. pool-count k s n (accepted-by Tiny k s n e) on;
      strings = λ k s n e on. strings-shown k s n (accepted-by Tiny k s n e) on;
      no_name = λ k s n e. no-name k s n (accepted-by Tiny k s n e);
      records = λ k s n e. records-shown k s n (accepted-by Board k s n e);
      labels = λ k s n e. labels-shown k s n (accepted-by Board k s n e);
      given_labels = labels-given;
      tiny_reads_back = tiny-written.written-reads-back;
      board_reads_back = λ x fits b n e. board-written.written-reads-back x b n e fits;
      tiny_rebuilt = λ s n e octets b. tiny-rebuilt.rebuilt s n (accepted-by Tiny full s n e) b (octets 2);
      tiny_shows = written-tiny;
      board_shows = written-board;
      board_rebuilt = λ s n e r octets. board-rebuilt.rebuilt s n (accepted-by Board full s n e) r octets;
    }
