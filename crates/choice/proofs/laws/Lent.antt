-- The choice and the part depend on no more than the first StructLen bytes of an accepted image: what else is lent does not count. Assumes nothing.
use Rattle.std.specs.Prelude.{ℕ, ◌+◌, ◌≤◌, Bool, true, false, List, ◌⊎◌, ◌≡◌, length, Ok, Err}
use Rattle.std.proofs.Math.Bool.{cond}
use Rattle.std.proofs.Common.{inl, inr, sym, ◌∙◌, arith, length-take, get_or-take, length-take-le}
use Rattle.std.proofs.Math.Path.{refl, ap, ap₂, subst}
use Rattle.std.proofs.Math.ListN.{take}
use Rattle.board_layout.specs.Layout.{struct_len, next, map_at, board_at}
use Rattle.board_layout.specs.Places.{Version, ManuName, BrdName, BoardId, FabId, EcId, BoardType}
use Rattle.board_layout.proofs.laws.Same.{struct-len-same, head-same, next-same, map-place-same}
use Rattle.board_rules.specs.Judged.{judged}
use Rattle.board_rules.proofs.laws.Accepted.{lent-within, struct-len-within, struct-len-least, three-fit, board-ends}
use Rattle.board_rules.proofs.laws.Same.{judged-same}
use Rattle.choice.specs.Choice.{eeprom_wins, choice_if, choice_of, part, chosen_of}
use Rattle.choice.specs.AnswerTypes.{ChoiceAnswer}
use Rattle.choice.specs.declared.Part.TheVariants.{Firmware, Eeprom}
use Rattle.choice.specs.Boards.{board_from, board_of}
use Rattle.choice.proofs.laws.Boards.{Newer, wins-exactly}
use Rattle.choice.proofs.laws.Exactly.{Accepts, Says, choice-says}
use Rattle.kinds.specs.declared.Kinds.{Kinds}
use Rattle.octets.specs.Bytes.{byte, le32}
use Rattle.octets.proofs.laws.Same.{Same, byte-same, run-same, le32-same}
use Rattle.verdict.specs.Answers.{Judged}

-- all that the choice looks at
record Like (k : Kinds) (s t : List ℕ) : Type 0 where
  verdict : judged k s ≡ judged k t
  len : struct_len s ≡ struct_len t
  board : board_of s ≡ board_of t
  version : le32 s Version ≡ le32 t Version
  front : take (struct_len s) s ≡ take (struct_len s) t

-- ---- it lies in the first StructLen bytes of an accepted image
module _ (k : Kinds) (s t : List ℕ) (n : ℕ) (a : judged k s ≡ Ok n) (front : take (struct_len s) s ≡ take (struct_len s) t) (most : length t ≤ 65536) where
  long : 0x20 ≤ struct_len s
  long = struct-len-least k s n a

  whole : struct_len s ≤ length s
  whole = (struct-len-within k s n a).1

  other : struct_len s ≤ length t
  other =
      let d : length (take (struct_len s) t) ≡ struct_len s = sym (ap length front) ∙ length-take-le (struct_len s) s whole in
      omega (arith, simp length-take at d)

  same : Same s t 0 (struct_len s)
  same q _ h = sym (get_or-take (struct_len s) s q 0 h) ∙ ap (λ (l : List ℕ). byte l q) front ∙ get_or-take (struct_len s) t q 0 h

  board-moved : board_at s ≡ board_at t
  unfolding board_at
  board-moved =
      next-same s t (map_at s) (head-same s t long same (map_at s) (three-fit k s n a).1.room) ∙ ap (next t) (map-place-same s t long same)

  board-there : board_at s + 0x60 ≤ struct_len s
  board-there = omega (arith, (board-ends k s n a).0, (three-fit k s n a).2.ends)

  board-same : board_from s (board_at s) ≡ board_from t (board_at s)
  board-same i =
      let p = board_at s in
      record {
        manu_name = run-same s t 0 (struct_len s) same (p + ManuName) (omega arith) 16 (omega (arith, board-there)) i;
        brd_name = run-same s t 0 (struct_len s) same (p + BrdName) (omega arith) 16 (omega (arith, board-there)) i;
        board_id = le32-same s t 0 (struct_len s) same (p + BoardId) (omega arith) (omega (arith, board-there)) i;
        fab_id = le32-same s t 0 (struct_len s) same (p + FabId) (omega arith) (omega (arith, board-there)) i;
        ec_id = le32-same s t 0 (struct_len s) same (p + EcId) (omega arith) (omega (arith, board-there)) i;
        board_type = byte-same s t 0 (struct_len s) same (p + BoardType) (omega arith) (omega (arith, board-there)) i;
      }

  front-like : Like k s t
  front-like =
      record {
        verdict = judged-same s t long same whole other (lent-within k s n a).1 most k;
        len = struct-len-same s t long same;
        board = board-same ∙ ap (board_from t) board-moved;
        version = le32-same s t 0 (struct_len s) same Version (omega arith) (omega (arith, long));
        front = front;
      }

-- ---- so the answers agree where that does
equal-truth : (a b : Bool) → (a ≡ true → b ≡ true) → (b ≡ true → a ≡ true) → a ≡ b
equal-truth true b to from = sym (to refl)
equal-truth false true to from = from refl
equal-truth false false to from = refl

module _ (k : Kinds) (f g e d : List ℕ) (F : Like k f g) (E : Like k e d) where
  wins-like : eeprom_wins f e ≡ eeprom_wins g d
  wins-like =
      equal-truth (eeprom_wins f e) (eeprom_wins g d)
      (λ h. let w : Newer f e = (wins-exactly f e).0 h in (wins-exactly g d).1 (sym F.board ∙ w.0 ∙ E.board, omega (arith, w.1, F.version, E.version)))
      (λ h. let w : Newer g d = (wins-exactly g d).0 h in (wins-exactly f e).1 (F.board ∙ w.0 ∙ sym E.board, omega (arith, w.1, F.version, E.version)))

  choice-like : choice_of k f e ≡ choice_of k g d
  unfolding choice_of
  choice-like = go (judged k f) (judged k e) ∙ ap₂ (choice_if g d) F.verdict E.verdict
    where
      go : (x y : Judged) → choice_if f e x y ≡ choice_if g d x y
      go (Ok n) (Ok m) = λ i. cond (wins-like i) (Ok (Eeprom (E.len i))) (Ok (Firmware (F.len i)))
      go (Ok n) (Err q) = ap (λ (n : ℕ). Ok (Firmware n)) F.len
      go (Err r) (Ok m) = ap (λ (n : ℕ). Ok (Eeprom n)) E.len
      go (Err r) (Err q) = refl

  part-like : chosen_of k f e ≡ chosen_of k g d
  unfolding chosen_of
  part-like = go (choice_of k f e) (choice-says k f e) ∙ ap (part g d) choice-like
    where
      go : (a : ChoiceAnswer) → Says k f e a → part f e a ≡ part g d a
      go (Ok (Firmware n)) s = subst (λ m. take m f ≡ take m g) s.1 F.front
      go (Ok (Eeprom n)) s = subst (λ m. take m e ≡ take m d) s.1 E.front
      go (Err r) s = refl

-- the same image; or one that is accepted, and at most 65,536 bytes that start with its first StructLen
abbrev pub Starts : Kinds → List ℕ → List ℕ → Type 0
Starts k s t = (s ≡ t) ⊎ (Accepts k s × (take (struct_len s) s ≡ take (struct_len s) t) × (length t ≤ 65536))

starts-like : (k : Kinds) (s t : List ℕ) → Starts k s t → Like k s t
starts-like k s t (inl e) =
    record {
      verdict = ap (judged k) e;
      len = ap struct_len e;
      board = ap board_of e;
      version = ap (λ (l : List ℕ). le32 l Version) e;
      front = ap (take (struct_len s)) e;
    }
starts-like k s t (inr h) = front-like k s t h.0.0 h.0.1 h.1 h.2

-- the same choice, and the same part
pub longer-lent : (k : Kinds) (f g e d : List ℕ) → Starts k f g → Starts k e d → (choice_of k f e ≡ choice_of k g d) × (chosen_of k f e ≡ chosen_of k g d)
longer-lent k f g e d firmware eeprom =
    let F = starts-like k f g firmware in let E = starts-like k e d eeprom in (choice-like k f g e d F E, part-like k f g e d F E)
