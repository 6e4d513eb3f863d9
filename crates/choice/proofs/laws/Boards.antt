-- What the test of two images says as an equation: of one board are those that are equal in the six fields that count, the names as sixteen bytes.
-- Assumes nothing.
use Rattle.std.specs.Prelude.{ℕ, ◌+◌, ◌<◌, Bool, true, false, ◌&&◌, List, ◌↔◌, ◌≡◌, refl, eqb, ltb}
use Rattle.std.proofs.lemmas.Bool.{false≢true}
use Rattle.std.proofs.Common.{ap, ◌∙◌}
use borrow.Author.Tests.{eqb-true, eq-eqb, ltb-true, lt-ltb}
use Rattle.board_layout.specs.Layout.{board_at}
use Rattle.board_layout.specs.Places.{Version, ManuName, BrdName, BoardId, FabId, EcId, BoardType}
use Rattle.choice.specs.Boards.{board_of}
use Rattle.choice.specs.declared.Board.{Board}
use Rattle.choice.specs.Choice.{same_ids, same_board_at, same_board, eeprom_wins}
use Rattle.octets.specs.Bytes.{byte, run, le32}
use Rattle.octets.specs.Runs.{same_run}
use Rattle.octets.proofs.laws.Runs.{same-is-equal, equal-is-same, means-same-run}
use Rattle.chain.proofs.laws.Means.{means-same}
use Rattle.std.specs.Cmp.Lexicographic.{pointwise}
use Rattle.std.proofs.lemmas.Slice.Eq.{slice_eq-Decides}
use Rattle.std.proofs.lemmas.Bool.Decides.{Decides-eqb}

-- the EEPROM image is of the same board and has the greater Version
abbrev pub Newer : List ℕ → List ℕ → Type 0
Newer f e = (board_of f ≡ board_of e) × (le32 f Version < le32 e Version)

-- ---- what a conjunction tells
both : (a b : Bool) → a && b ≡ true → (a ≡ true) × (b ≡ true)
both true b h = (refl, h)
both false b h = absurd (false≢true h)

three : (a b c : Bool) → a && b && c ≡ true → (a ≡ true) × (b ≡ true) × (c ≡ true)
three a b c h = let l = both (a && b) c h in let m = both a b l.0 in (m.0, m.1, l.1)

four : (a b c d w x y z : ℕ) → eqb a w && eqb b x && eqb c y && eqb d z ≡ true → (a ≡ w) × (b ≡ x) × (c ≡ y) × (d ≡ z)
four a b c d w x y z h =
    let l = three (eqb a w && eqb b x) (eqb c y) (eqb d z) h in
    let m = both (eqb a w) (eqb b x) l.0 in (eqb-true a w m.0, eqb-true b x m.1, eqb-true c y l.1, eqb-true d z l.2)

module _ (f e : List ℕ) where
  pub same-board-equal : same_board f e ≡ true → board_of f ≡ board_of e
  unfolding same_board_at same_ids
  same-board-equal h =
      let p = board_at f in
      let q = board_at e in
      let names = three (same_run f (p + ManuName) e (q + ManuName) 16) (same_run f (p + BrdName) e (q + BrdName) 16) (same_ids f p e q) h in
      let ids =
      four (le32 f (p + BoardId)) (le32 f (p + FabId)) (le32 f (p + EcId)) (byte f (p + BoardType))
      (le32 e (q + BoardId)) (le32 e (q + FabId)) (le32 e (q + EcId)) (byte e (q + BoardType)) names.2 in
      λ i.
      record {
        manu_name = same-is-equal f (p + ManuName) e (q + ManuName) 16 names.0 i;
        brd_name = same-is-equal f (p + BrdName) e (q + BrdName) 16 names.1 i;
        board_id = ids.0 i;
        fab_id = ids.1 i;
        ec_id = ids.2 i;
        board_type = ids.3 i;
      }

  pub equal-same-board : board_of f ≡ board_of e → same_board f e ≡ true
  unfolding same_board_at same_ids
  equal-same-board h =
      rw (
        equal-is-same f (board_at f + ManuName) e (board_at e + ManuName) 16 (ap (λ (b : Board). b.manu_name) h),
        equal-is-same f (board_at f + BrdName) e (board_at e + BrdName) 16 (ap (λ (b : Board). b.brd_name) h),
        eq-eqb _ _ (ap (λ (b : Board). b.board_id) h),
        eq-eqb _ _ (ap (λ (b : Board). b.fab_id) h),
        eq-eqb _ _ (ap (λ (b : Board). b.ec_id) h),
        eq-eqb _ _ (ap (λ (b : Board). b.board_type) h),
      )

  -- the test of both, exactly
  pub wins-exactly : (eeprom_wins f e ≡ true) ↔ Newer f e
  unfolding eeprom_wins
  wins-exactly = (
    λ h. let parts = both (same_board f e) (ltb (le32 f Version) (le32 e Version)) h in (same-board-equal parts.0, ltb-true _ _ parts.1),
    λ h. rw (equal-same-board h.0, lt-ltb _ _ h.1),
  )

-- ---- two boards compared field by field, as derived equality does: the same test
regrouped : (v w x y z t : Bool) → v && (w && (x && (y && (z && t)))) ≡ v && w && (x && y && z && t)
regrouped false w x y z t = refl
regrouped true false x y z t = refl
regrouped true true false y z t = refl
regrouped true true true false z t = refl
regrouped true true true true z t = refl

same-names : (f : List ℕ) (p : ℕ) (e : List ℕ) (q : ℕ) → pointwise eqb (run f p 16) (run e q 16) ≡ same_run f p e q 16
same-names f p e q =
    means-same (pointwise eqb (run f p 16) (run e q 16)) (same_run f p e q 16)
    (slice_eq-Decides Decides-eqb (run f p 16) (run e q 16) (pointwise eqb (run f p 16) (run e q 16)) refl) (means-same-run f p e q 16)

pub compared : (f e : List ℕ) (b : Bool) (x y : Board) → x ≡ board_of f → y ≡ board_of e
    → b ≡ pointwise eqb x.manu_name y.manu_name
    && (pointwise eqb x.brd_name y.brd_name
    && (eqb x.board_id y.board_id && (eqb x.fab_id y.fab_id && (eqb x.ec_id y.ec_id && eqb x.board_type y.board_type))))
    → b ≡ same_board f e
unfolding same_board_at same_ids
compared f e b x y i j told =
    told
    ∙ rw (
      i,
      j,
      same-names f (board_at f + ManuName) e (board_at e + ManuName),
      same-names f (board_at f + BrdName) e (board_at e + BrdName),
    ) (regrouped (same_run f (board_at f + ManuName) e (board_at e + ManuName) 16) (same_run f (board_at f + BrdName) e (board_at e + BrdName) 16)
    (eqb (board_of f).board_id (board_of e).board_id) (eqb (board_of f).fab_id (board_of e).fab_id) (eqb (board_of f).ec_id (board_of e).ec_id)
    (eqb (board_of f).board_type (board_of e).board_type))
