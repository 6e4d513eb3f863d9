-- Firmware or EEPROM image: which is chosen, and the part handed back. Paper 01, "Choosing": "Given a firmware image and an EEPROM image, the chosen image is
-- handed back as the first StructLen bytes of the lent one." Assumes nothing.
use Rattle.std.specs.Prelude.{ℕ, ◌+◌, Bool, cond, ◌&&◌, List, [], eqb, ltb, take, Ok, Err}
use Rattle.board_layout.specs.Layout.{struct_len, board_at}
use Rattle.board_layout.specs.Places.{Version, ManuName, BrdName, BoardId, FabId, EcId, BoardType}
use Rattle.board_rules.specs.Judged.{judged}
use Rattle.choice.specs.AnswerTypes.{ChoiceAnswer}
use Rattle.choice.specs.declared.Part.TheVariants.{Firmware, Eeprom}
use Rattle.kinds.specs.declared.Kinds.{Kinds}
use Rattle.octets.specs.Bytes.{byte, le32}
use Rattle.octets.specs.Runs.{same_run}
use Rattle.verdict.specs.Said.{Said, says, refused}
use Rattle.verdict.specs.Answers.{Judged}

-- the board structure at p of image f and the one at q of image e: BoardId, FabId, EcId, BoardType are equal
unfoldable pub same_ids : List ℕ → ℕ → List ℕ → ℕ → Bool
same_ids f p e q =
    eqb (le32 f (p + BoardId)) (le32 e (q + BoardId))
    && eqb (le32 f (p + FabId)) (le32 e (q + FabId))
    && eqb (le32 f (p + EcId)) (le32 e (q + EcId))
    && eqb (byte f (p + BoardType)) (byte e (q + BoardType))

-- and ManuName and BrdName too. (BrdSerial does not count.)
unfoldable pub same_board_at : List ℕ → ℕ → List ℕ → ℕ → Bool
same_board_at f p e q =
    same_run f (p + ManuName) e (q + ManuName) 16 && same_run f (p + BrdName) e (q + BrdName) 16 && same_ids f p e q

-- the images' own
abbrev pub same_board : List ℕ → List ℕ → Bool
same_board f e = same_board_at f (board_at f) e (board_at e)

-- "If both are: where ManuName, BrdName, BoardId, FabId, EcId or BoardType differs, firmware; else the greater Version; if equal, firmware."
unfoldable pub eeprom_wins : List ℕ → List ℕ → Bool
eeprom_wins f e = same_board f e && ltb (le32 f Version) (le32 e Version)

abbrev pub of_both : List ℕ → List ℕ → ChoiceAnswer
of_both f e = cond (eeprom_wins f e) (Ok (Eeprom (struct_len e))) (Ok (Firmware (struct_len f)))

-- "If one is accepted, it is chosen. .. If neither, firmware's refusal"
abbrev pub choice_if : List ℕ → List ℕ → Judged → Judged → ChoiceAnswer
choice_if f e (Ok n) (Ok m) = of_both f e
choice_if f e (Ok n) (Err q) = Ok (Firmware (struct_len f))
choice_if f e (Err r) (Ok m) = Ok (Eeprom (struct_len e))
choice_if f e (Err r) (Err q) = Err r

-- "Both are judged with the one list given."
unfoldable pub choice_of : Kinds → List ℕ → List ℕ → ChoiceAnswer
choice_of k f e = choice_if f e (judged k f) (judged k e)

-- the part handed back: "the first StructLen bytes of the lent one", or "an empty part"
abbrev pub part : List ℕ → List ℕ → ChoiceAnswer → List ℕ
part f e (Ok (Firmware n)) = take n f
part f e (Ok (Eeprom n)) = take n e
part f e (Err r) = []

unfoldable pub chosen_of : Kinds → List ℕ → List ℕ → List ℕ
chosen_of k f e = part f e (choice_of k f e)

-- the paper's numbers and values: which image (0 is firmware, 1 is EEPROM) and its length; or the refusal
pub record Chosen : Type 0 where
  pub which : ℕ
  pub length : ℕ

abbrev pub choice_said : ChoiceAnswer → Said Chosen
choice_said (Ok (Firmware n)) = says (record { which = 0; length = n })
choice_said (Ok (Eeprom n)) = says (record { which = 1; length = n })
choice_said (Err r) = refused r.number r.place
