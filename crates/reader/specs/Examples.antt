-- Lists and steps by computation: lists that are long enough, too short, and of a refused image; steps from positions that no walk comes to. Assumes nothing.
use Rattle.std.specs.Prelude.{ℕ, true, false, [], ◌∷◌, ◌≡◌, refl, Ok, Err}
use Rattle.chain.specs.Chain.{visit, chain}
use Rattle.chain.specs.Fill.{tab}
use Rattle.chain.specs.First.{first}
use Rattle.chain.specs.Onward.{onward}
use Rattle.crc.specs.Crc8.{crc8, reduce, bring, bits_of, bits_of_all}
use Rattle.kinds.specs.Kinds.{listed, all, full, bare}
use Rattle.reader.specs.Answers.{refused_with, list_of}
use Rattle.reader.specs.Entries.{entry_at}
use Rattle.reader.specs.Walk.{moved, shown, after}
use Rattle.reader.specs.declared.Entry.{Entry}
use Rattle.reader.specs.declared.Format.TheVariants.{Tiny}
use Rattle.reader.specs.declared.Item.{Item}
use Rattle.reader.specs.declared.Position.{Position}
use Rattle.reader.specs.declared.StepAnswer.{StepAnswer}
use Rattle.tiny.specs.Cases.{case5}
use Rattle.tiny.specs.Items.{item_at}
use Rattle.tiny.specs.declared.Item as tiny
use Rattle.tiny_layout.specs.Layout.{head_size, data_length, next}
use Rattle.tiny_layout.specs.Pool.{pool}
use Rattle.tiny_layout.specs.Strings.{split, texts}
use Rattle.tiny_layout.specs.Tags.{shape_of}
use Rattle.tiny_rules.specs.Judged.{judged}
use Rattle.tiny_rules.specs.Rules.{rule1, rule2, rule3, rule4, rule5, rule6, rule7, rule8, rule9, rule10, rule11, bad_index}
use Rattle.verdict.specs.Answers.{Judged}
use Rattle.verdict.specs.declared.Refusal.{Refusal}

-- what an entry holds before the call, and the entry of case 5's only item, flags at 3
abbrev lent : Entry
lent = record { kind = 9; place = 9; length = 9; known = true }

abbrev flags : Entry
flags = record { kind = 0x11; place = 3; length = 1; known = true }

-- the refusal of an empty image
abbrev nothing_lent : Refusal
nothing_lent = record { number = 1; place = 0 }

-- a position that carries this verdict and stands at this place, where the items end at `end`; there is no pool
abbrev at : Judged → ℕ → ℕ → Position
at verdict end place = record { verdict = verdict; pool = record { from = 0; to = 0 }; end = end; at = place }

-- a step over case 5: how far it then is, and what it shows
abbrev step : Position → Position × StepAnswer
step x = (after Tiny case5 x, shown Tiny full case5 x)

record Computed : Type 0 where
  -- one entry is filled, and the rest stays
  filled : list_of Tiny full case5 (lent ∷ lent ∷ []) ≡ (Ok 1, flags ∷ lent ∷ [])
  -- the bare list does not know it
  unknown : list_of Tiny bare case5 (lent ∷ []) ≡ (Ok 1, record { kind = 0x11; place = 3; length = 1; known = false } ∷ [])
  -- 43, and an image's own refusal, which comes first: nothing changes
  short : list_of Tiny full case5 [] ≡ (Err (refused_with 43), [])
  refused : list_of Tiny full [] (lent ∷ []) ≡ (Err nothing_lent, lent ∷ [])
  -- a position with any count goes by its place: an item there, and then the end of the items
  shows : step (at (Ok 7) 5 3)
      ≡ (at (Ok 7) 5 5, StepAnswer.Shown (Item.Tiny (record { tag = 0x11; place = 3; length = 1; item = tiny.Item.Flags 0x0F })))
  -- at the end and past it none is left, and the position stays
  ended : step (at (Ok 7) 5 5) ≡ (at (Ok 7) 5 5, StepAnswer.NoneLeft)
  past : step (at (Ok 7) 5 200) ≡ (at (Ok 7) 5 200, StepAnswer.NoneLeft)
  -- the end is the one that the position carries
  carried : step (at (Ok 7) 3 3) ≡ (at (Ok 7) 3 3, StepAnswer.NoneLeft)
  -- a position with a refusal shows it, whatever the image is
  stays : step (at (Err nothing_lent) 5 3) ≡ (at (Err nothing_lent) 5 3, StepAnswer.Refused nothing_lent)

computed : Computed
unfolding list_of entry_at moved shown onward judged rule1 rule2 rule3 rule4 rule5 rule6 rule7 rule8 rule9 rule10 rule11 bad_index item_at first visit chain next head_size data_length pool split texts shape_of tab crc8 reduce bring bits_of bits_of_all listed all
computed =
    record {
      filled = refl;
      unknown = refl;
      short = refl;
      refused = refl;
      shows = refl;
      ended = refl;
      past = refl;
      carried = refl;
      stays = refl;
    }
