-- What every format has: a judge, items that lie end to end, and of each item its kind, its data length and whether a reader knows it. Each is read off the
-- definitions of the format. Assumes nothing.
use Rattle.std.specs.Prelude.{ℕ, ◌+◌, ◌-◌, Bool, List}
use Rattle.board_layout.specs.Layout as board
use Rattle.board_layout.specs.Places.{head_size}
use Rattle.board_layout.specs.Shapes.{knows}
use Rattle.board_rules.specs.Judged as board-rules
use Rattle.chain.specs.Chain.{chain}
use Rattle.kinds.specs.declared.Kind.{Kind}
use Rattle.kinds.specs.declared.Kind.TheVariants.{Tag, Signature}
use Rattle.kinds.specs.declared.Kinds.{Kinds}
use Rattle.octets.specs.Bytes.{byte}
use Rattle.reader.specs.declared.Format.{Format}
use Rattle.reader.specs.declared.Format.TheVariants.{Tiny, Board}
use Rattle.tiny_layout.specs.Layout as tiny
use Rattle.tiny_layout.specs.Pool.{is_known}
use Rattle.tiny_rules.specs.Judged as tiny-rules
use Rattle.verdict.specs.Answers.{Judged}

-- accepted with the count of items, or refused
abbrev pub judged : Format → Kinds → List ℕ → Judged
judged Tiny k s = tiny-rules.judged k s
judged Board k s = board-rules.judged k s

-- where the first item starts
abbrev pub start : Format → ℕ
start Tiny = 3
start Board = 0

-- where the items end: at the check byte; at StructLen
abbrev pub end : Format → List ℕ → ℕ
end Tiny s = tiny.check_place s
end Board s = board.struct_len s

-- where the item after the one at p starts
abbrev pub next : Format → List ℕ → ℕ → ℕ
next Tiny s = tiny.next s
next Board s = board.next s

-- the places of the items, in image order
abbrev pub places : Format → List ℕ → List ℕ
places f s = chain (next f s) (end f s) (start f)

-- the kind of the item at p: "the tag, or the eight signature bytes", as the number they spell
abbrev pub kind_at : Format → List ℕ → ℕ → ℕ
kind_at Tiny s p = byte s p
kind_at Board s p = board.signature_at s p

abbrev pub as_kind : Format → ℕ → Kind
as_kind Tiny n = Tag n
as_kind Board n = Signature n

-- where its data begin: "past the tag and length byte, or past the generic head"
abbrev pub data_at : Format → List ℕ → ℕ → ℕ
data_at Tiny s p = tiny.data_at s p
data_at Board s p = p + head_size

-- where its data end; a structure's end is not rounded up
abbrev pub data_end : Format → List ℕ → ℕ → ℕ
data_end Tiny s p = tiny.next s p
data_end Board s p = board.end_at s p

-- its data length
abbrev pub length_at : Format → List ℕ → ℕ → ℕ
length_at Tiny s p = tiny.data_length s p
length_at Board s p = board.length_at s p - head_size

-- whether a reader knows it: its tag is on the list; its table is known, by signature and VerMajor
abbrev pub known : Format → Kinds → List ℕ → ℕ → Bool
known Tiny k s p = is_known k s p
known Board k s p = knows k (board.shape_at s p)

-- "An image's length is L or StructLen"
abbrev pub image_length : Format → List ℕ → ℕ
image_length Tiny s = tiny.total s
image_length Board s = board.struct_len s
