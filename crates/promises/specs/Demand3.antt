-- Demand 3: one claim about all calls, over any format. `Demand3` is the claim; it is proved in proofs/Demand3. Assumes nothing.
use Rattle.std.specs.Prelude.{ℕ, suc, ◌<◌, ◌≤◌, Bool, true, false, List, ◌⊎◌, ◌↔◌, ◌≡◌, length, get_or}
use Rattle.std.specs.Borrow.{Bor}
use Rattle.kinds.specs.Kinds.{Contains}
use Rattle.kinds.specs.declared.Kind.{Kind}
use Rattle.kinds.specs.declared.Kind.TheVariants.{Tag, Signature}
use Rattle.kinds.specs.declared.Kinds.{Kinds}
use Rattle.promises.specs.Answers.{Answers, answers, EachString}
use Rattle.promises.specs.Hidden.{has_pool, has_serial, hidden}
use Rattle.promises.specs.SameOutside.{Lacks, SameOutside}
use Rattle.reader.specs.Values as reader
use Rattle.reader.specs.Values.{FieldValues, ItemValues, StepValues, step_said}
use Rattle.reader.specs.Walk.{walk_after}
use Rattle.reader.specs.declared.Entry.{Entry}
use Rattle.reader.specs.declared.Format.{Format}
use Rattle.reader.specs.declared.Format.TheVariants.{Tiny, Board}
use Rattle.tiny.specs.Values as tiny
use Rattle.verdict.specs.Said.{Said, says, refused}

-- the judge says a count of items
abbrev pub Accepted : {f : Format} → Answers f → Type 0
Accepted a = (n : ℕ) × (a.judge ≡ says n)

-- ---- two readers
-- "In demand 3 no name is 44"
abbrev pub NoName : Kinds → List ℕ → List ℕ → Type 0
NoName k s buffer = ((answers Tiny k s).further.name buffer).0 ≡ refused 44 0

pub record Strings (longer shorter : Kinds) (s : List ℕ) : Type 0 where
  -- "and a string as undecodable exactly when its list lacks the pool": a string inside an item, and one looked up by any number
  pub undecoded : (i : ℕ) (x : ItemValues) → (answers Tiny shorter s).item i ≡ says x
      → EachString (λ j r. (r ≡ tiny.undecodable) ↔ (has_pool shorter ≡ false)) x.fields
  pub unlooked : (n : ℕ) → ((answers Tiny shorter s).further.string n ≡ says tiny.undecodable) ↔ (has_pool shorter ≡ false)
  -- "It finds no name exactly when the longer finds none, or when its own list lacks the serial's kind or the pool."
  pub nameless : (b : List ℕ) → NoName shorter s b ↔ (NoName longer s b ⊎ ((has_serial shorter ≡ false) ⊎ (has_pool shorter ≡ false)))

-- board images show no strings
abbrev pub StringsOf : Format → Kinds → Kinds → List ℕ → Type 0
StringsOf Tiny longer shorter s = Strings longer shorter s
StringsOf Board longer shorter s = Unit {0}

pub record TwoReaders (f : Format) (longer shorter : Kinds) (s : List ℕ) : Type 0 where
  -- "It is accepted with the shorter."
  pub accepted : Accepted (answers f shorter s)
  -- "Both show the same items at the same places, whether asked by number, for the list or along the walk. [..] All else that it answers is as the longer
  -- answers, refusals included."
  pub alike : answers f shorter s ≡ hidden f shorter (answers f longer s)
  -- "The shorter shows an item as not known exactly when its list lacks that kind and version"
  pub unknown : (i : ℕ) (x : ItemValues) → (answers f shorter s).item i ≡ says x → (x.fields ≡ reader.not_known) ↔ Lacks f shorter s x.place
  pub strings : StringsOf f longer shorter s

-- ---- one reader: number, list and walk show the same items
-- a step that shows an item, as asked by number
abbrev pub as_step : Said ItemValues → Said StepValues
as_step (says x) = says (reader.item x)
as_step (refused n p) = refused n p

-- an item as an entry of the list
abbrev pub is_known : FieldValues → Bool
is_known (reader.tiny-fields x) = true
is_known (reader.board-fields x) = true
is_known reader.not_known = false

abbrev pub kind_number : Kind → ℕ
kind_number (Tag tag) = tag
kind_number (Signature g) = g

abbrev pub as_entry : ItemValues → Entry
as_entry x = record { kind = kind_number x.kind; place = x.place; length = x.length; known = is_known x.fields }

pub record SameItems {f : Format} (a : Answers f) (count : ℕ) : Type 0 where
  -- there is an item for every number below the count, and for no other
  pub below : (i : ℕ) → i < count → (x : ItemValues) × (a.item i ≡ says x)
  pub beyond : (i : ℕ) → count ≤ i → a.item i ≡ refused 42 0
  -- "From a fresh walk, each step given the walk that the last returned, step i (from 0) shows item i as asked by number for every i below the count, and the
  -- step at the count says that none is left." (And so does each later one.)
  pub walk : (i : ℕ) → i < count → a.walk i ≡ as_step (a.item i)
  pub ends : (i : ℕ) → count ≤ i → a.walk i ≡ says reader.none_left
  -- "a lent list of entries, one for each item, filled from the front, the rest unchanged": entry i is item i
  pub filled : (l : List Entry) → count ≤ length l → (a.list l).0 ≡ says count
  pub entry : (l : List Entry) → count ≤ length l → (i : ℕ) (x : ItemValues) → a.item i ≡ says x → (d : Entry) → get_or (a.list l).1 i d ≡ as_entry x
  pub rest : (l : List Entry) → count ≤ length l → (i : ℕ) → count ≤ i → (d : Entry) → get_or (a.list l).1 i d ≡ get_or l i d
  -- a list that is too short is not changed
  pub short : (l : List Entry) → length l < count → a.list l ≡ (refused 43 0, l)

-- ---- the claim
pub record Demand3 (f : Format) : Type 0 where
  -- "Take any two readers, where the longer list of known kinds contains the shorter, and any image accepted with the longer."
  pub readers : (longer shorter : Kinds) → Contains longer shorter → (s : List ℕ) → Accepted (answers f longer s) → TwoReaders f longer shorter s
  -- "Then take any one reader, and any two accepted images of one length that differ only inside items that it does not know and in their check fields.
  -- Whatever it is asked, it answers the same for both."
  pub images : (k : Kinds) (s t : List ℕ) → Accepted (answers f k s) → Accepted (answers f k t) → SameOutside f k s t → answers f k s ≡ answers f k t
  -- "From a fresh walk, each step given the walk that the last returned": what the walk itself carries after step i is the walk's answer here
  pub walks : (k : Kinds) (s : Bor (List ℕ)) (i : ℕ) → step_said s.now (walk_after f s k (suc i)).shows ≡ (answers f k s.now).walk i
  -- within one reader: "the same items .. whether asked by number, for the list or along the walk"
  pub calls : (k : Kinds) (s : List ℕ) (count : ℕ) → (answers f k s).judge ≡ says count → SameItems (answers f k s) count
