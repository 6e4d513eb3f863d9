-- What the instances of demand 3 share: lists that lack one kind, what a lent list holds before a call, and a test of "not known exactly when its list lacks that
-- kind and version". Assumes nothing.
use Rattle.std.specs.Prelude.{ℕ, Bool, true, cond, not, List}
use Rattle.kinds.specs.Kinds.{picked, same}
use Rattle.kinds.specs.declared.Kind.{Kind}
use Rattle.kinds.specs.declared.Kinds.{Kinds}
use Rattle.promises.specs.Demand3.{is_known}
use Rattle.promises.specs.SameOutside.{on_list}
use Rattle.reader.specs.Values.{ItemValues}
use Rattle.reader.specs.declared.Entry.{Entry}
use Rattle.reader.specs.declared.Format.{Format}
use Rattle.verdict.specs.Said.{Said, says, refused}

-- every kind but one
abbrev pub without : Kind → Kinds
without kind = picked (λ other. not (same other kind))

-- an entry that no call fills
abbrev pub blank : Entry
blank = record { kind = 9; place = 9; length = 9; known = true }

-- an item is known exactly where the list has its kind and version
abbrev pub marked : Format → Kinds → List ℕ → Said ItemValues → Bool
marked f k s (says x) = cond (is_known x.fields) (on_list f k s x.place) (not (on_list f k s x.place))
marked f k s (refused n p) = true
