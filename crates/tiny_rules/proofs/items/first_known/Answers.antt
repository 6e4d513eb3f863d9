-- `items::first_known` meets its contract: the search asks for the tag alone, where it is on the list; a tag that is not on it has no item. Assumes nothing.
use Rattle.std.proofs.Common.{◌≡◌, refl, ℕ, Bool, true, false, List, sym, ◌∙◌, ap, eqb, ◌&&◌, rules, None}
use Rattle.chain.specs.Chain.{chain}
use Rattle.chain.specs.First.{first, when}
use Rattle.chain.proofs.laws.All.{all-of}
use Rattle.chain.proofs.laws.Along.{goes-on}
use Rattle.chain.proofs.laws.First.{first-none}
use Rattle.kinds.specs.Kinds.{listed}
use Rattle.kinds.specs.declared.Kind.TheVariants.{Tag}
use Rattle.kinds.specs.declared.Kinds.{Kinds}
use Rattle.octets.specs.Bytes.{byte}
use Rattle.tiny_layout.specs.Layout.{check_place, next}
use Rattle.tiny_layout.specs.Pool.{known_of}
use Rattle.tiny_layout.proofs.laws.Layout.{next-grows}
use Rattle.tiny_rules.proofs.items.first_known.Goals as goal

-- the search, by whether the tag is on the list
by-mark : (k : Kinds) (s : List ℕ) (tag : ℕ) (l : List ℕ) (b : Bool) → b ≡ listed k (Tag tag) → first (λ p. when (b && eqb (byte s p) tag) p) l ≡ first (known_of k s tag) l
by-mark k s tag l b e = ap (λ (m : Bool). first (λ p. when (m && eqb (byte s p) tag) p) l) e

-- a rule that is never broken finds nothing
none : (l : List ℕ) → first (λ p. None) l ≡ None
none l = first-none (λ p. None) l (all-of (λ p. None ≡ None) (λ p. refl) l)

pub returns-then-not-has_tag : goal.returns-then-not-has_tag
returns-then-not-has_tag c = let a = c.args in let l = chain (next a.image.now) (check_place a.image.now) a.from in
    sym (none l) ∙ by-mark a.kinds a.image.now a.tag l false c.if-not-has_tag.ensures

pub first_along-requires-clause-grows : goal.first_along-requires-clause-grows
first_along-requires-clause-grows c = goes-on (next c.args.image.now) (next-grows c.args.image.now) (λ p q h e. search rules)

pub returns : goal.returns
returns c = let a = c.args in let s = a.image.now in let asked = λ (p : ℕ). when (eqb (byte s p) a.tag) p in
    c.first_along.ensures asked (next s) (λ p f h e. search rules) (next-grows s) (λ p q h e. search rules)
    ∙ ap (λ (end : ℕ). first asked (chain (next s) end a.from)) c.check_place.ensures
    ∙ by-mark a.kinds s a.tag (chain (next s) (check_place s) a.from) true c.if-not-has_tag.ensures
