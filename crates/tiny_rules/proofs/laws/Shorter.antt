-- What a reader accepts, a reader with a shorter list accepts, with the same count. A rule that depends on the list goes by the marks of kinds: where a mark
-- is not set it is not broken, and a mark that is set on the shorter list is set on the longer. Assumes nothing.
use Rattle.std.specs.Prelude.{ℕ, Bool, ◌&&◌, List, ◌≡◌, length, None, Ok}
use Rattle.std.proofs.Math.Bool.{true, false, cond}
use Rattle.std.proofs.Math.Path.{refl}
use Rattle.std.proofs.Common.{ap}
use Rattle.std.proofs.Math.Dec.{eqb, ltb}
use Rattle.chain.specs.Chain.{visit, chain, range}
use Rattle.chain.specs.First.{first, when}
use Rattle.chain.specs.Found.{Found}
use Rattle.chain.proofs.laws.All.{all-of}
use Rattle.chain.proofs.laws.First.{first-none, first-weaker}
use Rattle.kinds.specs.Kinds.{listed, Contains}
use Rattle.kinds.specs.declared.Kind.TheVariants.{Tag}
use Rattle.kinds.specs.declared.Kinds.{Kinds}
use Rattle.octets.specs.Bytes.{byte}
use Rattle.tiny_layout.specs.Layout.{check_place, data_at, next, items}
use Rattle.tiny_layout.specs.Pool.{pool_at, pool}
use Rattle.tiny_layout.specs.Strings.{texts}
use Rattle.tiny_layout.specs.Tags.{shape_of}
use Rattle.tiny_layout.specs.declared.Pool.{Pool}
use Rattle.tiny_layout.specs.declared.Shape.{Shape}
use Rattle.tiny_layout.proofs.laws.Pool.{pool_by}
use Rattle.tiny_rules.specs.Judged.{rules, judged}
use Rattle.tiny_rules.specs.Rules.{rule8, unfit, rule9, on_known, bad_index, rule10, bad_field, rule11}
use Rattle.chain.proofs.laws.Checks.{mark-weaker}
use Rattle.verdict.proofs.laws.Accepted.{weaker-accepts}

-- a rule that no item breaks finds nothing
never : (l : List ℕ) → first (λ p. None) l ≡ None
never l = first-none (λ p. None) l (all-of (λ p. ◌≡◌ {A = Found} None None) (λ p. refl) l)

-- the string count by the mark of 01
abbrev count_by : List ℕ → Bool → ℕ
count_by s b = length (texts s (pool_by s b))

-- rule 9 in a pool
abbrev unfit_in : List ℕ → Pool → Found
unfit_in s pool = first (unfit s pool.to) (range pool.from pool.to)

same : {A : Type 0} → A → A
same a = a

module _ (longer shorter : Kinds) (c : Contains longer shorter) (s : List ℕ) where
  -- a rule on the known items: the shorter list knows fewer
  known-weaker : (rule : Shape → ℕ → Found) → first (on_known longer s rule) (items s) ≡ None → first (on_known shorter s rule) (items s) ≡ None
  known-weaker rule =
      first-weaker (on_known longer s rule) (on_known shorter s rule) (items s)
      (all-of (λ p. on_known longer s rule p ≡ None → on_known shorter s rule p ≡ None)
      (λ p.
      mark-weaker (λ b. cond b (rule (shape_of (byte s p)) (data_at s p)) None) refl (listed longer (Tag (byte s p))) (listed shorter (Tag (byte s p)))
      (c.keeps (Tag (byte s p))))
      (items s))

  -- a rule by the mark of 01
  pool-weaker : (rule : Bool → Found) → rule false ≡ None → rule (listed longer (Tag 0x01)) ≡ None → rule (listed shorter (Tag 0x01)) ≡ None
  pool-weaker rule off = mark-weaker rule off (listed longer (Tag 0x01)) (listed shorter (Tag 0x01)) (c.keeps (Tag 0x01))

  rule8-weaker : rule8 longer s ≡ None → rule8 shorter s ≡ None
  unfolding rule8
  rule8-weaker =
      pool-weaker (λ b. first (λ p. when (b && eqb (byte s p) 0x01 && ltb (next s p) (check_place s)) p) (items s)) (never (items s))

  rule9-weaker : rule9 longer s ≡ None → rule9 shorter s ≡ None
  unfolding rule9 pool first chain visit
  rule9-weaker =
      pool-weaker (λ b. unfit_in s (pool_by s b)) (ap (λ (f : Found). unfit_in s (pool_at s f)) (never (items s)))

  rule10-weaker : rule10 longer s ≡ None → rule10 shorter s ≡ None
  unfolding rule10 pool
  rule10-weaker e =
      pool-weaker (λ b. cond b (first (on_known shorter s (bad_index s (count_by s b))) (items s)) None) refl (go (listed longer (Tag 0x01)) e)
    where
      go : (b : Bool) → cond b (first (on_known longer s (bad_index s (count_by s b))) (items s)) None ≡ None → cond b (first (on_known shorter s (bad_index s (count_by s b))) (items s)) None ≡ None
      go true e = known-weaker (bad_index s (count_by s true)) e
      go false e = refl

  rule11-weaker : rule11 longer s ≡ None → rule11 shorter s ≡ None
  unfolding rule11
  rule11-weaker = known-weaker (bad_field s)

-- what the reader with the longer list accepts, the reader with the shorter accepts, with the same count
pub shorter-accepts : (longer shorter : Kinds) → Contains longer shorter → (s : List ℕ) (n : ℕ) → judged longer s ≡ Ok n → judged shorter s ≡ Ok n
unfolding judged
shorter-accepts longer shorter c s n =
    weaker-accepts (rules longer s) (rules shorter s) (Ok (length (items s))) (Ok (length (items s))) n (
      same,
      (
        same,
        (
          same,
          (
            same,
            (
              same,
              (
                same,
                (
                  same,
                  (rule8-weaker longer shorter c s, (rule9-weaker longer shorter c s, (rule10-weaker longer shorter c s, (rule11-weaker longer shorter c s, tt)))),
                ),
              ),
            ),
          ),
        ),
      ),
    )
    same
