-- What one reader sees in one accepted image, whatever its format: the places of the items, and at each place the item and its entry. The four calls of every
-- format are made of it, so that what is claimed of them follows from what holds at each place. Assumes nothing.
use Rattle.std.specs.Prelude.{Some, None}
use Prim.Native.Nat.{ℕ, zero, suc, ◌+◌, ◌-◌, ◌<◌, ◌≤◌}
use mathlib.Core.Bool.{Bool, true, false, cond}
use mathlib.Core.List.{List, [], ◌∷◌, ◌++◌, map}
use mathlib.Core.Path.{◌≡◌, refl, sym, ap, ap₂, ◌∙◌}
use native.Mathlib.Omega.{arith}
use borrow.Author.Tests.{le-leb, lt-leb}
use lib.Dec.{leb}
use lib.ListN.{length, drop, get_or, length-map}
use lib.Seq.{take-append_seam, drop-append_seam, get_or-append-add, get_or-drop}
use Rattle.chain.specs.All.{All}
use Rattle.chain.specs.Nth.{nth}
use Rattle.chain.specs.Found.{Found}
use Rattle.chain.proofs.laws.All.{map-agree}
use Rattle.chain.proofs.laws.Nth.{nth-below, nth-past, nth-all}
use Rattle.promises.specs.Demand3.{as_step}
use Rattle.promises.specs.Hidden.{hide_item, hide_step, hide_list, hide_said}
use Rattle.reader.specs.Values as reader
use Rattle.reader.specs.Values.{ItemValues, StepValues}
use Rattle.reader.specs.declared.Entry.{Entry}
use Rattle.kinds.specs.declared.Kinds.{Kinds}
use Rattle.verdict.specs.Said.{Said, says, refused}

pub record View : Type 0 where
  pub places : List ℕ
  pub item : ℕ → ItemValues
  pub entry : ℕ → Entry

-- item by number, and a step, by the place of the number
abbrev pub item_from : View → Found → Said ItemValues
item_from v (Some p) = says (v.item p)
item_from v None = refused 42 0

abbrev pub step_from : View → Found → Said StepValues
step_from v (Some p) = says (reader.item (v.item p))
step_from v None = says reader.none_left

-- n entries before the rest of the list l, where there is room
abbrev pub fill_if : Bool → ℕ → List Entry → List Entry → Said ℕ × List Entry
fill_if b n es l = cond b (says n, es ++ drop n l) (refused 43 0, l)

abbrev pub fill_from : List Entry → List Entry → Said ℕ × List Entry
fill_from es l = fill_if (leb (length es) (length l)) (length es) es l

abbrev pub list_from : View → List Entry → Said ℕ × List Entry
list_from v l = fill_from (map v.entry v.places) l

-- what holds of the place found at a number
pub at-number : (l : List ℕ) (i : ℕ) (P : Found → Type 0) → ((p : ℕ) → nth l i ≡ Some p → P (Some p)) → P None → P (nth l i)
at-number l i P some none = go (nth l i) refl
  where
    go : (f : Found) → nth l i ≡ f → P f
    go (Some p) e = some p e
    go None e = none

-- ---- two readers: at each place the one shows what the other shows, hidden
fill-hides : (g : Entry → Entry) (es fs l : List Entry) → es ≡ map g fs → fill_from es l ≡ hide_list g (fill_from fs l).0 (fill_from fs l).1
fill-hides g es fs l e =
    ap (λ (x : List Entry). fill_from x l) e ∙ ap (λ (n : ℕ). fill_if (leb n (length l)) n (map g fs) l) (length-map fs g)
    ∙ go (leb (length fs) (length l))
  where
    go : (b : Bool) → fill_if b (length fs) (map g fs) l ≡ hide_list g (fill_if b (length fs) fs l).0 (fill_if b (length fs) fs l).1
    go true =
        ap (λ (x : List Entry). (says (length fs), x))
        (ap₂ (λ (x y : List Entry). map g x ++ y) (sym (take-append_seam fs (drop (length fs) l))) (sym (drop-append_seam fs (drop (length fs) l))))
    go false = refl

map-hides : (g : Entry → Entry) (f h : ℕ → Entry) → ((p : ℕ) → f p ≡ g (h p)) → (l : List ℕ) → map f l ≡ map g (map h l)
map-hides g f h e [] = refl
map-hides g f h e (x ∷ xs) = ap₂ (λ (y : Entry) (ys : List Entry). y ∷ ys) (e x) (map-hides g f h e xs)

module _
    (k : Kinds) (g : Entry → Entry) (v w : View) (places : v.places ≡ w.places)
    (items : (p : ℕ) → v.item p ≡ hide_item k (w.item p)) (entries : (p : ℕ) → v.entry p ≡ g (w.entry p)) where
  pub item-hides : (i : ℕ) → item_from v (nth v.places i) ≡ hide_said (hide_item k) (item_from w (nth w.places i))
  item-hides i =
      at-number v.places i (λ a. item_from v a ≡ hide_said (hide_item k) (item_from w a)) (λ p e. ap says (items p)) refl
      ∙ ap (λ (l : List ℕ). hide_said (hide_item k) (item_from w (nth l i))) places

  pub step-hides : (i : ℕ) → step_from v (nth v.places i) ≡ hide_said (hide_step k) (step_from w (nth w.places i))
  step-hides i =
      at-number v.places i (λ a. step_from v a ≡ hide_said (hide_step k) (step_from w a)) (λ p e. ap (λ (x : ItemValues). says (reader.item x)) (items p)) refl
      ∙ ap (λ (l : List ℕ). hide_said (hide_step k) (step_from w (nth l i))) places

  pub list-hides : (l : List Entry) → list_from v l ≡ hide_list g (list_from w l).0 (list_from w l).1
  list-hides l =
      fill-hides g (map v.entry v.places) (map w.entry w.places) l
      (map-hides g v.entry w.entry entries v.places ∙ ap (λ (x : List ℕ). map g (map w.entry x)) places)

-- ---- two images: at each place the same is shown
module _
    (v w : View) (places : v.places ≡ w.places)
    (items : All (λ p. v.item p ≡ w.item p) v.places) (entries : All (λ p. v.entry p ≡ w.entry p) v.places) where
  pub item-same : (i : ℕ) → item_from v (nth v.places i) ≡ item_from w (nth w.places i)
  item-same i =
      at-number v.places i (λ a. item_from v a ≡ item_from w a) (λ p e. ap says (nth-all (λ p. v.item p ≡ w.item p) v.places i p items e)) refl
      ∙ ap (λ (l : List ℕ). item_from w (nth l i)) places

  pub step-same : (i : ℕ) → step_from v (nth v.places i) ≡ step_from w (nth w.places i)
  step-same i =
      at-number v.places i (λ a. step_from v a ≡ step_from w a)
      (λ p e. ap (λ (x : ItemValues). says (reader.item x)) (nth-all (λ p. v.item p ≡ w.item p) v.places i p items e)) refl
      ∙ ap (λ (l : List ℕ). step_from w (nth l i)) places

  pub list-same : (l : List Entry) → list_from v l ≡ list_from w l
  list-same l =
      ap (λ (es : List Entry). fill_from es l) (map-agree v.entry w.entry v.places entries ∙ ap (map w.entry) places)

-- ---- one reader: the walk and the list show the items that are shown by number
-- an element of a mapped list before anything else
entry-at : (f : ℕ → Entry) (l : List ℕ) (r : List Entry) (i p : ℕ) → nth l i ≡ Some p → (d : Entry) → get_or (map f l ++ r) i d ≡ f p
unfolding nth
entry-at f [] r i p e d = let z : ◌≡◌ {A = ℕ} 0 1 = cc in absurd (omega arith)
entry-at f (x ∷ xs) r zero p e d = let z : x ≡ p = cc in ap f z
entry-at f (x ∷ xs) r (suc i) p e d = entry-at f xs r i p e d

module _ (v : View) where
  pub item-below : (i : ℕ) → i < length v.places → item_from v (nth v.places i) ≡ says (v.item (get_or v.places i 0))
  item-below i h = ap (item_from v) (nth-below v.places i h)

  pub item-beyond : (i : ℕ) → length v.places ≤ i → item_from v (nth v.places i) ≡ refused 42 0
  item-beyond i h = ap (item_from v) (nth-past v.places i h)

  pub walk-shows : (i : ℕ) → i < length v.places → step_from v (nth v.places i) ≡ as_step (item_from v (nth v.places i))
  walk-shows i h =
      let e : nth v.places i ≡ Some (get_or v.places i 0) = nth-below v.places i h in
      ap (step_from v) e ∙ sym (ap (λ (f : Found). as_step (item_from v f)) e)

  pub walk-ends : (i : ℕ) → length v.places ≤ i → step_from v (nth v.places i) ≡ says reader.none_left
  walk-ends i h = ap (step_from v) (nth-past v.places i h)

  abbrev pub es : List Entry
  es = map v.entry v.places

  -- a list that is long enough is filled, and one that is too short is not changed
  pub list-fills : (l : List Entry) → length v.places ≤ length l → list_from v l ≡ (says (length v.places), es ++ drop (length v.places) l)
  list-fills l h =
      ap (λ (n : ℕ). fill_if (leb n (length l)) n es l) (length-map v.places v.entry)
      ∙ ap (λ (b : Bool). fill_if b (length v.places) es l) (le-leb (length v.places) (length l) h)

  pub list-short : (l : List Entry) → length l < length v.places → list_from v l ≡ (refused 43 0, l)
  list-short l h =
      ap (λ (n : ℕ). fill_if (leb n (length l)) n es l) (length-map v.places v.entry)
      ∙ ap (λ (b : Bool). fill_if b (length v.places) es l) (lt-leb (length v.places) (length l) h)

  -- entry i is that of item i
  pub entry-shows : (made : ItemValues → Entry) → ((p : ℕ) → v.entry p ≡ made (v.item p)) → (r : List Entry) (i : ℕ) (x : ItemValues)
      → item_from v (nth v.places i) ≡ says x → (d : Entry) → get_or (es ++ r) i d ≡ made x
  entry-shows made same r i x e d = go (nth v.places i) refl e
    where
      go : (f : Found) → nth v.places i ≡ f → item_from v f ≡ says x → get_or (es ++ r) i d ≡ made x
      go (Some p) at c = let z : v.item p ≡ x = cc in entry-at v.entry v.places r i p at d ∙ same p ∙ ap made z
      go None at c = let y : ◌≡◌ {A = ℕ} 0 1 = cc in absurd (omega arith)

  -- and what lies past the entries is as it was lent
  pub rest-stays : (n : ℕ) → length v.places ≡ n → (l : List Entry) (i : ℕ) → n ≤ i → (d : Entry) → get_or (es ++ drop n l) i d ≡ get_or l i d
  rest-stays n count l i h d =
      let size : length es ≡ n = length-map v.places v.entry ∙ count in
      let split : i ≡ length es + (i - n) = omega (arith, size) in
      let back : n + (i - n) ≡ i = omega arith in
      ap (λ (m : ℕ). get_or (es ++ drop n l) m d) split ∙ get_or-append-add es (drop n l) (i - n) d ∙ get_or-drop n l (i - n) d ∙ ap (λ (m : ℕ). get_or l m d) back
