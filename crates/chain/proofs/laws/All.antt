-- What holds of each element of a list: got from what holds of everything or of something stronger, and used at a number. Assumes nothing.
use Rattle.std.specs.Prelude.{ℕ, zero, suc, ◌<◌, List, [], ◌∷◌, ◌++◌, map, ◌≡◌, refl, length, get_or}
use Rattle.std.proofs.Common.{ap₂, arith}
use Rattle.chain.specs.All.{All}

module _ {A : Type 0} where
  pub all-of : (P : A → Type 0) → ((x : A) → P x) → (l : List A) → All P l
  all-of P f [] = tt
  all-of P f (x ∷ xs) = (f x, all-of P f xs)

  pub all-map : (P Q : A → Type 0) → ((x : A) → P x → Q x) → (l : List A) → All P l → All Q l
  all-map P Q f [] a = tt
  all-map P Q f (x ∷ xs) a = (f x a.0, all-map P Q f xs a.1)

  -- two things that hold of each element, and what follows from both
  pub all-both : (P Q R : A → Type 0) → ((x : A) → P x → Q x → R x) → (l : List A) → All P l → All Q l → All R l
  all-both P Q R f [] a b = tt
  all-both P Q R f (x ∷ xs) a b = (f x a.0 b.0, all-both P Q R f xs a.1 b.1)

  -- each element of two lists that are joined
  pub all-append : (P : A → Type 0) (l m : List A) → All P l → All P m → All P (l ++ m)
  all-append P [] m a b = b
  all-append P (x ∷ xs) m a b = (a.0, all-append P xs m a.1 b)

  -- each element of a mapped list
  pub all-mapped : {B : Type 0} (P : B → Type 0) (f : A → B) (l : List A) → All (λ x. P (f x)) l → All P (map f l)
  all-mapped P f [] a = tt
  all-mapped P f (x ∷ xs) a = (a.0, all-mapped P f xs a.1)

  pub all-split : (P : A → Type 0) (xs : List A) (y : A) (ys : List A) → All P (xs ++ (y ∷ ys)) → P y
  all-split P [] y ys a = a.0
  all-split P (x ∷ xs) y ys a = all-split P xs y ys a.1

  pub all-get_or : (P : A → Type 0) (l : List A) (n : ℕ) (d : A) → All P l → n < length l → P (get_or l n d)
  all-get_or P [] n d a h = absurd (omega arith)
  all-get_or P (x ∷ xs) zero d a h = a.0
  all-get_or P (x ∷ xs) (suc n) d a h = all-get_or P xs n d a.1 (omega arith)

  -- two functions that agree along the list
  pub map-agree : {B : Type 0} (f g : A → B) (l : List A) → All (λ x. f x ≡ g x) l → map f l ≡ map g l
  map-agree f g [] a = refl
  map-agree {B} f g (x ∷ xs) a = ap₂ (λ (y : B) (ys : List B). y ∷ ys) a.0 (map-agree f g xs a.1)

  -- a function that undoes the other along the list
  pub map-undone : {B : Type 0} (f : A → B) (g : B → A) (l : List A) → All (λ x. g (f x) ≡ x) l → map g (map f l) ≡ l
  map-undone f g [] a = refl
  map-undone f g (x ∷ xs) a = ap₂ (λ (y : A) (ys : List A). y ∷ ys) a.0 (map-undone f g xs a.1)

  -- the element at a number that the list has
  pub map-get_or : {B : Type 0} (f : A → B) (l : List A) (n : ℕ) (a : A) (b : B) → n < length l → get_or (map f l) n b ≡ f (get_or l n a)
  map-get_or f [] n a b h = absurd (omega arith)
  map-get_or f (x ∷ xs) zero a b h = refl
  map-get_or f (x ∷ xs) (suc n) a b h = map-get_or f xs n a b (omega arith)
