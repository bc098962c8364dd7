-- Laws of `Each`, `only`, `any` and `is_empty` over any list, and of lists of numbers. Assumes nothing.
use Prim.Native.Nat.{ℕ, zero, suc, ◌+◌, ◌≤◌, ◌<◌}
use mathlib.Core.Path.{◌≡◌, refl, sym, ap, ◌∙◌, subst}
use mathlib.Core.Bool.{Bool, true, false, ◌&&◌, ◌||◌, true≢false, false≢true}
use mathlib.Core.List.{List, [], ◌∷◌, ◌++◌, map, Memᴰ}
use native.Mathlib.Nat.{le_of_suc-le-suc, not-suc-le-zero, add-zero}
use native.Mathlib.Omega.{arith}
use lib.ListN.{length, get_or}
use lib.Dec.{eqb, eqb-suc-zero}
use Rattle.word.specs.Model.{only, any, is_empty, numbers_from}
use Rattle.word.specs.Internal.Lists.{Each}

-- neither of two tests holds
pub neither : (a b : Bool) → (a || b) ≡ false → (a ≡ false) × (b ≡ false)
neither true b e = absurd (true≢false e)
neither false b e = (refl, e)

-- both tests hold
pub both : (a b : Bool) → (a && b) ≡ true → (a ≡ true) × (b ≡ true)
both true b e = (refl, e)
both false b e = absurd (false≢true e)

module _ {A : Type 0} where
  -- ---- a fact of every member

  pub each_monotone : (P Q : A → Type 0) → ((x : A) → P x → Q x) → (xs : List A) → Each P xs → Each Q xs
  unfolding Each
  each_monotone P Q f [] h = tt
  each_monotone P Q f (x ∷ xs) h = (f x h.0, each_monotone P Q f xs h.1)

  pub each_append : (Q : A → Type 0) (xs ys : List A) → Each Q xs → Each Q ys → Each Q (xs ++ ys)
  unfolding Each
  each_append Q [] ys g h = h
  each_append Q (x ∷ xs) ys g h = (g.0, each_append Q xs ys g.1 h)

  pub each_one : (Q : A → Type 0) (x : A) → Q x → Each Q (x ∷ [])
  unfolding Each
  each_one Q x h = (h, tt)

  pub each_lookup : (Q : A → Type 0) (xs : List A) (i : ℕ) (d : A) → Each Q xs → i < length xs → Q (get_or xs i d)
  unfolding Each
  each_lookup Q [] i d h k = absurd (not-suc-le-zero k)
  each_lookup Q (x ∷ xs) zero d h k = h.0
  each_lookup Q (x ∷ xs) (suc i) d h k = each_lookup Q xs i d h.1 (le_of_suc-le-suc k)

  pub each_member : (Q : A → Type 0) {a : A} {xs : List A} → Memᴰ a xs → Each Q xs → Q a
  unfolding Each
  each_member Q (Memᴰ.head e) h = subst Q (sym e) h.0
  each_member Q (Memᴰ.tail k) h = each_member Q k h.1

  pub each_of_members : (Q : A → Type 0) (xs : List A) → ((a : A) → Memᴰ a xs → Q a) → Each Q xs
  unfolding Each
  each_of_members Q [] h = tt
  each_of_members Q (x ∷ xs) h = (h x (Memᴰ.head refl), each_of_members Q xs (λ a k. h a (Memᴰ.tail k)))

  -- ---- the members that pass a test

  module _ (test : A → Bool) where
    pub only_pass : (x : A) (xs : List A) → test x ≡ true → only test (x ∷ xs) ≡ x ∷ only test xs
    unfolding only
    only_pass x xs e = rw (e, only)

    pub only_fail : (x : A) (xs : List A) → test x ≡ false → only test (x ∷ xs) ≡ only test xs
    unfolding only
    only_fail x xs e = rw (e, only)

    -- what holds of a list and its members that pass, by adding members in front
    pub only_induct : (P : List A → List A → Type 0) → P [] []
        → ((x : A) (xs ys : List A) → test x ≡ true → P xs ys → P (x ∷ xs) (x ∷ ys))
        → ((x : A) (xs ys : List A) → test x ≡ false → P xs ys → P (x ∷ xs) ys)
        → (xs : List A) → P xs (only test xs)
    unfolding only
    only_induct P none pass fail [] = none
    only_induct P none pass fail (x ∷ xs) = go (test x) refl (only_induct P none pass fail xs)
      where
        go : (b : Bool) → test x ≡ b → P xs (only test xs) → P (x ∷ xs) (only test (x ∷ xs))
        go true e h = rw (only_pass x xs e) (pass x xs (only test xs) e h)
        go false e h = rw (only_fail x xs e) (fail x xs (only test xs) e h)

    pub only_append : (xs ys : List A) → only test (xs ++ ys) ≡ only test xs ++ only test ys
    only_append xs ys = only_induct (λ l k. only test (l ++ ys) ≡ k ++ only test ys) refl
        (λ x l k e h. only_pass x (l ++ ys) e ∙ ap (λ (r : List A). x ∷ r) h)
        (λ x l k e h. only_fail x (l ++ ys) e ∙ h) xs

    pub only_length : (xs : List A) → length (only test xs) ≤ length xs
    only_length = only_induct (λ l k. length k ≤ length l) (omega arith) (λ x l k e h. omega arith) (λ x l k e h. omega arith)

    pub each_only : (Q : A → Type 0) (xs : List A) → Each Q xs → Each Q (only test xs)
    unfolding Each
    each_only Q = only_induct (λ l k. Each Q l → Each Q k) (λ h. tt) (λ x l k e g h. (h.0, g h.1)) (λ x l k e g h. g h.1)

    pub only_passes : (xs : List A) → Each (λ x. test x ≡ true) (only test xs)
    unfolding Each
    only_passes = only_induct (λ l k. Each (λ x. test x ≡ true) k) tt (λ x l k e h. (e, h)) (λ x l k e h. h)

  -- ---- whether a member passes a test

  module _ (test : A → Bool) where
    pub any_none : (xs : List A) → any test xs ≡ false → Each (λ x. test x ≡ false) xs
    unfolding any Each
    any_none [] h = tt
    any_none (x ∷ xs) h = let (p, q) = neither (test x) (any test xs) h in (p, any_none xs q)

    pub any_some : (xs : List A) → any test xs ≡ true → (x : A) × Memᴰ x xs × (test x ≡ true)
    unfolding any
    any_some [] h = absurd (false≢true h)
    any_some (x ∷ xs) h = go (test x) refl (any_some xs) h
      where
        go : (b : Bool) → test x ≡ b → (any test xs ≡ true → (y : A) × Memᴰ y xs × (test y ≡ true))
            → (b || any test xs) ≡ true → (y : A) × Memᴰ y (x ∷ xs) × (test y ≡ true)
        go true e below k = (x, Memᴰ.head refl, e)
        go false e below k = let (y, member, passes) = below k in (y, Memᴰ.tail member, passes)

    -- what fails `rest` cannot pass `test`: only those that pass `rest` need be asked
    pub any_only : (rest : A → Bool) → ((x : A) → rest x ≡ false → test x ≡ false) → (xs : List A) → any test xs ≡ any test (only rest xs)
    unfolding any
    any_only rest fails = only_induct rest (λ l k. any test l ≡ any test k) refl
        (λ x l k e h. ap (λ (b : Bool). test x || b) h)
        (λ x l k e h. ap (λ (b : Bool). b || any test l) (fails x e) ∙ h)

  pub is_empty_length : (xs : List A) → is_empty xs ≡ eqb (length xs) 0
  is_empty_length [] = refl
  is_empty_length (x ∷ xs) = sym (eqb-suc-zero (length xs))

-- the i-th of the images is the image of the i-th, whatever stands for what is past the end
pub lookup_map : {A B : Type 0} (f : A → B) (xs : List A) (i : ℕ) (d : A) (e : B) → i < length xs → get_or (map f xs) i e ≡ f (get_or xs i d)
lookup_map f [] i d e h = absurd (not-suc-le-zero h)
lookup_map f (x ∷ xs) zero d e h = refl
lookup_map f (x ∷ xs) (suc i) d e h = lookup_map f xs i d e (le_of_suc-le-suc h)

-- one number more stands behind the others
pub numbers_last : (n s : ℕ) → numbers_from (suc n) s ≡ numbers_from n s ++ ((s + n) ∷ [])
unfolding numbers_from
numbers_last zero s = ap (λ (x : ℕ). x ∷ []) (sym (add-zero s))
numbers_last (suc n) s = ap (λ (l : List ℕ). s ∷ l) (numbers_last n (suc s) ∙ ap (λ (x : ℕ). numbers_from n (suc s) ++ (x ∷ [])) (omega arith))
