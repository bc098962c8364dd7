-- Polynomial inequalities between natural fractions, each by one call. A polynomial is an expression `P` of `native.Mathlib.Omega`, over
-- `patom 0`, `patom 1`, .. (the fractions of a list), numerals `plit k`, sums `+'` and products `*'`; `val p ρ` is its value.
--
-- `prove` shows L ≼ R from hypotheses aᵢ ≼ bᵢ. The caller names a polynomial cᵢ for each: L + Σ cᵢ·bᵢ must be covered by R + Σ cᵢ·aᵢ, monomial by
-- monomial. The test computes, so its proof is `tt`. For instance, from x ≼ y follows x·z + x ≼ y·z + y, with the multiplier z + 1:
--
--     prove (x ∷ y ∷ z ∷ []) (hyp (patom 2 +' plit 1) (patom 0) (patom 1) ∷ [])
--       (patom 0 *' patom 2 +' patom 0) (patom 1 *' patom 2 +' patom 1) tt h
--
-- `equal` does the same for equations: L ≈ R from aᵢ ≈ bᵢ. `same_value` is the case without hypotheses.
use mathlib.Core.Path.{◌≡◌, refl}
use mathlib.Core.List.{List, [], ◌∷◌}
use mathlib.Core.Bool.{Bool, true, false, not}
use Prim.Native.Nat.{ℕ, zero, suc, ◌+◌, ◌*◌, ◌-◌, ◌≤◌, ◌<◌, compare, Ordering}
use native.Mathlib.Omega.{arith, P, patom, plit, padd, pmul, pnxt, pick, ins, join, Sum, none, more, both, scale, times, flat}
use native.Mathlib.Nat.{le_of_lt}
use lib.Dec.{T, eqb, eqb→eq, leb, leb→le, nleb→lt}
use Rattle.fraction.proofs.Ratio.{Ratio, ◌≼◌, ◌≈◌, ofℕ, ◌⊕◌, ◌⊗◌, ≼_refl, ≼_trans, ≈_refl, ≈_sym, ≈_trans, ≈_le, ≈_ge, ⊕_mono, ⊗_mono, ⊕_cong, ⊗_cong}
use Rattle.fraction.proofs.Ratio.{⊕_cancel, ⊕_comm, ⊕_assoc, ⊕_zero, ⊗_comm, ⊗_assoc, ⊗_one, ⊗_one_right, ⊗_zero, ⊗-⊕, ofℕ-⊕, ofℕ-⊗, zero-≼, ≼_antisym}

infixl 60 ◌+'◌
infixl 70 ◌*'◌
abbrev pub ◌+'◌ : P → P → P
a +' b = padd a b

abbrev pub ◌*'◌ : P → P → P
a *' b = pmul a b

-- ---- polynomials and their values

abbrev pub nth : List Ratio → ℕ → Ratio
nth [] i = ofℕ 0
nth (x ∷ ρ) zero = x
nth (x ∷ ρ) (suc i) = nth ρ i

abbrev pub val : P → List Ratio → Ratio
val (patom i) ρ = nth ρ i
val (plit k) ρ = ofℕ k
val (padd a b) ρ = val a ρ ⊕ val b ρ
val (pmul a b) ρ = val a ρ ⊗ val b ρ
val (pnxt a) ρ = ofℕ 1 ⊕ val a ρ

-- a monomial is the list of its atoms; a sum is a list of monomials with coefficients
abbrev mono : List ℕ → List Ratio → Ratio
mono [] ρ = ofℕ 1
mono (i ∷ m) ρ = nth ρ i ⊗ mono m ρ

abbrev total : Sum → List Ratio → Ratio
total none ρ = ofℕ 0
total (more k m s) ρ = ofℕ k ⊗ mono m ρ ⊕ total s ρ

-- ---- small rearrangements
left_comm⊗ : (x y z : Ratio) → x ⊗ (y ⊗ z) ≈ y ⊗ (x ⊗ z)
left_comm⊗ x y z = ≈_trans (≈_sym (⊗_assoc x y z)) (≈_trans (⊗_cong (⊗_comm x y) (≈_refl z)) (⊗_assoc y x z))

⊕-⊗ : (x y z : Ratio) → (x ⊕ y) ⊗ z ≈ x ⊗ z ⊕ y ⊗ z
⊕-⊗ x y z = ≈_trans (⊗_comm (x ⊕ y) z) (≈_trans (⊗-⊕ z x y) (⊕_cong (⊗_comm z x) (⊗_comm z y)))

mid⊗ : (a b c d : Ratio) → (a ⊗ b) ⊗ (c ⊗ d) ≈ (a ⊗ c) ⊗ (b ⊗ d)
mid⊗ a b c d = ≈_trans (⊗_assoc a b (c ⊗ d)) (≈_trans (⊗_cong (≈_refl a) (left_comm⊗ b c d)) (≈_sym (⊗_assoc a c (b ⊗ d))))

left_comm⊕ : (x y z : Ratio) → x ⊕ (y ⊕ z) ≈ y ⊕ (x ⊕ z)
left_comm⊕ x y z = ≈_trans (≈_sym (⊕_assoc x y z)) (≈_trans (⊕_cong (⊕_comm x y) (≈_refl z)) (⊕_assoc y x z))

-- ---- flattening keeps the value
mono_pick : (o : Ordering) (x y : List ℕ) (ρ : List Ratio) (v : Ratio) → mono x ρ ≈ v → mono y ρ ≈ v → mono (pick o x y) ρ ≈ v
mono_pick Ordering.lt x y ρ v p q = p
mono_pick Ordering.eq x y ρ v p q = p
mono_pick Ordering.gt x y ρ v p q = q

mono_ins : (i : ℕ) (m : List ℕ) (ρ : List Ratio) → mono (ins i m) ρ ≈ nth ρ i ⊗ mono m ρ
mono_ins i [] ρ = ≈_refl _
mono_ins i (j ∷ m) ρ = mono_pick (compare i j) (i ∷ j ∷ m) (j ∷ ins i m) ρ (nth ρ i ⊗ (nth ρ j ⊗ mono m ρ)) (≈_refl _)
    (≈_trans (⊗_cong (≈_refl _) (mono_ins i m ρ)) (left_comm⊗ (nth ρ j) (nth ρ i) (mono m ρ)))

mono_join : (m n : List ℕ) (ρ : List Ratio) → mono (join m n) ρ ≈ mono m ρ ⊗ mono n ρ
mono_join [] n ρ = ≈_sym (⊗_one (mono n ρ))
mono_join (i ∷ m) n ρ = ≈_trans (mono_ins i (join m n) ρ)
    (≈_trans (⊗_cong (≈_refl _) (mono_join m n ρ)) (≈_sym (⊗_assoc (nth ρ i) (mono m ρ) (mono n ρ))))

total_both : (s t : Sum) (ρ : List Ratio) → total (both s t) ρ ≈ total s ρ ⊕ total t ρ
total_both none t ρ = ≈_sym (⊕_zero (total t ρ))
total_both (more k m s) t ρ = ≈_trans (⊕_cong (≈_refl _) (total_both s t ρ)) (≈_sym (⊕_assoc (ofℕ k ⊗ mono m ρ) (total s ρ) (total t ρ)))

total_scale : (k : ℕ) (m : List ℕ) (t : Sum) (ρ : List Ratio) → total (scale k m t) ρ ≈ (ofℕ k ⊗ mono m ρ) ⊗ total t ρ
total_scale k m none ρ = ≈_sym (≈_trans (⊗_comm _ _) (⊗_zero _))
total_scale k m (more j n s) ρ = ≈_trans (⊕_cong first (total_scale k m s ρ)) (≈_sym (⊗-⊕ (ofℕ k ⊗ mono m ρ) (ofℕ j ⊗ mono n ρ) (total s ρ)))
  where
    first : ofℕ (k * j) ⊗ mono (join m n) ρ ≈ (ofℕ k ⊗ mono m ρ) ⊗ (ofℕ j ⊗ mono n ρ)
    first = ≈_trans (⊗_cong (ofℕ-⊗ k j) (mono_join m n ρ)) (mid⊗ (ofℕ k) (ofℕ j) (mono m ρ) (mono n ρ))

total_times : (s t : Sum) (ρ : List Ratio) → total (times s t) ρ ≈ total s ρ ⊗ total t ρ
total_times none t ρ = ≈_sym (⊗_zero (total t ρ))
total_times (more k m s) t ρ = ≈_trans (total_both (scale k m t) (times s t) ρ)
    (≈_trans (⊕_cong (total_scale k m t ρ) (total_times s t ρ)) (≈_sym (⊕-⊗ (ofℕ k ⊗ mono m ρ) (total s ρ) (total t ρ))))

one_mono : (x : Ratio) → ofℕ 1 ⊗ (x ⊗ ofℕ 1) ⊕ ofℕ 0 ≈ x
one_mono x = ≈_trans (⊕_comm _ _) (≈_trans (⊕_zero _) (≈_trans (⊗_one _) (⊗_one_right x)))

lit_mono : (k : ℕ) → ofℕ k ⊗ ofℕ 1 ⊕ ofℕ 0 ≈ ofℕ k
lit_mono k = ≈_trans (⊕_comm _ _) (≈_trans (⊕_zero _) (⊗_one_right (ofℕ k)))

flat_sound : (p : P) (ρ : List Ratio) → val p ρ ≈ total (flat p) ρ
flat_sound (patom i) ρ = ≈_sym (one_mono (nth ρ i))
flat_sound (plit k) ρ = ≈_sym (lit_mono k)
flat_sound (padd a b) ρ = ≈_trans (⊕_cong (flat_sound a ρ) (flat_sound b ρ)) (≈_sym (total_both (flat a) (flat b) ρ))
flat_sound (pmul a b) ρ = ≈_trans (⊗_cong (flat_sound a ρ) (flat_sound b ρ)) (≈_sym (total_times (flat a) (flat b) ρ))
flat_sound (pnxt a) ρ = ⊕_cong (≈_sym (⊗_one (ofℕ 1))) (flat_sound a ρ)

-- ---- one sum covers another: each monomial of the one, as often as it stands there, can be taken out of the other

-- what is left of a sum, or nothing where it had too little
pub data Rest : Type 0 where
  short : Rest
  rest : Sum → Rest

abbrev pub same : List ℕ → List ℕ → Bool
same [] [] = true
same [] (j ∷ n) = false
same (i ∷ m) [] = false
same (i ∷ m) (j ∷ n) = elim (eqb i j) [ true ↦ same m n | false ↦ false ]

abbrev pub keep : ℕ → List ℕ → Rest → Rest
keep j n short = short
keep j n (rest s) = rest (more j n s)

-- `k` times the monomial `m` taken out of a sum
abbrev pub out : ℕ → List ℕ → Sum → Rest
out k m none = elim (eqb k 0) [ true ↦ rest none | false ↦ short ]
out k m (more j n s) = elim (same m n) [
  | true ↦ elim (leb k j) [ true ↦ rest (more (j - k) n s) | false ↦ out (k - j) m s ]
  | false ↦ keep j n (out k m s)
]

abbrev pub covers : Sum → Sum → Bool
covers none t = true
covers (more k m s) t = elim (out k m t) [ short ↦ false | rest r ↦ covers s r ]

pub same_eq : (m n : List ℕ) → T (same m n) → m ≡ n
same_eq [] [] t = refl
same_eq [] (j ∷ n) t = absurd t
same_eq (i ∷ m) [] t = absurd t
same_eq (i ∷ m) (j ∷ n) t = go (eqb i j) (eqb→eq i j) (same_eq m n) t
  where
    go : (b : Bool) → (T b → i ≡ j) → (T (same m n) → m ≡ n) → T (elim b [ true ↦ same m n | false ↦ false ]) → i ∷ m ≡ j ∷ n
    go true p q u = cc (p tt, q u)
    go false p q u = absurd u

-- a sum of the value v had k times x in it, and r is what is left
Out : Ratio → ℕ → Ratio → List Ratio → Rest → Type 0
Out v k x ρ short = Unit {0}
Out v k x ρ (rest r) = v ≈ ofℕ k ⊗ x ⊕ total r ρ

split⊗ : (k i : ℕ) (x s : Ratio) → ofℕ (k + i) ⊗ x ⊕ s ≈ ofℕ k ⊗ x ⊕ (ofℕ i ⊗ x ⊕ s)
split⊗ k i x s = ≈_trans (⊕_cong (≈_trans (⊗_cong (ofℕ-⊕ k i) (≈_refl x)) (⊕-⊗ (ofℕ k) (ofℕ i) x)) (≈_refl s)) (⊕_assoc _ _ s)

split-≤ : (j k : ℕ) (x s : Ratio) → k ≤ j → ofℕ j ⊗ x ⊕ s ≈ ofℕ k ⊗ x ⊕ (ofℕ (j - k) ⊗ x ⊕ s)
split-≤ j k x s h = let e : k + (j - k) ≡ j = omega arith in rw e at (split⊗ k (j - k) x s)

out_sound : (k : ℕ) (m : List ℕ) (t : Sum) (ρ : List Ratio) → Out (total t ρ) k (mono m ρ) ρ (out k m t)
unfolding Out
out_sound k m none ρ = go (eqb k 0) (eqb→eq k 0)
  where
    go : (b : Bool) → (T b → k ≡ 0) → Out (ofℕ 0) k (mono m ρ) ρ (elim b [ true ↦ rest none | false ↦ short ])
    go true e = rw (e tt) (≈_sym (≈_trans (⊕_comm _ _) (≈_trans (⊕_zero _) (⊗_zero (mono m ρ)))))
    go false e = tt
out_sound k m (more j n s) ρ = go (same m n) (same_eq m n) (out k m s) (out_sound k m s ρ)
    (leb k j) (leb→le k j) (nleb→lt k j) (out (k - j) m s) (out_sound (k - j) m s ρ)
  where
    go : (b : Bool) → (T b → m ≡ n) → (r : Rest) → Out (total s ρ) k (mono m ρ) ρ r
        → (c : Bool) → (T c → k ≤ j) → (T (not c) → j < k) → (q : Rest) → Out (total s ρ) (k - j) (mono m ρ) ρ q
        → Out (total (more j n s) ρ) k (mono m ρ) ρ (elim b [ true ↦ elim c [ true ↦ rest (more (j - k) n s) | false ↦ q ] | false ↦ keep j n r ])
    go true e r w true p p' q z = rw (e tt) (split-≤ j k (mono n ρ) (total s ρ) (p tt))
    go true e r w false p p' short z = tt
    go true e r w false p p' (rest u) z = rw (← e tt) (≈_trans (⊕_cong (≈_refl _) z) (≈_sym (split-≤ k j (mono m ρ) (total u ρ) (le_of_lt (p' tt)))))
    go false e short w c p p' q z = tt
    go false e (rest u) w c p p' q z = ≈_trans (⊕_cong (≈_refl _) w) (left_comm⊕ _ _ _)

covers_sound : (s t : Sum) (ρ : List Ratio) → T (covers s t) → total s ρ ≼ total t ρ
unfolding Out
covers_sound none t ρ h = zero-≼ _
covers_sound (more k m s) t ρ h = go (out k m t) (out_sound k m t ρ) (λ r. covers_sound s r ρ) h
  where
    go : (r : Rest) → Out (total t ρ) k (mono m ρ) ρ r → ((u : Sum) → T (covers s u) → total s ρ ≼ total u ρ)
        → T (elim r [ short ↦ false | rest u ↦ covers s u ]) → ofℕ k ⊗ mono m ρ ⊕ total s ρ ≼ total t ρ
    go short w f h = absurd h
    go (rest u) w f h = ≼_trans (⊕_mono (≼_refl _) (f u h)) (≈_ge w)

-- ---- the certificate: hypotheses, each with its multiplier

-- `hyp c a b`: a ≼ b, to be multiplied by c
pub data Hyp : Type 0 where
  hyp : P → P → P → Hyp

-- G, given the hypotheses
abbrev pub Imp : List Ratio → List Hyp → Type 0 → Type 0
Imp ρ [] G = G
Imp ρ (hyp c a b ∷ hs) G = val a ρ ≼ val b ρ → Imp ρ hs G

-- L + Σ cᵢ·bᵢ is covered by R + Σ cᵢ·aᵢ
abbrev pub test : List Hyp → P → P → Bool
test [] L R = covers (flat L) (flat R)
test (hyp c a b ∷ hs) L R = test hs (padd L (pmul c b)) (padd R (pmul c a))

imp_map : (ρ : List Ratio) (hs : List Hyp) {G K : Type 0} → (G → K) → Imp ρ hs G → Imp ρ hs K
imp_map ρ [] f g = f g
imp_map ρ (hyp c a b ∷ hs) f g = λ p. imp_map ρ hs f (g p)

pub prove : (ρ : List Ratio) (hs : List Hyp) (L R : P) → T (test hs L R) → Imp ρ hs (val L ρ ≼ val R ρ)
prove ρ [] L R t = ≼_trans (≈_le (flat_sound L ρ)) (≼_trans (covers_sound (flat L) (flat R) ρ t) (≈_ge (flat_sound R ρ)))
prove ρ (hyp c a b ∷ hs) L R t = λ p.
    imp_map ρ hs (λ w. ⊕_cancel (val c ρ ⊗ val b ρ) (≼_trans w (⊕_mono (≼_refl _) (⊗_mono (≼_refl (val c ρ)) p))))
    (prove ρ hs (padd L (pmul c b)) (padd R (pmul c a)) t)

-- ---- equations: the test both ways

-- G, given the hypotheses as equations
abbrev pub Eqs : List Ratio → List Hyp → Type 0 → Type 0
Eqs ρ [] G = G
Eqs ρ (hyp c a b ∷ hs) G = val a ρ ≈ val b ρ → Eqs ρ hs G

abbrev pub turned : List Hyp → List Hyp
turned [] = []
turned (hyp c a b ∷ hs) = hyp c b a ∷ turned hs

both_ways : (ρ : List Ratio) (hs : List Hyp) {G K M : Type 0} → (G → K → M) → Imp ρ hs G → Imp ρ (turned hs) K → Eqs ρ hs M
both_ways ρ [] f g k = f g k
both_ways ρ (hyp c a b ∷ hs) f g k = λ e. both_ways ρ hs f (g (≈_le e)) (k (≈_ge e))

pub equal : (ρ : List Ratio) (hs : List Hyp) (L R : P) → T (test hs L R) → T (test (turned hs) R L) → Eqs ρ hs (val L ρ ≈ val R ρ)
equal ρ hs L R t u = both_ways ρ hs ≼_antisym (prove ρ hs L R t) (prove ρ (turned hs) R L u)

pub same_value : (ρ : List Ratio) (L R : P) → T (covers (flat L) (flat R)) → T (covers (flat R) (flat L)) → val L ρ ≈ val R ρ
same_value ρ L R t u = equal ρ [] L R t u
