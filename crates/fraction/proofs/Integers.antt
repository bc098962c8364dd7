-- Whole numbers as differences of naturals: z is `natural z` less `deficit z`, one of which is 0. `Is z p n` says that z is p less n, for any
-- two naturals; it goes through sums, differences and products, and it turns an equation or an order of whole numbers into one of naturals,
-- which `omega arith` proves.
use mathlib.Core.Path.{◌≡◌, refl, ap}
use mathlib.Core.Bool.{Bool, true, false, not, cond}
use Prim.Native.Nat.{ℕ, zero, suc, ◌+◌, ◌*◌, ◌-◌, ◌≤◌, ◌<◌}
use native.Mathlib.Omega.{arith}
use lib.Dec.{T, ltb, ltb→lt, nltb→le, leb→le, le→leb, leb-suc-zero}
use lib.IntN.{ℤ, pos, negsuc, neg_ℤ, ◌+ℤ◌, ◌-ℤ◌, ◌*ℤ◌, sub_ℕ}
use lib.Signed.{◌≤ℤ◌, ◌<ℤ◌, le_z}

-- z, or 0 where z is negative
abbrev pub natural : ℤ → ℕ
natural (pos n) = n
natural (negsuc n) = 0

-- how far z is below 0
abbrev pub deficit : ℤ → ℕ
deficit (pos n) = 0
deficit (negsuc n) = suc n

-- ---- differences of naturals

pub minus_is : (a b : ℕ) → pos a -ℤ pos b ≡ sub_ℕ a b
minus_is a zero = rw leb-suc-zero (ap pos (omega arith))
minus_is a (suc b) = refl

pub natural_sub : (a b : ℕ) → natural (sub_ℕ a b) ≡ a - b
natural_sub a b = go (ltb a b) (ltb→lt a b)
  where
    go : (t : Bool) → (T t → a < b) → natural (cond t (negsuc (b - suc a)) (pos (a - b))) ≡ a - b
    go true h = omega (arith, h tt)
    go false h = refl

deficit_sub : (a b : ℕ) → deficit (sub_ℕ a b) ≡ b - a
deficit_sub a b = go (ltb a b) (ltb→lt a b) (nltb→le a b)
  where
    go : (t : Bool) → (T t → a < b) → (T (not t) → b ≤ a) → deficit (cond t (negsuc (b - suc a)) (pos (a - b))) ≡ b - a
    go true h k = omega (arith, h tt)
    go false h k = omega (arith, k tt)

-- ---- z is p less n

pub record Is (z : ℤ) (p n : ℕ) : Type 0 where
  pub is : natural z + n ≡ p + deficit z

pub is_self : (z : ℤ) → Is z (natural z) (deficit z)
is_self z = record { is = refl }

pub is_pos : (n : ℕ) → Is (pos n) n 0
is_pos n = record { is = refl }

is_sub : (a b : ℕ) → Is (sub_ℕ a b) a b
is_sub a b = record { is = rw (natural_sub a b, deficit_sub a b) (omega arith) }

neg_pos : (k : ℕ) → Is (neg_ℤ (pos k)) 0 k
neg_pos zero = record { is = refl }
neg_pos (suc k) = record { is = omega arith }

parts_neg : (z : ℤ) → Is (neg_ℤ z) (deficit z) (natural z)
parts_neg (pos k) = neg_pos k
parts_neg (negsuc k) = is_pos (suc k)

pub is_neg : {z : ℤ} {p n : ℕ} → Is z p n → Is (neg_ℤ z) n p
is_neg {z} h = record { is = omega (arith, h.is, (parts_neg z).is) }

parts_plus : (z w : ℤ) → Is (z +ℤ w) (natural z + natural w) (deficit z + deficit w)
parts_plus (pos a) (pos b) = record { is = omega arith }
parts_plus (pos a) (negsuc b) = record { is = omega (arith, (is_sub a (suc b)).is) }
parts_plus (negsuc a) (pos b) = record { is = omega (arith, (is_sub b (suc a)).is) }
parts_plus (negsuc a) (negsuc b) = record { is = omega arith }

pub is_plus : {z w : ℤ} {p n q m : ℕ} → Is z p n → Is w q m → Is (z +ℤ w) (p + q) (n + m)
is_plus {z} {w} h k = record { is = omega (arith, h.is, k.is, (parts_plus z w).is) }

pub is_minus : {z w : ℤ} {p n q m : ℕ} → Is z p n → Is w q m → Is (z -ℤ w) (p + m) (n + q)
is_minus h k = is_plus h (is_neg k)

parts_times : (z w : ℤ) → Is (z *ℤ w) (natural z * natural w + deficit z * deficit w) (natural z * deficit w + deficit z * natural w)
parts_times (pos a) (pos b) = record { is = omega arith }
parts_times (pos a) (negsuc b) = record { is = omega (arith, (neg_pos (a * suc b)).is) }
parts_times (negsuc a) (pos b) = record { is = omega (arith, (neg_pos (suc a * b)).is) }
parts_times (negsuc a) (negsuc b) = record { is = omega arith }

pub is_times : {z w : ℤ} {p n q m : ℕ} → Is z p n → Is w q m → Is (z *ℤ w) (p * q + n * m) (p * m + n * q)
is_times {z} {w} {p} {n} h k = record {
  is = omega (
    arith,
    (parts_times z w).is,
    ap (λ t. t * natural w) h.is,
    ap (λ t. t * deficit w) h.is,
    ap (λ t. p * t) k.is,
    ap (λ t. n * t) k.is,
  );
}

-- ---- equations and orders

pub is-≡ : {z w : ℤ} {p n q m : ℕ} → Is z p n → Is w q m → p + m ≡ q + n → z ≡ w
is-≡ {z} {w} h k e = apart z w (omega (arith, h.is, k.is))
  where
    apart : (z w : ℤ) → natural z + deficit w ≡ natural w + deficit z → z ≡ w
    apart (pos a) (pos b) e = ap pos (omega arith)
    apart (pos a) (negsuc b) e = absurd (let f : ⊥ = omega arith in f)
    apart (negsuc a) (pos b) e = absurd (let f : ⊥ = omega arith in f)
    apart (negsuc a) (negsuc b) e = ap negsuc (omega arith)

pub is-≤ : {z w : ℤ} {p n q m : ℕ} → Is z p n → Is w q m → p + m ≤ q + n → z ≤ℤ w
is-≤ {z} {w} h k l = record { le = test z w (omega (arith, h.is, k.is)) }
  where
    test : (z w : ℤ) → natural z + deficit w ≤ natural w + deficit z → T (le_z z w)
    test (pos a) (pos b) l = le→leb a b (omega arith)
    test (pos a) (negsuc b) l = absurd (let f : ⊥ = omega arith in f)
    test (negsuc a) (pos b) l = tt
    test (negsuc a) (negsuc b) l = le→leb b a (omega arith)

pub ≤_is : {z w : ℤ} {p n q m : ℕ} → Is z p n → Is w q m → z ≤ℤ w → p + m ≤ q + n
≤_is {z} {w} h k l = let f : natural z + deficit w ≤ natural w + deficit z = parts z w l.le in omega (arith, h.is, k.is)
  where
    parts : (z w : ℤ) → T (le_z z w) → natural z + deficit w ≤ natural w + deficit z
    parts (pos a) (pos b) t = omega (arith, leb→le a b t)
    parts (pos a) (negsuc b) t = absurd t
    parts (negsuc a) (pos b) t = omega arith
    parts (negsuc a) (negsuc b) t = omega (arith, leb→le b a t)

-- ---- whole numbers that are not negative, and positive ones

pub not_negative : (z : ℤ) → pos 0 ≤ℤ z → z ≡ pos (natural z)
not_negative (pos n) h = refl
not_negative (negsuc n) h = absurd h.le

-- one of the two parts is 0
pub no_deficit : (z : ℤ) → deficit z ≤ natural z → deficit z ≡ 0
no_deficit (pos n) h = refl
no_deficit (negsuc n) h = omega arith

pub positive : (z : ℤ) → pos 0 <ℤ z → 0 < natural z
positive (pos n) h = ltb→lt 0 n h.lt
positive (negsuc n) h = absurd h.lt

pub <-≤ : (z : ℤ) → pos 0 <ℤ z → pos 0 ≤ℤ z
<-≤ (pos n) h = record { le = le→leb 0 n (omega arith) }
<-≤ (negsuc n) h = absurd h.lt
