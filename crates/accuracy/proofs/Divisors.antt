-- Wherever the exact bounds and the accuracy rule divide, in a model that was accepted, the divisor is positive: k!, k + 1, 2, 1,000,000, 10,000,
-- r² and s. `crates/tree/proofs/Divisors.antt` says so of the rounded ones. Assumes nothing.
use Prim.Native.Nat.{ℕ, zero, suc, ◌+◌, ◌≤◌, ◌<◌}
use mathlib.Core.Path.{◌≡◌}
use native.Mathlib.Nat.{mul-pos, zero-lt-suc}
use native.Mathlib.Omega.{arith}
use lib.Dec.{lit<}
use Rattle.fraction.specs.Fraction.{Fraction, whole, ◌^ᶠ◌}
use Rattle.fraction.proofs.Ratio.{Ratio, ≈_ge, ⊗_pos, ofℕ_pos, pos-≼}
use Rattle.fraction.proofs.Inverse.{inv_pos}
use Rattle.fraction.proofs.Signed.{signed_positive}
use Rattle.fraction.proofs.Quotients.{Positive, whole_positive, ^ᶠ_positive}
use Rattle.word.specs.Model.{Transition, Net, Model}
use Rattle.model.specs.Internal.Valid.{Valid}
use Rattle.model.proofs.ReadValid.{read_valid}
use Rattle.tree.specs.Paths.{Path, class1, class, class1_count}
use Rattle.tree.specs.Grains.{grains}
use Rattle.tree.proofs.Least.{grains_low}
use Rattle.accuracy.specs.Bounds.{factorial, grain_time}
use Rattle.accuracy.specs.Faithful.{NoZeroExactDivisor}
use Rattle.accuracy.proofs.Natural.{◌is◌, is_whole, is_product, is_quotient}
use Rattle.accuracy.proofs.ExactStates.{exact_is}
use Rattle.accuracy.proofs.RoundedStates.{quantity_pos}

-- ---- whatever the model

factorial_above : (k : ℕ) → 0 < factorial k
unfolding factorial
factorial_above zero = lit< tt
factorial_above (suc k) = mul-pos (zero-lt-suc k) (factorial_above k)

-- "t^k / k!", and T^k / k! likewise
pub factorial_positive : (k : ℕ) → Positive (whole (factorial k))
factorial_positive k = whole_positive (factorial k) (factorial_above k)

-- "/ (k + 1)"
pub number_more_positive : (net : Net) (p : Path) → Positive (whole (class1_count net p + 1))
number_more_positive net p = whole_positive _ (omega arith)

-- "E × H / 2"
pub two_positive : Positive (whole 2)
two_positive = whole_positive 2 (lit< tt)

-- "T × (1,000,000 − N') / 1,000,000"
pub million_positive : Positive (whole 1000000)
million_positive = whole_positive 1000000 (lit< tt)

-- "a ten-thousandth of the death paths' exact upper sum"
pub ten_thousand_positive : Positive (whole 10000)
ten_thousand_positive = whole_positive 10000 (lit< tt)

-- ---- an accepted model

is_positive : {x : Fraction} {r : Ratio} → x is r → 0 < r.num → Positive x
is_positive p h = rw p.equal (signed_positive p.held (pos-≼ (≈_ge p.same) h))

module _ {m : Model} (valid : Valid m) where
  -- "s = n × T / 1,000,000", and r likewise, where n is at least 1
  pub grain_time_positive : (n : ℕ) → 1 ≤ n → Positive (grain_time m.net n)
  unfolding grain_time
  grain_time_positive n h = is_positive (is_quotient (is_product (is_whole n) (exact_is m.net.time)) (is_whole 1000000))
      (⊗_pos _ _ (⊗_pos _ _ (ofℕ_pos h) (quantity_pos valid.time)) (inv_pos _ (ofℕ_pos (lit< tt))))

  -- class 2 and 3 steps have grains: "M / r²" and "H / s"
  module _ (p : Path) (t : Transition) (beside : class m.net t ≡ class1 → ⊥) where
    pub step_time_positive : Positive (grain_time m.net (grains m.net p t))
    step_time_positive = grain_time_positive (grains m.net p t) (grains_low m.net p t beside)

    pub step_time_squared_positive : Positive (grain_time m.net (grains m.net p t) ^ᶠ 2)
    step_time_squared_positive = ^ᶠ_positive _ 2 step_time_positive

pub no_zero_exact_divisor : NoZeroExactDivisor
no_zero_exact_divisor ws budget m e =
    let valid = read_valid ws budget m e in
    record {
      factorials = factorial_positive;
      number_more = number_more_positive m.net;
      two = two_positive;
      million = million_positive;
      ten_thousand = ten_thousand_positive;
      grain_square = step_time_squared_positive valid;
      grain_times = step_time_positive valid;
    }
