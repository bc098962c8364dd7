-- Small models with their exact sums, each worked out by hand from document 01, "Classes and the exact bounds", and one claim: that the definitions
-- agree with all of them. The grains n come from "Grains" there. Assumes nothing: these are definitions.
use Rattle.std.specs.Prelude.{ℕ, ◌^◌, ◌≡◌, Bool, true, ◌&&◌, List, [], ◌∷◌, pos}
use Rattle.fraction.specs.Fraction.{Fraction, whole, ratio}
use Rattle.word.specs.declared.Quantity.{Quantity}
use Rattle.word.specs.Model.{Transition, Limits}
use Rattle.tree.specs.Tree.{tree, deaths, cuts}
use Rattle.tree.specs.Marked.{all}
use Rattle.tree.specs.Pinned.{quantity, slow_step, fast_step, naming_net, slow_tenth, fast_sure, same_fraction}
use Rattle.accuracy.specs.Rule.{exact_upper_sum, exact_lower_sum, death_upper_sum, cut_upper_sum}

-- the fraction c / 10^p
abbrev pub decimal : ℕ → ℕ → Fraction
decimal c p = ratio (pos c) (10 ^ p)

-- step limit L and prune level P; the entry limit V is 1
abbrev limits_of : ℕ → Quantity → Limits
limits_of l p = record { step_limit = l; entry_limit = 1; prune = p }

-- L 24, V 1, P 0
abbrev pub wide : Limits
wide = limits_of 24 (quantity 0 0)

-- from 1 to b with mean 4E-3, deviation 3E-3 and probability c / 10^6
abbrev third : ℕ → ℕ → Transition
third b c = fast_step 1 b (quantity 4 3) (quantity 3 3) (quantity c 6)

-- a model, started in state 1, in which these states are the generator's, with its four exact sums
pub record Example : Type 0 where
  pub time : Quantity
  pub named : List ℕ
  pub limits : Limits
  pub table : List Transition
  pub upper : Fraction
  pub lower : Fraction
  pub death_upper : Fraction
  pub cut_upper : Fraction

-- ---- class 1 and cuts

-- T 10, three class 1 steps. Upper: 0.1³ × 10³ / 3! = 1/6. Lower: N' = 0 and t = 10; A = 0.1 + 0.1 + 0.1, 1 − 10 × 0.3 / 4 = 1/4; 1/6 × 1/4 = 1/24.
abbrev three_slow : Example
three_slow = record {
  time = quantity 10 0;
  named = [];
  limits = wide;
  table = slow_tenth 1 2 ∷ slow_tenth 2 3 ∷ slow_tenth 3 4 ∷ [];
  upper = ratio (pos 1) 6;
  lower = ratio (pos 1) 24;
  death_upper = ratio (pos 1) 6;
  cut_upper = whole 0;
}

-- T 1. 1 to 2 to 1 is cut by V; 1 to 2 to 3 is a death. Upper of each: 0.1² × 1² / 2! = 0.005. Lower of the death: A = 0.1 + 0.2,
-- 1 − 1 × 0.3 / 3 = 0.9; 0.005 × 0.9 = 0.0045.
abbrev cut_by_entries : Example
cut_by_entries = record {
  time = quantity 1 0;
  named = [];
  limits = wide;
  table = slow_tenth 1 2 ∷ slow_tenth 2 1 ∷ slow_tenth 2 3 ∷ [];
  upper = decimal 10 3;
  lower = decimal 45 4;
  death_upper = decimal 5 3;
  cut_upper = decimal 5 3;
}

-- T 10. 1 to 2 to 1 is cut by V, with the upper 0.1² × 10² / 2! = 0.5. There is no death: "a sum over no path is 0".
abbrev no_death : Example
no_death = record {
  time = quantity 10 0;
  named = [];
  limits = wide;
  table = slow_tenth 1 2 ∷ slow_tenth 2 1 ∷ [];
  upper = decimal 5 1;
  lower = whole 0;
  death_upper = whole 0;
  cut_upper = decimal 5 1;
}

-- T 1, P 0.1. 1 to 2 has the upper 0.1 × 1 and is cut by P; 1 to 3 is a death with the upper 0.2 × 1. Its lower: A = E = 0.1 + 0.2,
-- 1 − 1 × 0.3 / 2 = 0.85; 0.2 × 0.85 = 0.17.
abbrev cut_by_level : Example
cut_by_level = record {
  time = quantity 1 0;
  named = [];
  limits = limits_of 24 (quantity 1 1);
  table = slow_tenth 1 2 ∷ slow_step 1 3 (quantity 2 1) ∷ slow_tenth 2 4 ∷ [];
  upper = decimal 3 1;
  lower = decimal 17 2;
  death_upper = decimal 2 1;
  cut_upper = decimal 1 1;
}

-- T 1, and the words name 3 and 5 as the generator's. 1 to 3 is a cut with the upper 0.2 × 1, 1 to 2 to 5 one with 0.1 × 0.3 × 1² / 2! = 0.015; 1 to 2
-- to 4 is a death with 0.1² × 1² / 2! = 0.005. Its lower: A = 0.3 + 0.4, 1 − 1 × 0.7 / 3 = 23/30; 0.005 × 23/30 = 23/6000.
abbrev cut_by_name : Example
cut_by_name = record {
  time = quantity 1 0;
  named = 3 ∷ 5 ∷ [];
  limits = wide;
  table = slow_tenth 1 2 ∷ slow_step 1 3 (quantity 2 1) ∷ slow_tenth 2 4 ∷ slow_step 2 5 (quantity 3 1) ∷ [];
  upper = decimal 22 2;
  lower = ratio (pos 23) 6000;
  death_upper = decimal 5 3;
  cut_upper = decimal 215 3;
}

-- ---- classes 2 and 3

-- T 1, L 1: two class 3 deaths, and two class 2 steps that are cut. h = 0.25 × 3E-4 + 0.75 × 1E-4 = 1.5E-4. H = 0.25 × 9E-8 + 0.75 × (1E-8 + 4E-8)
-- = 6E-8. Uppers: deaths 0.1 × h + 0.3 × h = 6E-5, cuts 0.25 + 0.75. n: g = 10^12 × 6E-8 / 1.5E-4 = 4 × 10^8 = 20,000², s = 0.02. E = 0.1 + 0.3.
-- h − 0.4 × H / 2 − H / s = 1.5E-4 − 1.2E-8 − 3E-6 = 1.46988E-4. k = 0 and A = 0, so the lowers are 0.1 and 0.3 times that: 5.87952E-5.
abbrev pub class3_deaths : Example
class3_deaths = record {
  time = quantity 1 0;
  named = [];
  limits = limits_of 1 (quantity 0 0);
  table = slow_tenth 1 2 ∷ slow_step 1 3 (quantity 3 1) ∷ fast_step 1 4 (quantity 3 4) (quantity 0 0) (quantity 25 2)
      ∷ fast_step 1 5 (quantity 1 4) (quantity 2 4) (quantity 75 2) ∷ slow_tenth 4 1 ∷ slow_tenth 5 1 ∷ [];
  upper = decimal 100006 5;
  lower = decimal 587952 10;
  death_upper = decimal 6 5;
  cut_upper = whole 1;
}

-- T 1, L 1: a class 2 death, and a slow step beside it that is cut. Uppers: 1, and 10 × h = 10 × 2E-3. n of 1 to 2: M = 4E-6,
-- g = 10^18 × 8E-6 = 20,000³, r = 0.02. Lower: E = 10, 1 − 10 × 2E-3 − 4E-6 / 0.02² = 1 − 0.02 − 0.01 = 0.97.
abbrev class2_death : Example
class2_death = record {
  time = quantity 1 0;
  named = [];
  limits = limits_of 1 (quantity 0 0);
  table = fast_sure 1 2 (quantity 2 3) ∷ slow_step 1 3 (quantity 10 0) ∷ slow_tenth 3 1 ∷ [];
  upper = decimal 102 2;
  lower = decimal 97 2;
  death_upper = whole 1;
  cut_upper = decimal 2 2;
}

-- T 20, class 2 with thirds and three deaths; m = 4E-3 and d = 3E-3, so M = 2.5E-5. Uppers: 0.333333, 0.333333 and 0.333334 × 0.01 × 20 = 0.0666668.
-- n: g = 10^18 × 5E-5 / 400 = 0.125 × 10^12 = 5,000³, r = 0.1; 1 − 0 × m − 2.5E-5 / 0.1² = 0.9975. The third has t = 20 × 0.995 = 19.9 and
-- A = 0.01: 0.01 × 19.9 × (1 − 19.9 × 0.01 / 2) = 0.199 × 0.9005 = 0.1791995. Lower: 0.9975 × (0.666666 + 0.333334 × 0.1791995)
-- = 0.9975 × (0.666666 + 0.059733286133) = 0.9975 × 0.726399286133 = 0.7245832879176675.
abbrev thirds : Example
thirds = record {
  time = quantity 20 0;
  named = [];
  limits = wide;
  table = third 2 333333 ∷ third 3 333333 ∷ third 4 333334 ∷ slow_step 4 5 (quantity 1 2) ∷ [];
  upper = decimal 7333328 7;
  lower = decimal 7245832879176675 16;
  death_upper = decimal 7333328 7;
  cut_upper = whole 0;
}

-- T 10, L 3: the death 1 to 2 to 3 to 4 has a step of each class; 1 to 2 to 3 to 5 is cut. Uppers: 0.1 × 10 × 1 × (0.1 × 1E-3) = 1E-4, and
-- 0.1 × 10 × 1 × 1 = 1. n of 2 to 3: g = 10^18 × 2 × 4E-4 / 100 = 20,000³, r = 0.2; 1 − 4E-4 / 0.2² = 0.99. n of 3 to 4: h = 1E-3, H = 1E-6,
-- g = 10^12 × 1E-6 / 1E-2 = 10,000², s = 0.1; 0.1 × (1E-3 − 0.1 × 1E-6 / 2 − 1E-6 / 0.1) = 0.1 × (1E-3 − 5E-8 − 1E-5) = 9.8995E-5.
-- N' = 30,000, t = 9.7: 0.1 × 9.7 × (1 − 9.7 × 0.1 / 2) = 0.97 × 0.515 = 0.49955. Lower: 0.49955 × 0.99 × 9.8995E-5 = 0.4945545 × 9.8995E-5
-- = 4.89584227275E-5.
abbrev each_class : Example
each_class = record {
  time = quantity 10 0;
  named = [];
  limits = limits_of 3 (quantity 0 0);
  table = slow_tenth 1 2 ∷ fast_sure 2 3 (quantity 2 2) ∷ slow_tenth 3 4 ∷ fast_sure 3 5 (quantity 1 3) ∷ slow_tenth 5 1 ∷ [];
  upper = decimal 10001 4;
  lower = decimal 489584227275 16;
  death_upper = decimal 1 4;
  cut_upper = whole 1;
}

-- ---- "the lower is 0"

-- T 4: N' is 1,000,000 for 1 to 2 to 3 and 1,500,000 for 1 to 2 to 4 to 5. Each step has g = 10^18 × 2 / 16 = 500,000³, r = 2, and the factor
-- q × (1 − 1 / 2²), which is positive. Uppers: 0.5 and 0.5.
abbrev time_filled : Example
time_filled = record {
  time = quantity 4 0;
  named = [];
  limits = wide;
  table = fast_sure 1 2 (quantity 1 0) ∷ fast_step 2 3 (quantity 1 0) (quantity 0 0) (quantity 5 1)
      ∷ fast_step 2 4 (quantity 1 0) (quantity 0 0) (quantity 5 1) ∷ fast_sure 4 5 (quantity 1 0) ∷ [];
  upper = whole 1;
  lower = whole 0;
  death_upper = whole 1;
  cut_upper = whole 0;
}

-- T 10: the last factor, 1 − 10 × 1 / 2 = −4. Upper: 1 × 10.
abbrev last_negative : Example
last_negative = record {
  time = quantity 10 0;
  named = [];
  limits = wide;
  table = slow_step 1 2 (quantity 1 0) ∷ [];
  upper = whole 10;
  lower = whole 0;
  death_upper = whole 10;
  cut_upper = whole 0;
}

-- T 1, E = 1,000: a class 2 factor, 1 − 1,000 × 2E-3 − 4E-6 / 0.02² = −1.01 (n = 20,000 as in `class2_death`), and a class 3 factor,
-- 1,000 × (2E-3 − 1,000 × 4E-6 / 2 − 4E-6 / s) = 1,000 × (−4E-6 / s). Uppers: 1, and 1,000 × 2E-3 = 2.
abbrev steps_negative : Example
steps_negative = record {
  time = quantity 1 0;
  named = [];
  limits = wide;
  table = fast_sure 1 2 (quantity 2 3) ∷ slow_step 1 3 (quantity 1000 0) ∷ [];
  upper = whole 3;
  lower = whole 0;
  death_upper = whole 3;
  cut_upper = whole 0;
}

-- The same with a step from 2 to 4: two factors of 1 to 2 to 4 are negative, so that their product is not, −1.01 and, with t = 0.98,
-- 1 − 0.98 × 10 / 2 = −3.9. Uppers: 1 × 10 × 1, and 2.
abbrev two_negative : Example
two_negative = record {
  time = quantity 1 0;
  named = [];
  limits = wide;
  table = fast_sure 1 2 (quantity 2 3) ∷ slow_step 1 3 (quantity 1000 0) ∷ slow_step 2 4 (quantity 10 0) ∷ [];
  upper = whole 12;
  lower = whole 0;
  death_upper = whole 12;
  cut_upper = whole 0;
}

-- ---- the claim

unfoldable pub examples : List Example
examples =
    three_slow ∷ cut_by_entries ∷ no_death ∷ cut_by_level ∷ cut_by_name ∷ class3_deaths ∷ class2_death ∷ thirds ∷ each_class
    ∷ time_filled ∷ last_negative ∷ steps_negative ∷ two_negative ∷ []

unfoldable pub example_agrees : Example → Bool
example_agrees x =
    let net = naming_net x.named x.time x.table in
    let vs = tree net x.limits in
    same_fraction (exact_upper_sum net (deaths vs) (cuts vs)) x.upper
    && (same_fraction (exact_lower_sum net (deaths vs)) x.lower
    && (same_fraction (death_upper_sum net (deaths vs)) x.death_upper && same_fraction (cut_upper_sum net (cuts vs)) x.cut_upper))

unfoldable pub ExactExamplesAgree : Type 0
ExactExamplesAgree = all example_agrees examples ≡ true
