-- What document 01 says of the cut tree, of refusal 10 and of the grains in words, where the definitions compute: each sentence as a statement, and
-- all of them in one record. The proof is `faithful_tree` (crates/tree/proofs/Faithful.antt). Assumes nothing: these are statements.
use Rattle.std.specs.Prelude.{ℕ, ◌+◌, ◌^◌, ◌≤◌, ◌<◌, ◌≡◌, true, ◌↔◌, length, get_or}
use mathlib.Core.List.{List, ◌∷◌, ◌++◌, Mem, Memᴰ}
use Rattle.fraction.specs.Fraction.{Fraction, ◌≈ᶠ◌, whole, ◌+ᶠ◌}
use Rattle.figure.specs.declared.Figure.{Figure}
use Rattle.figure.specs.Operations.{times_down, of_whole}
use Rattle.word.specs.Model.{Manner, slow, fast, Transition, Net, Limits, Model, exits, has_fast, probability_sum}
use Rattle.word.specs.Answer.{Answer}
use Rattle.model.specs.Reading.{read}
use Rattle.tree.specs.Paths.{Path, last_state, IsPath, class1, class, class1_count}
use Rattle.tree.specs.States.{mission_time, time_squared, sum_over, mean_down}
use Rattle.tree.specs.Grains.{Least, reaches, least}
use Rattle.tree.specs.Lower.{exact}
use Rattle.tree.specs.Tree.{continued, outcome, Visit, tree}
use Rattle.tree.specs.Marked.{MarkedModelsAgree}
use Rattle.tree.specs.Pinned.{PinnedCasesAgree}

-- ---- the paths of the tree

-- "Steps is the number of paths of at least one transition formed so": a path, of at least one transition, whose proper prefixes of at least one
-- transition are all continued. Paths are held with the last step first, so a prefix of p stands at its end.
pub record Formed (net : Net) (limits : Limits) (p : Path) : Type 0 where
  pub non_empty : 1 ≤ length p
  pub is_path : IsPath net p
  pub prefixes : (r q : Path) → p ≡ r ++ q → 1 ≤ length r → 1 ≤ length q → outcome net limits q ≡ continued

-- a visit of the tree: a path that is formed so, with what becomes of it
pub record IsVisit (net : Net) (limits : Limits) (v : Visit) : Type 0 where
  pub formed : Formed net limits v.path
  pub decides : v.outcome ≡ outcome net limits v.path

-- a visit stands in the tree's list exactly if it is one of these
abbrev pub TreeExactly : Type 0
TreeExactly = (net : Net) (limits : Limits) → 1 ≤ limits.step_limit → (v : Visit) → Mem v (tree net limits) ↔ ∥ IsVisit net limits v ∥₁

-- ---- their order

-- x stands earlier in a list than y
pub record Earlier {A : Type 0} (xs : List A) (x y : A) : Type 0 where
  pub front : List A
  pub back : List A
  pub split : xs ≡ front ++ x ∷ back
  pub later : Memᴰ y back

-- q goes on from p by at least one step
pub record GoesOn (p q : Path) : Type 0 where
  pub more : Path
  pub some : 1 ≤ length more
  pub is : q ≡ more ++ p

-- The walk comes to p before q: q goes on from p ("depth first"), or the two part at a path b, where p takes an earlier exit than q ("in table
-- order").
pub data Before (net : Net) (p q : Path) : Type 0 where
  goes_on : GoesOn p q → Before net p q
  parts : (b r s : Path) (t u : Transition) → Earlier (exits net (last_state net b)) t u → p ≡ r ++ t ∷ b → q ≡ s ++ u ∷ b → Before net p q

-- the path at place i of a list of visits; d stands for what lies beyond the list
abbrev pub path_at : List Visit → Visit → ℕ → Path
path_at vs d i = (get_or vs i d).path

-- of two places of the tree's list, the walk comes first to the path at the earlier one
abbrev pub TreeInOrder : Type 0
TreeInOrder = (net : Net) (limits : Limits) (d : Visit) (i j : ℕ) → i < j → j < length (tree net limits)
    → Before net (path_at (tree net limits) d i) (path_at (tree net limits) d j)

-- two places of the tree's list hold two paths
abbrev pub NoPathTwice : Type 0
NoPathTwice = (ws : List ℕ) (budget : ℕ) (m : Model) → read ws budget ≡ Answer.granted m → (d : Visit) (i j : ℕ) → i < j
    → j < length (tree m.net m.limits) → path_at (tree m.net m.limits) d i ≡ path_at (tree m.net m.limits) d j → ⊥

-- ---- probabilities

abbrev pub add_exact_probability : Fraction → Manner → Fraction
add_exact_probability a (slow r) = a
add_exact_probability a (fast m d q) = a +ᶠ exact q

-- the sum of the probabilities of a list of exits
unfoldable pub exact_probability_sum : List Transition → Fraction
exact_probability_sum ts = sum_over add_exact_probability (whole 0) ts

-- "p is .. for kind 10 0 to 12"
abbrev pub FineProbability : Manner → Type 0
FineProbability (slow r) = Unit {0}
FineProbability (fast m d q) = q.scale ≤ 12

-- the sum in whole numbers of 10^-12, which refusal 10 tests, is 10^12 exactly if the sum of the fractions is 1
abbrev pub ProbabilitySum : Type 0
ProbabilitySum = (ts : List Transition) → ((t : Transition) → Memᴰ t ts → FineProbability t.manner)
    → (probability_sum ts ≡ 1000000000000) ↔ (exact_probability_sum ts ≈ᶠ whole 1)

-- in a model that is not refused the probabilities of a state's fast exits sum to exactly 1
abbrev pub ProbabilitiesSumToOne : Type 0
ProbabilitiesSumToOne = (ws : List ℕ) (budget : ℕ) (m : Model) → read ws budget ≡ Answer.granted m → (s : ℕ) → has_fast (exits m.net s) ≡ true
    → exact_probability_sum (exits m.net s) ≈ᶠ whole 1

-- ---- grains

-- the number that is found by halving is the least whose power reaches g, or 1,000,000
abbrev pub LeastIsLeast : Type 0
LeastIsLeast = (e : ℕ) (g : Figure) → Least (reaches e g) 1000000 (least e g)

-- ---- divisors

-- every divisor of the rounded bounds that is not the plain number 2 or 1,000,000 is above zero: k, k + 1, T2, h' × T, n² × T2 and n × T; n is at
-- least 1 by `LeastIsLeast`
pub record DivisorsAbove (m : Model) : Type 0 where
  pub number : (t : Transition) (p : Path) → class m.net t ≡ class1 → 0 < (of_whole (class1_count m.net (t ∷ p))).digits
  pub number_more : (p : Path) → 0 < (of_whole (class1_count m.net p + 1)).digits
  pub time_square : 0 < (time_squared m.net).digits
  pub mean_by_time : (s : ℕ) → has_fast (exits m.net s) ≡ true → 0 < (times_down (mean_down m.net s) (mission_time m.net)).digits
  pub square_by_time : (n : ℕ) → 1 ≤ n → 0 < (times_down (of_whole (n ^ 2)) (time_squared m.net)).digits
  pub grains_by_time : (n : ℕ) → 1 ≤ n → 0 < (times_down (of_whole n) (mission_time m.net)).digits

abbrev pub NoZeroDivisor : Type 0
NoZeroDivisor = (ws : List ℕ) (budget : ℕ) (m : Model) → read ws budget ≡ Answer.granted m → DivisorsAbove m

-- ---- all of it

pub record FaithfulTree : Type 0 where
  -- "Otherwise it is continued by every exit of s", "Steps is the number of paths of at least one transition formed so"
  pub tree_exactly : TreeExactly
  -- "in table order, depth first"
  pub tree_in_order : TreeInOrder
  -- "deaths and cuts are the numbers of ended paths": each is counted once
  pub no_path_twice : NoPathTwice
  -- "a state has fast exits and their probabilities don't sum to exactly 1"
  pub probability_sum_iff : ProbabilitySum
  pub probabilities_sum_to_one : ProbabilitiesSumToOne
  -- "n is the least whole number with n³ at or above g", "n² at or above g", "Either is 1,000,000 if none below it will do"
  pub least_is_least : LeastIsLeast
  -- no quotient of an accepted model is that of a divisor which is not positive, for which the definitions say 0
  pub no_zero_divisor : NoZeroDivisor
  -- "Models A to L are proved as a single list by one claim about the definitions"
  pub marked_models_agree : MarkedModelsAgree
  -- what the exact and the rounded bounds share is what is worked out by hand
  pub pinned_cases_agree : PinnedCasesAgree
