-- The exits of the states 1 to N are the transitions of a table whose transitions leave these states. Assumes nothing.
use Prim.Native.Nat.{ℕ, zero, suc, ◌+◌, ◌≤◌, ◌<◌}
use mathlib.Core.Path.{◌≡◌, refl, ap₂, ◌∙◌}
use mathlib.Core.Bool.{Bool, true, false}
use mathlib.Core.List.{List, [], ◌∷◌}
use native.Mathlib.Omega.{arith}
use native.Mathlib.Decide.{ℕ_discrete}
use native.Mathlib.Nat.{le_of_suc-le-suc}
use lib.Arith.{lt_of_le-ne}
use lib.ListN.{length}
use lib.Dec.{eqb}
use borrow.Author.Tests.{eq-eqb, ne_eqb}
use Rattle.word.specs.Model.{Transition, leaves, only, exits_in}
use Rattle.word.specs.Internal.Lists.{Each}
use Rattle.model.specs.declared.index.Index.{Index}
use Rattle.model.specs.Internal.Valid.{ValidTransition}
use Rattle.word.proofs.Members.{each_monotone}
use Rattle.word.specs.Model.{one_if}
use Rattle.tables.specs.Internal.Described.{Indexes, described, net_of, exit_total}

-- the exits of the states 1 to n
exits_to : List Transition → ℕ → ℕ
exits_to table zero = 0
exits_to table (suc n) = exits_to table n + length (exits_in table (suc n))

-- how many of the numbers 1 to n are a
hits : ℕ → ℕ → ℕ
hits a zero = 0
hits a (suc n) = hits a n + one_if (eqb a (suc n))

hits_none : (a n : ℕ) → n < a → hits a n ≡ 0
unfolding hits
hits_none a zero h = refl
hits_none a (suc n) h = ap₂ (λ x b. x + one_if b) (hits_none a n (omega arith)) (ne_eqb a (suc n) (λ e. absurd (omega arith)))

hits_one : (a n : ℕ) → 1 ≤ a → a ≤ n → hits a n ≡ 1
unfolding hits
hits_one a zero p q = absurd (omega arith)
hits_one a (suc n) p q = go (ℕ_discrete a (suc n)) (hits_one a n p)
  where
    go : Dec (a ≡ suc n) → (a ≤ n → hits a n ≡ 1) → hits a n + one_if (eqb a (suc n)) ≡ 1
    go (yes e) before = ap₂ (λ x b. x + one_if b) (hits_none a n (omega arith)) (eq-eqb a (suc n) e)
    go (no e) before = ap₂ (λ x b. x + one_if b) (before (le_of_suc-le-suc (lt_of_le-ne q e))) (ne_eqb a (suc n) e)

more_length : (t : Transition) (ts : List Transition) (s : ℕ) → length (exits_in (t ∷ ts) s) ≡ one_if (eqb t.from s) + length (exits_in ts s)
unfolding exits_in only
more_length t ts s = go (eqb t.from s)
  where
    go : (b : Bool)
        → length {A = Transition} (elim b as (λ _. List Transition) [ true ↦ t ∷ only (leaves s) ts | false ↦ only (leaves s) ts ])
        ≡ one_if b + length (only (leaves s) ts)
    go true = omega arith
    go false = omega arith

more_exits : (t : Transition) (ts : List Transition) (n : ℕ) → exits_to (t ∷ ts) n ≡ hits t.from n + exits_to ts n
unfolding exits_to hits
more_exits t ts zero = refl
more_exits t ts (suc n) = omega (arith, more_exits t ts n, more_length t ts (suc n))

no_exits : (n : ℕ) → exits_to [] n ≡ 0
unfolding exits_to exits_in only
no_exits zero = refl
no_exits (suc n) = omega (arith, no_exits n)

all_exits : (n : ℕ) (table : List Transition) → Each (λ t. (1 ≤ t.from) × (t.from ≤ n)) table → exits_to table n ≡ length table
unfolding Each
all_exits n [] h = no_exits n
all_exits n (t ∷ ts) h = omega (arith, more_exits t ts n, hits_one t.from n h.0.0 h.0.1, all_exits n ts h.1)

module _ {ws : List ℕ} {index : Index} (ready : Indexes ws index) where
  sums : (n : ℕ) → n ≤ 1000 → exit_total index n ≡ exits_to (net_of ws).table n
  unfolding exit_total exits_to
  sums zero h = refl
  sums (suc n) h = omega (arith, sums n (omega arith), ready.indexed.counts_are (suc n) h)

  -- the sum of the states' numbers of exits is the number of transitions
  pub count_is : exit_total index (described ws).states ≡ length (net_of ws).table
  count_is =
      sums (described ws).states ready.valid.states_high
      ∙ all_exits (described ws).states (net_of ws).table
      (each_monotone (ValidTransition (described ws).states) (λ t. (1 ≤ t.from) × (t.from ≤ (described ws).states))
      (λ t v. (v.from_low, v.from_high)) (net_of ws).table ready.valid.table)
