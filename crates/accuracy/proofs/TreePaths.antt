-- The ended paths of a valid model's cut tree: their steps are exits of the model, at most 24, so their uppers are near and their lowers short. Hence
-- the accuracy rule of any lists of such paths, for any grains and then for document 01's, and that of the report on the tree. Assumes nothing.
use mathlib.Core.Bool.{Bool}
use mathlib.Core.HLevel.{×_prop}
use mathlib.Core.Logic.{∥∥₁_elim}
use mathlib.Core.List.{List, [], ◌∷◌, Memᴰ}
use Prim.Native.Nat.{ℕ, ◌≤◌}
use native.Mathlib.Bridge.{le_prop}
use native.Mathlib.Omega.{arith}
use lib.Dec.{lit≤}
use lib.ListN.{length}
use Rattle.figure.specs.Operations.{to_nine_up, to_nine_down, sum_to_nine_up}
use Rattle.word.specs.declared.Quantity.{Quantity}
use Rattle.word.specs.Model.{Manner, slow, fast, Transition, Net, Model, exits}
use Rattle.word.specs.Internal.Lists.{Each}
use Rattle.model.specs.Internal.Valid.{InRange, ValidManner, Valid}
use Rattle.word.proofs.Members.{each_member, each_monotone, each_of_members}
use Rattle.tree.specs.Paths.{Path, last_state, IsPath, Class, class1, class2, class3, class}
use Rattle.tree.specs.Upper.{upper}
use Rattle.tree.specs.Grains.{grains}
use Rattle.tree.specs.Lower.{lower_with, lower}
use Rattle.tree.specs.Tree.{Outcome, Visit, tree, paths, deaths, cuts}
use Rattle.tree.specs.Report.{report_of, report_on}
use Rattle.tree.proofs.Positive.{ValidSteps, exits_valid}
use Rattle.tree.proofs.Least.{GrainsOf, grains_of_class}
use Rattle.tree.proofs.Ended.{ended_at_most, InTree, paths_in_tree}
use Rattle.accuracy.specs.Bounds.{exact_upper, exact_lower_with, exact_lower}
use Rattle.accuracy.specs.Rule.{Accurate}
use Rattle.accuracy.proofs.Totals.{total_of_uppers, total_of_lowers}
use Rattle.accuracy.proofs.EndedPaths.{NearTo, near_to, ShortOf, short_of, AccurateSums, sums_accurate, report_accurate}
use Rattle.accuracy.proofs.ExactUpper.{exact_upper_is}
use Rattle.accuracy.proofs.ExactLower.{exact_lower_is}
use Rattle.accuracy.proofs.PathUpper.{upper_near}
use Rattle.accuracy.proofs.PathLower.{Grained, GrainedSteps, lower_short}

-- ---- the steps of a path are exits, so their quantities are in range

in_range_prop : {least most : ℕ} {q : Quantity} → IsProp (InRange least most q)
in_range_prop a b = λ i. record { low = le_prop a.low b.low i; high = le_prop a.high b.high i; scale = le_prop a.scale b.scale i }

valid_manner_prop : (x : Manner) → IsProp (ValidManner x)
unfolding ValidManner
valid_manner_prop (slow r) = in_range_prop
valid_manner_prop (fast m d q) = ×_prop in_range_prop (×_prop in_range_prop in_range_prop)

pub path_valid : {m : Model} → Valid m → (p : Path) → IsPath m.net p → ValidSteps p
unfolding IsPath Each
path_valid valid [] h = tt
path_valid {m} valid (t ∷ p) h = (∥∥₁_elim h.0 (valid_manner_prop t.manner) (exit_valid (last_state m.net p) t), path_valid valid p h.1)
  where
    exit_valid : (s : ℕ) (t : Transition) → Memᴰ t (exits m.net s) → ValidManner t.manner
    exit_valid s t k = each_member (λ x. ValidManner x.manner) k (exits_valid valid s)

module _ {m : Model} (valid : Valid m) where
  abbrev net : Net
  net = m.net

  abbrev visits : List Visit
  visits = tree net m.limits

  -- ---- the ended paths

  pub record Good (p : Path) : Type 0 where
    steps : ValidSteps p
    few : length p ≤ 24

  pub ended_good : (test : Outcome → Bool) → Each Good (paths test visits)
  ended_good test = each_monotone (InTree net m.limits test) Good
      (λ p h. record { steps = path_valid valid p h.formed.is_path; few = omega (arith, h.deep, valid.steps_high) })
      (paths test visits) (paths_in_tree net m.limits test)

  -- ---- any paths that are good

  uppers_near : (ps : List Path) → Each Good ps → Each (λ p. NearTo 456 (upper net p) (exact_upper net p)) ps
  uppers_near = each_monotone Good _ (λ p h. near_to (exact_upper_is net p) (upper_near valid p h.steps h.few))

  -- any grains: g gives those of the steps of a path and may look at the whole path; each class 2 or 3 step has at least one
  module _ (g : Path → Transition → ℕ) (grained : (p : Path) → GrainedSteps net (g p) p) where
    lowers_short : (ps : List Path) → Each Good ps
        → Each (λ p. ShortOf 1500 (lower_with net (g p) p) (exact_lower_with net (g p) p) (exact_upper net p)) ps
    lowers_short = each_monotone Good _ (λ p h. short_of (exact_lower_is net (g p) p) (exact_upper_is net p)
        (lower_short valid (g p) p h.steps (grained p) h.few))

    pub any_grains_accurate : (ds cs : List Path) → Each Good ds → Each Good cs → length ds ≤ 1000000 → length cs ≤ 1000000
        → AccurateSums (exact_upper net) (λ p. exact_lower_with net (g p) p) ds cs
        (sum_to_nine_up (total_of_uppers (upper net) ds) (total_of_uppers (upper net) cs))
        (to_nine_down (total_of_lowers (λ p. lower_with net (g p) p) ds)) (to_nine_up (total_of_uppers (upper net) cs))
    any_grains_accurate ds cs good-ds good-cs few-ds few-cs =
        sums_accurate (exact_upper net) (λ p. exact_lower_with net (g p) p) (upper net) (λ p. lower_with net (g p) p)
        456 1500 (lit≤ tt) (lit≤ tt) ds cs few-ds few-cs (uppers_near ds good-ds) (uppers_near cs good-cs) (lowers_short ds good-ds)

  -- ---- document 01's grains

  grains_grained : (p : Path) → GrainedSteps net (grains net p) p
  grains_grained p = each_of_members (λ x. Grained (class net x) (grains net p x)) p
      (λ x _. go (class net x) (grains net p x) (grains_of_class net p x))
    where
      go : (c : Class) (n : ℕ) → GrainsOf c n → Grained c n
      go class1 n h = tt
      go class2 n h = h.0
      go class3 n h = h.0

  pub paths_accurate : (ds cs : List Path) (steps : ℕ) → Each Good ds → Each Good cs → length ds ≤ 1000000 → length cs ≤ 1000000
      → Accurate net ds cs (report_of net ds cs steps)
  unfolding lower exact_lower
  paths_accurate ds cs steps good-ds good-cs few-ds few-cs =
      report_accurate net ds cs steps (any_grains_accurate (grains net) grains_grained ds cs good-ds good-cs few-ds few-cs)

  pub tree_accurate : length visits ≤ 1000000 → Accurate net (deaths visits) (cuts visits) (report_on net visits)
  unfolding report_on
  tree_accurate few =
      paths_accurate (deaths visits) (cuts visits) (length visits) (ended_good _) (ended_good _)
      (omega (arith, ended_at_most visits)) (omega (arith, ended_at_most visits))
