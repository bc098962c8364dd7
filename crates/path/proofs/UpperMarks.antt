-- U with its mark, one step after the other, as the code has it. Assumes nothing.
use Prim.Native.Nat.{ℕ, ◌+◌}
use mathlib.Core.Path.{◌≡◌, refl, sym, ap, ap₂, ◌∙◌}
use mathlib.Core.Bool.{true, ◌&&◌}
use mathlib.Core.List.{[], ◌∷◌}
use native.Mathlib.Nat.{add_comm}
use Rattle.figure.specs.declared.Figure.{Figure}
use Rattle.figure.specs.declared.Rounded.{Rounded}
use Rattle.figure.specs.Operations.{times_up, divided_up, of_whole}
use Rattle.figure.specs.Losses.{told}
use Rattle.word.specs.Model.{Transition, Net}
use Rattle.tree.specs.Paths.{Path, Class, class1, class2, class3, class, counts_1, class1_count}
use Rattle.tree.specs.States.{mission_time, mean_up}
use Rattle.tree.specs.Upper.{share, upper_step, upper}
use Rattle.tree.specs.Marks.{mean_up_kept, upper_step_kept, upper_kept}
use Rattle.tree.proofs.Steps.{class1_count_more, upper_start, upper_more}
use Rattle.path.specs.Internal.Paths.{path_of}
use Rattle.path.specs.Internal.Exits.{upper_by}
use Rattle.path.specs.Internal.Marks.{upper_by_kept}
use Rattle.path.proofs.PathSums.{path_none, ones_none}
use Rattle.path.proofs.Regrouped.{swapped}

pub record UpperSoFar (net : Net) (p : Path) (k : ℕ) (u : Rounded) : Type 0 where
  pub ones_are : k ≡ class1_count net p
  pub upper_is : u ≡ told (upper net p) (upper_kept net p)

pub upper_none : (net : Net) {o : Figure} {u : Rounded} → o ≡ of_whole 1 → u ≡ told o true → UpperSoFar net (path_of net []) 0 u
unfolding upper_kept
upper_none net e h = record { ones_are = sym (ones_none net); upper_is = h ∙ rw (path_none net, upper_start net, e) }

-- one step, of the class c, the k + 1st of class 1 if it is of class 1
module _ (net : Net) (x : Transition) (k : ℕ) (u : Figure) where
  by_step : (c : Class) → upper_by c (of_whole (k + 1)) u (share x.manner) (mean_up net x.from) (mission_time net)
      ≡ upper_step net c (counts_1 c + k) x u
  unfolding upper_by upper_step
  by_step class1 = ap (λ i. divided_up (times_up (times_up u (share x.manner)) (mission_time net)) (of_whole i)) (add_comm k 1)
  by_step class2 = refl
  by_step class3 = refl

  kept_by_step : (c : Class)
      → upper_by_kept c (of_whole (k + 1)) u (share x.manner) (mean_up net x.from) (mean_up_kept net x.from) (mission_time net)
      ≡ upper_step_kept net c (counts_1 c + k) x u
  unfolding upper_by_kept
  kept_by_step class1 = ap (λ i. upper_step_kept net class1 i x u) (add_comm k 1)
  kept_by_step class2 = refl
  kept_by_step class3 = refl

module _ (net : Net) (x : Transition) (p : Path) {k : ℕ} {u : Rounded} (so_far : UpperSoFar net p k u) where
  pub upper_longer : {c : Class} {n t : Figure} {i : ℕ} {r : Rounded} → c ≡ class net x → n ≡ of_whole (k + 1) → t ≡ mission_time net
      → r ≡ told (upper_by c n (upper net p) (share x.manner) (mean_up net x.from) t)
      (upper_kept net p && upper_by_kept c n (upper net p) (share x.manner) (mean_up net x.from) (mean_up_kept net x.from) t)
      → i ≡ counts_1 c → UpperSoFar net (x ∷ p) (k + i) r
  unfolding upper_kept
  upper_longer {c} {n} {t} {i} {r} c-is n_is t-is r-is i-is = record {
    ones_are = rw (i-is, c-is) (add_comm k _) ∙ ones;
    upper_is =
        (rw (c-is, n_is, t-is) at r-is)
        ∙ ap₂ (λ f b. told f (upper_kept net p && b)) (by_step net x k (upper net p) (class net x)) (kept_by_step net x k (upper net p) (class net x))
        ∙ ap (λ j. told (upper_step net (class net x) j x (upper net p)) (upper_kept net p && upper_step_kept net (class net x) j x (upper net p))) ones
        ∙ ap₂ told (sym (upper_more net x p)) (swapped (upper_kept net p) _);
  }
    where
      ones : counts_1 (class net x) + k ≡ class1_count net (x ∷ p)
      ones = ap (λ j. counts_1 (class net x) + j) so_far.ones_are ∙ sym (class1_count_more net x p)
