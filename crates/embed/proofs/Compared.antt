-- Whether two numbers are a figure, as the code tests it, and what is answered for two that are and for one that is not. Assumes nothing.
use Prim.Native.Nat.{ℕ}
use mathlib.Core.Path.{◌≡◌, sym, ◌∙◌}
use mathlib.Core.Bool.{Bool, true, false}
use lib.IntN.{ℤ}
use mir.Syntax.{w32}
use mir.Val.{SFits, to_z, of_z}
use mir.Facts.{to_z-of_z}
use Rattle.std.specs.Int.{from_bool}
use Rattle.figure.specs.declared.Figure.{Figure}
use Rattle.figure.specs.Rounding.{figure, IsFigure}
use Rattle.figure.specs.Operations.{at_or_below}
use Rattle.figure.specs.Tested.{figure_test}
use Rattle.figure.proofs.Tested.{tested}
use Rattle.embed.specs.Exports.{compared, Compared}

-- ---- a power as the code hands it on, read back from its 32 bits

abbrev stored : ℤ → ℤ
stored p = to_z w32 (of_z w32 p)

module _ (d : ℕ) (p : ℤ) (f : SFits w32 p) where
  pub told : {r : Bool} (t : Bool) → r ≡ figure_test (figure d (stored p)) → r ≡ t → figure_test (figure d p) ≡ t
  told t e k = sym (rw (to_z-of_z f) at e) ∙ k

  pub told_figure : {r : Bool} → r ≡ figure_test (figure d (stored p)) → r ≡ true → IsFigure 9 (figure d (stored p))
  told_figure e k = (tested (figure d (stored p))).held (sym e ∙ k)

pub told_order : (d : ℕ) (p : ℤ) (e : ℕ) (q : ℤ) → SFits w32 p → SFits w32 q → {r : Bool} (t : Bool)
    → r ≡ at_or_below (figure d (stored p)) (figure e (stored q)) → r ≡ t → at_or_below (figure d p) (figure e q) ≡ t
told_order d p e q f g t o k = sym (rw (to_z-of_z f, to_z-of_z g) at o) ∙ k

-- ---- what is answered

module _ (a b : Figure) where
  pub no_first : figure_test a ≡ false → Compared a b 2
  unfolding compared
  no_first h = record { answer_is = rw (h, compared); first_tested = tested a; second_tested = tested b }

  pub no_second : figure_test a ≡ true → figure_test b ≡ false → Compared a b 2
  unfolding compared
  no_second h k = record { answer_is = rw (h, k, compared); first_tested = tested a; second_tested = tested b }

  below : figure_test a ≡ true → figure_test b ≡ true → at_or_below a b ≡ true → Compared a b 1
  unfolding compared
  below h k t = record { answer_is = rw (h, k, t, compared); first_tested = tested a; second_tested = tested b }

  above : figure_test a ≡ true → figure_test b ≡ true → at_or_below a b ≡ false → Compared a b 0
  unfolding compared
  above h k t = record { answer_is = rw (h, k, t, compared); first_tested = tested a; second_tested = tested b }

  -- the comparison as a number
  pub both : (t : Bool) {n : ℕ} → figure_test a ≡ true → figure_test b ≡ true → at_or_below a b ≡ t → n ≡ from_bool t → Compared a b n
  both true h k o e = rw e (below h k o)
  both false h k o e = rw e (above h k o)
