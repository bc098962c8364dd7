-- What the code makes of a transition's rate, or of its mean, deviation and probability: figures that nothing was lost of. No public contract cites this
-- page. Assumes nothing: these are definitions.
use Rattle.std.specs.Prelude.{ℕ}
use Rattle.figure.specs.Operands.{Sized}
use Rattle.word.specs.Model.{Manner, slow, fast}
use Rattle.tree.specs.States.{figure_of}
use Rattle.tables.specs.declared.manner.Manner.{Manner as Coded}
use Rattle.tables.specs.declared.manner.Manner.TheVariants.{Slow, Fast}
use Rattle.tables.specs.declared.manner.Spread.{Spread}
use Rattle.tables.specs.Internal.Told.{exact}

abbrev pub manner_of : Manner → Coded
manner_of (slow r) = Slow (exact (figure_of r))
manner_of (fast m d q) = Fast (record { mean = exact (figure_of m); deviation = exact (figure_of d); probability = exact (figure_of q) })

-- each of the three is a figure whose power is at most n from zero
pub record SpreadSized (n : ℕ) (e : Spread) : Type 0 where
  pub mean : Sized 9 n e.mean.figure
  pub deviation : Sized 9 n e.deviation.figure
  pub probability : Sized 9 n e.probability.figure
