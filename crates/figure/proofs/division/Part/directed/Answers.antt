-- `Part::directed` meets its contract. Assumes nothing.
use mathlib.Core.Path.{◌≡◌}
use borrow.Author.Rules.{rules}
use Rattle.figure.specs.declared.Direction.TheVariants.{Up}
use Rattle.figure.specs.Internal.Steps.{digits_of}
use Rattle.figure.proofs.Parts.{directed_more, directed_exact, directed_down}
use Rattle.figure.proofs.division.Part.directed.Goals as goal
use Rattle.figure.proofs.division.Part.directed.Goals.{else-eq-via-then-eq+else-self, else-eq-via-else-eq}

pub returns-then-self : goal.returns-then-self
returns-then-self c =
    let up : c.args.to ≡ Up = search rules in
    directed_more c.args.power c.requires.1 c.args.to (digits_of c.args.width) c.args.self up c.if-self.true c.carried.ensures

pub returns : goal.returns
returns c = elim c.else-eq.branch [
  | else-eq-via-then-eq+else-self w ↦ directed_exact c.args.power c.requires.1 c.args.to (digits_of c.args.width) c.args.self w.if-self.false
  | else-eq-via-else-eq w ↦ let not_up : c.args.to ≡ Up → ⊥ = search rules in
      directed_down c.args.power c.requires.1 c.args.to (digits_of c.args.width) c.args.self not_up
]
