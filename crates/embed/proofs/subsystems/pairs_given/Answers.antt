-- `pairs_given` meets its contract: the closure's calls hand over one pair after the other. Assumes nothing.
use Rattle.std.proofs.Common.{rules}
use Rattle.std.proofs.lemmas.List.FromFn.{fill_by_all}
use Rattle.word.specs.Model.{numbers_from}
use Rattle.orprob.specs.Internal.Parts.{no_pair}
use Rattle.embed.specs.Subsystems.{pair_given, pairs_given}
use Rattle.embed.proofs.Given.{made_at}
use Rattle.embed.proofs.subsystems.pairs_given.Goals as goal

pub returns : goal.returns
unfolding pairs_given numbers_from
returns c =
    fill_by_all (pair_given c.args.digits.now c.args.powers.now) c.from_fn.result 16 no_pair c.from_fn.ensures.items.long
    (made_at _ (pair_given c.args.digits.now c.args.powers.now) (λ i y q called. (search rules, search rules)) c.from_fn.ensures.items no_pair)
