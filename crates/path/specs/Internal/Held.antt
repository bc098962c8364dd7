-- What a walk is lent, as the code holds it. Assumes nothing: these are definitions.
use Rattle.path.specs.declared.prepared.Prepared.{Prepared}
use Rattle.path.specs.Internal.Lent.{Lent, lent}

abbrev pub lent_by : Prepared → Lent
lent_by p = lent p.words.now p.index.now p.table.now
