-- What the walk and its parts are lent. Assumes nothing: these are definitions.
use Rattle.std.specs.Prelude.{ℕ, List}
use Rattle.word.specs.Model.{Net, Limits, Model}
use Rattle.model.specs.declared.index.Index.{Index}
use Rattle.tables.specs.declared.table.Table.{Table}
use Rattle.tables.specs.Internal.Described.{Indexes, described}
use Rattle.tables.specs.Internal.Tables.{Tabled}

-- the words, the index of their exits, and the table of what belongs to a state or to a transition alone
pub record Lent : Type 0 where
  pub words : List ℕ
  pub index : Index
  pub table : Table

abbrev pub lent : List ℕ → Index → Table → Lent
lent words index table = record { words = words; index = index; table = table }

-- the model that the words describe

abbrev pub model_in : Lent → Model
model_in l = described l.words

abbrev pub net_in : Lent → Net
net_in l = (model_in l).net

abbrev pub limits_in : Lent → Limits
limits_in l = (model_in l).limits

-- the words describe a valid model, and the index and the table are its own
pub record Filled (l : Lent) : Type 0 where
  pub indexes : Indexes l.words l.index
  pub tabled : Tabled l.words l.table
