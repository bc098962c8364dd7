-- The definitions are what the documents say of them: the laws of every layer. Assumes nothing.
use Rattle.figure.proofs.Faithful.{faithful_figures}
use Rattle.model.proofs.Numbers.{reason_refuses, refusal_reason}
use Rattle.tree.proofs.Faithful.{faithful_tree}
use Rattle.tree.proofs.RowsFaithful.{faithful_rows}
use Rattle.tree.proofs.MarksFaithful.{faithful_marks}
use Rattle.tree.proofs.NamedFaithful.{faithful_named}
use Rattle.accuracy.proofs.Faithful.{faithful_exact}
use Rattle.bounds.specs.Faithful.{Faithful}

pub faithful : Faithful
faithful = record {
  figures = faithful_figures;
  reason_is_refused = reason_refuses;
  refusal_has_reason = refusal_reason;
  tree = faithful_tree;
  exact = faithful_exact;
  rows = faithful_rows;
  marks = faithful_marks;
  named = faithful_named;
}
