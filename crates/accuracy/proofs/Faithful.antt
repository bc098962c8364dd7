-- The definitions of the exact bounds are what the documents say of them. Assumes nothing.
use Rattle.accuracy.specs.Faithful.{FaithfulExact}
use Rattle.accuracy.proofs.Divisors.{no_zero_exact_divisor}
use Rattle.accuracy.proofs.Examples.{exact_examples_agree}
use Rattle.accuracy.proofs.RowExamples.{exact_rows_agree}
use Rattle.accuracy.proofs.Nameless.{names_keep_upper_sum}

pub faithful_exact : FaithfulExact
faithful_exact = record {
  no_zero_exact_divisor = no_zero_exact_divisor;
  exact_examples_agree = exact_examples_agree;
  exact_rows_agree = exact_rows_agree;
  names_keep_upper_sum = names_keep_upper_sum;
}
