-- The definitions of the tree, of refusal 10 and of the grains are what document 01 says of them. Assumes nothing.
use Rattle.tree.specs.Faithful.{FaithfulTree}
use Rattle.tree.proofs.Visits.{tree_exactly}
use Rattle.tree.proofs.Order.{tree_in_order, no_path_twice}
use Rattle.tree.proofs.Probabilities.{probability_sum_iff, probabilities_sum_to_one}
use Rattle.tree.proofs.Least.{least_is_least}
use Rattle.tree.proofs.Divisors.{no_zero_divisor}
use Rattle.tree.proofs.Marked.{marked_models_agree}
use Rattle.tree.proofs.Pinned.{pinned_cases_agree}

pub faithful_tree : FaithfulTree
faithful_tree = record {
  tree_exactly = tree_exactly;
  tree_in_order = tree_in_order;
  no_path_twice = no_path_twice;
  probability_sum_iff = probability_sum_iff;
  probabilities_sum_to_one = probabilities_sum_to_one;
  least_is_least = least_is_least;
  no_zero_divisor = no_zero_divisor;
  marked_models_agree = marked_models_agree;
  pinned_cases_agree = pinned_cases_agree;
}
