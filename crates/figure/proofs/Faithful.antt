-- The definitions of figures are what document 01 says of them. Assumes nothing.
use Rattle.figure.specs.Faithful.{FaithfulFigures}
use Rattle.figure.proofs.Rounding.{up_is_up, up_unique, down_is_down, down_unique, up_none, down_none}
use Rattle.figure.proofs.Exact.{times_ten_exact, of_whole_exact, of_quantity_exact}
use Rattle.figure.proofs.Losses.{keeps_up, up_kept, keeps_down, down_kept, none_kept, whole_kept, quantity_kept}
use Rattle.figure.proofs.Products.{seventeen_or_eighteen, one_division}
use Rattle.figure.proofs.ProductsPinned.{product_cases_agree}

pub faithful_figures : FaithfulFigures
faithful_figures = record {
  up_is_up = up_is_up;
  up_unique = up_unique;
  down_is_down = down_is_down;
  down_unique = down_unique;
  up_none = up_none;
  down_none = down_none;
  power_of_ten_exact = times_ten_exact;
  whole_exact = of_whole_exact;
  quantity_exact = of_quantity_exact;
  up_keeps = keeps_up;
  up_kept = up_kept;
  down_keeps = keeps_down;
  down_kept = down_kept;
  none_kept = none_kept;
  whole_kept = whole_kept;
  quantity_kept = quantity_kept;
  seventeen_or_eighteen = seventeen_or_eighteen;
  one_division = one_division;
  product_cases = product_cases_agree;
}
