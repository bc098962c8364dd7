-- What document 01 says of figures in words, where the definitions compute: each sentence as a statement, and all of them in one record. The proof is
-- `faithful_figures` (crates/figure/proofs/Faithful.antt). K, the number of digits, is w + 1. Assumes nothing: these are statements.
use Rattle.std.specs.Prelude.{◌≡◌, ℕ, suc, ◌^◌, ◌<◌, true, ℤ, pos}
use Rattle.fraction.specs.Fraction.{Fraction, ◌≤ᶠ◌, ◌≈ᶠ◌, whole, ratio, ten, ◌*ᶠ◌}
use Rattle.figure.specs.declared.Figure.{Figure}
use Rattle.figure.specs.Rounding.{none, value, IsUp, IsDown, up, down}
use Rattle.figure.specs.Operations.{times_ten, of_whole, of_quantity}
use Rattle.figure.specs.Losses.{keeps, whole_keeps, quantity_keeps}
use Rattle.figure.specs.Products.{SeventeenOrEighteen, OneDivision}
use Rattle.figure.specs.ProductsPinned.{ProductCasesAgree}

-- ---- the roundings

abbrev pub UpIsUp : Type 0
UpIsUp = (w : ℕ) (x : Fraction) → whole 0 ≤ᶠ x → IsUp (suc w) x (up (suc w) x)

abbrev pub DownIsDown : Type 0
DownIsDown = (w : ℕ) (x : Fraction) → whole 0 ≤ᶠ x → IsDown (suc w) x (down (suc w) x)

-- there is no other

abbrev pub UpUnique : Type 0
UpUnique = (w : ℕ) (x : Fraction) (f g : Figure) → IsUp (suc w) x f → IsUp (suc w) x g → f ≡ g

abbrev pub DownUnique : Type 0
DownUnique = (w : ℕ) (x : Fraction) (f g : Figure) → IsDown (suc w) x f → IsDown (suc w) x g → f ≡ g

-- what is not positive

abbrev pub UpNone : Type 0
UpNone = (K : ℕ) (x : Fraction) → x ≤ᶠ whole 0 → up K x ≡ none

abbrev pub DownNone : Type 0
DownNone = (K : ℕ) (x : Fraction) → x ≤ᶠ whole 0 → down K x ≡ none

-- ---- what loses nothing

abbrev pub PowerOfTenExact : Type 0
PowerOfTenExact = (f : Figure) (p : ℤ) → value (times_ten f p) ≈ᶠ value f *ᶠ ten p

abbrev pub WholeExact : Type 0
WholeExact = (n : ℕ) → n < 10 ^ 9 → value (of_whole n) ≈ᶠ whole n

abbrev pub QuantityExact : Type 0
QuantityExact = (c p : ℕ) → c < 10 ^ 9 → value (of_quantity c p) ≈ᶠ ratio (pos c) (10 ^ p)

-- ---- what a rounding tells (document 02, Item 2)

-- where it loses nothing, the figure is x, whichever way it rounds; and where the figure is x, nothing is lost

abbrev pub UpKeeps : Type 0
UpKeeps = (w : ℕ) (x : Fraction) → whole 0 ≤ᶠ x → keeps (suc w) x ≡ true → value (up (suc w) x) ≈ᶠ x

abbrev pub UpKept : Type 0
UpKept = (w : ℕ) (x : Fraction) → value (up (suc w) x) ≈ᶠ x → keeps (suc w) x ≡ true

abbrev pub DownKeeps : Type 0
DownKeeps = (w : ℕ) (x : Fraction) → whole 0 ≤ᶠ x → keeps (suc w) x ≡ true → value (down (suc w) x) ≈ᶠ x

abbrev pub DownKept : Type 0
DownKept = (w : ℕ) (x : Fraction) → whole 0 ≤ᶠ x → value (down (suc w) x) ≈ᶠ x → keeps (suc w) x ≡ true

-- what is not positive

abbrev pub NoneKept : Type 0
NoneKept = (K : ℕ) (x : Fraction) → x ≤ᶠ whole 0 → keeps K x ≡ true

-- what needs no mark

abbrev pub WholeKept : Type 0
WholeKept = (n : ℕ) → n < 10 ^ 9 → whole_keeps n ≡ true

abbrev pub QuantityKept : Type 0
QuantityKept = (c p : ℕ) → c < 10 ^ 9 → quantity_keeps c p ≡ true

-- ---- all of it

pub record FaithfulFigures : Type 0 where
  -- "Up(x) is the least figure not below x", and the only one
  pub up_is_up : UpIsUp
  pub up_unique : UpUnique
  -- "down(x) the greatest not above", and the only one
  pub down_is_down : DownIsDown
  pub down_unique : DownUnique
  -- "A difference that isn't positive is 0."
  pub up_none : UpNone
  pub down_none : DownNone
  -- "save that a power of ten is exact"
  pub power_of_ten_exact : PowerOfTenExact
  -- whole numbers of up to nine digits, and quantities ("c is 1 to 999,999"), are figures
  pub whole_exact : WholeExact
  pub quantity_exact : QuantityExact
  -- document 02, Item 2: "Each rounding operation shall tell if it lost anything."
  pub up_keeps : UpKeeps
  pub up_kept : UpKept
  pub down_keeps : DownKeeps
  pub down_kept : DownKept
  -- "(setting a difference to 0 loses nothing)"
  pub none_kept : NoneKept
  -- 2, k, k + 1 and n, and a quantity of the table, are figures: making them figures loses nothing
  pub whole_kept : WholeKept
  pub quantity_kept : QuantityKept
  -- document 02, Item 5: "A product of two figures that aren't zero has 17 or 18 digits", and "let there be one division"
  pub seventeen_or_eighteen : SeventeenOrEighteen
  pub one_division : OneDivision
  -- products that were worked out by other hands
  pub product_cases : ProductCasesAgree
