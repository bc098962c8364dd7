-- Document 02, Item 5: products with their divisors, both roundings and whether nothing was lost, cases of other hands; and one claim: that the
-- definitions agree with all of them. Assumes nothing: these are definitions.
use Rattle.std.specs.Prelude.{ℕ, ◌*◌, ◌≡◌, Bool, true, false, List, [], ◌∷◌, map, pos, neg_ℤ}
use Rattle.figure.specs.declared.Figure.{Figure}
use Rattle.figure.specs.Rounding.{figure}
use Rattle.figure.specs.Operations.{times_up, times_down}
use Rattle.figure.specs.Losses.{times_keeps}
use Rattle.figure.specs.Products.{product_divisor, divided_once}

-- two figures; what the product of their digits is divided by, their product rounded up and down, and whether nothing is lost
pub record ProductCase : Type 0 where
  pub first : Figure
  pub second : Figure
  pub divisor : ℕ
  pub up : Figure
  pub down : Figure
  pub kept : Bool

abbrev case : Figure → Figure → ℕ → Figure → Figure → Bool → ProductCase
case a b d u l k = record { first = a; second = b; divisor = d; up = u; down = l; kept = k }

-- `999999999 e 1` is 999,999,999 × 10, and `999999999 e- 8` is 9.99999999
infix 40 ◌e◌ ◌e-◌
abbrev ◌e◌ : ℕ → ℕ → Figure
d e n = figure d (pos n)

abbrev ◌e-◌ : ℕ → ℕ → Figure
d e- n = figure d (neg_ℤ (pos n))

-- ---- the cases

unfoldable pub product_cases : List ProductCase
product_cases =
    -- the least product and the greatest
    case (100000000 e- 8) (100000000 e 0) 100000000 (100000000 e 0) (100000000 e 0) true
    ∷ case (999999999 e- 8) (999999999 e 0) 1000000000 (999999999 e 1) (999999998 e 1) false
    -- 10^17 itself, twice, and the greatest product below it that loses nothing
    ∷ case (200000000 e- 8) (500000000 e 0) 1000000000 (100000000 e 1) (100000000 e 1) true
    ∷ case (125000000 e- 8) (800000000 e 0) 1000000000 (100000000 e 1) (100000000 e 1) true
    ∷ case (100000000 e- 8) (999999999 e 0) 100000000 (999999999 e 0) (999999999 e 0) true
    -- the two figures of model L, and the squares on the two sides of 10^17: the one below it carries on rounding up
    ∷ case (100000001 e- 8) (100000001 e 0) 100000000 (100000003 e 0) (100000002 e 0) false
    ∷ case (316227766 e- 8) (316227766 e 0) 100000000 (100000000 e 1) (999999999 e 0) false
    ∷ case (316227767 e- 8) (316227767 e 0) 1000000000 (100000001 e 1) (100000000 e 1) false
    -- nine digits alone, without and with a carry
    ∷ case (999999999 e- 8) (100000000 e 0) 100000000 (999999999 e 0) (999999999 e 0) true
    ∷ case (333333333 e- 8) (300000000 e 0) 100000000 (999999999 e 0) (999999999 e 0) true
    ∷ case (142857143 e- 8) (699999999 e 0) 100000000 (100000000 e 1) (999999999 e 0) false
    ∷ case (100023757 e- 8) (999762486 e 0) 100000000 (100000000 e 1) (999999999 e 0) false
    ∷ case (100047514 e- 8) (999525085 e 0) 100000000 (100000000 e 1) (999999999 e 0) false
    ∷ case (100071271 e- 8) (999287797 e 0) 100000000 (100000000 e 1) (999999999 e 0) false
    ∷ case (100095028 e- 8) (999050622 e 0) 100000000 (100000000 e 1) (999999999 e 0) false
    ∷ case (100118785 e- 8) (998813559 e 0) 100000000 (100000000 e 1) (999999999 e 0) false
    ∷ case (100142542 e- 8) (998576608 e 0) 100000000 (100000000 e 1) (999999999 e 0) false
    -- powers far from 0, and products of both lengths
    ∷ case (999999999 e 701) (100000000 e 691) 100000000 (999999999 e 1400) (999999999 e 1400) true
    ∷ case (100000000 e 341) (921701834 e 359) 100000000 (921701834 e 708) (921701834 e 708) true
    ∷ case (999999999 e- 462) (100000000 e 205) 100000000 (999999999 e- 249) (999999999 e- 249) true
    ∷ case (712345112 e- 704) (337263457 e 311) 1000000000 (240247976 e- 384) (240247975 e- 384) false
    ∷ case (401982003 e- 255) (100000000 e- 792) 100000000 (401982003 e- 1039) (401982003 e- 1039) true
    ∷ case (861513219 e 158) (100000000 e- 676) 100000000 (861513219 e- 510) (861513219 e- 510) true
    ∷ case (999999999 e 4) (100000000 e 225) 100000000 (999999999 e 237) (999999999 e 237) true
    ∷ case (294118286 e 517) (339999263 e- 661) 1000000000 (100000001 e- 135) (100000000 e- 135) false
    ∷ case (100000000 e- 317) (999999999 e- 802) 100000000 (999999999 e- 1111) (999999999 e- 1111) true
    ∷ case (546504092 e 570) (182981248 e 207) 1000000000 (100000001 e 786) (100000000 e 786) false
    ∷ case (386041542 e 140) (100000000 e 520) 100000000 (386041542 e 668) (386041542 e 668) true
    ∷ case (999999999 e- 230) (100000000 e- 262) 100000000 (999999999 e- 484) (999999999 e- 484) true
    ∷ case (321188492 e- 658) (311343658 e 308) 1000000000 (100000001 e- 341) (100000000 e- 341) false
    ∷ case (100000000 e 404) (999999999 e 401) 100000000 (999999999 e 813) (999999999 e 813) true
    ∷ case (100000000 e 698) (999999999 e- 766) 100000000 (999999999 e- 60) (999999999 e- 60) true
    ∷ case (100000000 e- 709) (212123911 e- 324) 100000000 (212123911 e- 1025) (212123911 e- 1025) true
    ∷ case (100000000 e 154) (100000000 e- 547) 100000000 (100000000 e- 385) (100000000 e- 385) true
    ∷ case (100000000 e- 700) (441755432 e 833) 100000000 (441755432 e 141) (441755432 e 141) true
    ∷ case (999999999 e- 286) (480377170 e 900) 1000000000 (480377170 e 623) (480377169 e 623) false
    ∷ case (999999999 e- 703) (894332021 e- 70) 1000000000 (894332021 e- 764) (894332020 e- 764) false
    ∷ case (100000000 e 1) (999999999 e 10) 100000000 (999999999 e 19) (999999999 e 19) true
    ∷ case (100000000 e 461) (792169009 e- 45) 100000000 (792169009 e 424) (792169009 e 424) true
    ∷ case (999999999 e- 537) (100000000 e- 790) 100000000 (999999999 e- 1319) (999999999 e- 1319) true
    ∷ case (263708233 e- 867) (100000000 e 219) 100000000 (263708233 e- 640) (263708233 e- 640) true
    ∷ case (999999999 e 81) (100000000 e- 525) 100000000 (999999999 e- 436) (999999999 e- 436) true
    ∷ case (100000000 e 656) (742148025 e 159) 100000000 (742148025 e 823) (742148025 e 823) true
    ∷ case (100000000 e- 100) (704166982 e 44) 100000000 (704166982 e- 48) (704166982 e- 48) true
    ∷ case (100000000 e 191) (100000000 e 58) 100000000 (100000000 e 257) (100000000 e 257) true
    ∷ []

-- the same two figures, with all that the definitions say of their product
abbrev pub worked_out : ProductCase → ProductCase
worked_out c = let a = c.first in let b = c.second in
    case a b (product_divisor (a.digits * b.digits)) (times_up a b) (times_down a b) (times_keeps a b)

-- all of it, and the rounding down once more, by the one division
unfoldable pub ProductCasesAgree : Type 0
ProductCasesAgree =
    (map worked_out product_cases ≡ product_cases) × (map (λ c. divided_once c.first c.second) product_cases ≡ map (λ c. c.down) product_cases)
