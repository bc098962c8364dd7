-- The search for the least number of grains: what its parts say. No public contract cites this page. Assumes nothing: these are definitions.
use Rattle.std.specs.Prelude.{ℕ, ◌^◌, ◌<◌}
use Rattle.tables.specs.declared.grains.Power.{Power}
use Rattle.tables.specs.declared.grains.Power.TheVariants.{Square, Cube}

-- the power that is to reach g: the cube for class 2, the square for class 3
abbrev pub exponent : Power → ℕ
exponent Cube = 3
exponent Square = 2

-- n is 0, or its power is below c; and n is below 1,000,000
pub record Below (e c n : ℕ) : Type 0 where
  pub bounded : n < 1000000
  pub below : 0 < n → n ^ e < c
