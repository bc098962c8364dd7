-- Document 01, "The model words", and document 02, Item 3: the fields of a word. A word is a number below 2^32. Assumes nothing: these are definitions.
use Rattle.std.specs.Prelude.{ℕ, suc, ◌-◌, ◌/◌, ◌%◌, ◌^◌}
use Rattle.word.specs.declared.Quantity.{Quantity}

-- bits hi down to lo
abbrev pub bits : ℕ → ℕ → ℕ → ℕ
bits hi lo w = w / 2 ^ lo % 2 ^ (suc hi - lo)

-- "Bits 31 to 28 are the kind."
abbrev pub kind : ℕ → ℕ
kind w = bits 31 28 w

-- ---- the head: "bits 27..24 edition (1); bits 23..12 number of states N, 1 to 1,000; bits 11..0 start state, 1 to N"

abbrev pub edition_field : ℕ → ℕ
edition_field w = bits 27 24 w

abbrev pub states_field : ℕ → ℕ
states_field w = bits 23 12 w

abbrev pub start_field : ℕ → ℕ
start_field w = bits 11 0 w

-- ---- the caps: "bits 27..20 step limit L, 1 to 24; bits 19..12 entry limit V, 1 to 24; the rest zero"

abbrev pub step_limit_field : ℕ → ℕ
step_limit_field w = bits 27 20 w

abbrev pub entry_limit_field : ℕ → ℕ
entry_limit_field w = bits 19 12 w

abbrev pub caps_rest : ℕ → ℕ
caps_rest w = bits 11 0 w

-- ---- a generator's state: "Kind 12 words .., bits 11..0 a state, the other 16 of the body zero"

abbrev pub named_field : ℕ → ℕ
named_field w = bits 11 0 w

abbrev pub named_rest : ℕ → ℕ
named_rest w = bits 27 12 w

-- ---- a transition: "bits 27..24 zero, 23..12 from, 11..0 to"

abbrev pub transition_rest : ℕ → ℕ
transition_rest w = bits 27 24 w

abbrev pub from_field : ℕ → ℕ
from_field w = bits 23 12 w

abbrev pub to_field : ℕ → ℕ
to_field w = bits 11 0 w

-- ---- the end: "other bits zero"

abbrev pub end_rest : ℕ → ℕ
end_rest w = bits 27 0 w

-- ---- a quantity: "its scale p in bits 27..20 and its coefficient c in bits 19..0"

abbrev pub scale_field : ℕ → ℕ
scale_field w = bits 27 20 w

abbrev pub coefficient_field : ℕ → ℕ
coefficient_field w = bits 19 0 w

abbrev pub quantity : ℕ → Quantity
quantity w = record { coefficient = coefficient_field w; scale = scale_field w }
