-- The part of the words that begins at a place, as a slice of the code has it, and its first word. Assumes nothing.
use Prim.Native.Nat.{ℕ, ◌+◌, ◌-◌}
use mathlib.Core.Path.{◌≡◌, ap, ◌∙◌}
use mathlib.Core.List.{List}
use native.Mathlib.Nat.{add-zero, le_of_eq}
use lib.ListN.{length, get_or, take, drop, length-drop}
use lib.Seq.{get_or-drop, take_all}

-- the part from a place to the end
pub part_from : {A : Type 0} (l : List A) (a : ℕ) → take (length l - a) (drop a l) ≡ drop a l
part_from l a = take_all (length l - a) (drop a l) (le_of_eq (length-drop a l))

-- its first member
pub part_first : (ws : List ℕ) (i : ℕ) → get_or (drop i ws) 0 0 ≡ get_or ws i 0
part_first ws i = get_or-drop i ws 0 0 ∙ rw add-zero

-- its k-th member
pub part_at : (ws : List ℕ) (i k : ℕ) → get_or (take (length ws - i) (drop i ws)) k 0 ≡ get_or ws (i + k) 0
part_at ws i k = ap (λ (l : List ℕ). get_or l k 0) (part_from ws i) ∙ get_or-drop i ws k 0

pub part_word : (ws : List ℕ) (i : ℕ) → get_or (take (length ws - i) (drop i ws)) 0 0 ≡ get_or ws i 0
part_word ws i = ap (λ (l : List ℕ). get_or l 0 0) (part_from ws i) ∙ part_first ws i
