-- Marks in another order: the code takes that of what came before first, the definitions the step's own. Assumes nothing.
use mathlib.Core.Path.{◌≡◌, refl}
use mathlib.Core.Bool.{Bool, true, false, ◌&&◌}

pub none_more : (a : Bool) → (a && false) ≡ false
none_more true = refl
none_more false = refl

pub all_more : (a : Bool) → (a && true) ≡ a
all_more true = refl
all_more false = refl

pub swapped : (a b : Bool) → (a && b) ≡ (b && a)
swapped true b = sym_true b
  where
    sym_true : (b : Bool) → b ≡ (b && true)
    sym_true true = refl
    sym_true false = refl
swapped false true = refl
swapped false false = refl

pub two : (k a b : Bool) → ((k && a) && b) ≡ (k && (a && b))
two true a b = refl
two false a b = refl

pub three : (k a b c : Bool) → (((k && a) && b) && c) ≡ (k && (a && (b && c)))
three true true b c = refl
three true false b c = refl
three false a b c = refl

-- a mark h of its own comes with the second
pub between : (k a h b : Bool) → ((k && a) && (h && b)) ≡ (k && (h && (a && b)))
between true true h b = refl
between true false true b = refl
between true false false b = refl
between false a h b = refl

pub four : (k m a b c : Bool) → (((k && (m && a)) && b) && c) ≡ (k && (m && (a && (b && c))))
four true true a b c = two a b c
four true false a b c = refl
four false m a b c = refl
