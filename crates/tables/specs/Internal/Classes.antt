-- The class of a step, as the code has it. Assumes nothing: these are definitions.
use Rattle.std.specs.Prelude.{ℕ, zero, suc, Bool, true, false}
use Rattle.tree.specs.Paths as definition
use Rattle.tables.specs.declared.class.Class.{Class}
use Rattle.tables.specs.declared.class.Class.TheVariants.{Class1, Class2, Class3}

-- the definition's class for each case of the code's
abbrev pub class_for : Class → definition.Class
class_for Class1 = definition.class1
class_for Class2 = definition.class2
class_for Class3 = definition.class3

-- the class by whether a transition is fast, and the digits of h
abbrev pub class_by : Bool → ℕ → definition.Class
class_by true d = definition.class2
class_by false zero = definition.class1
class_by false (suc d) = definition.class3

abbrev pub is_class1 : definition.Class → Bool
is_class1 definition.class1 = true
is_class1 definition.class2 = false
is_class1 definition.class3 = false

abbrev pub is_slow : definition.Class → Bool
is_slow definition.class1 = true
is_slow definition.class2 = false
is_slow definition.class3 = true
