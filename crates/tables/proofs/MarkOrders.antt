-- The marks that arithmetic counts together, in its order and some of them twice, are those that the definitions count, in theirs. Assumes nothing.
use mathlib.Core.Path.{◌≡◌, refl, ap, ◌∙◌}
use mathlib.Core.Bool.{Bool, true, false, ◌&&◌, and_assoc}

-- g's quotient: M, 2 × M, T2, the division
pub class2_quotient_order : (m t s d : Bool) → ◌≡◌ {A = Bool} ((m && t) && (s && d)) (m && (s && (t && d)))
class2_quotient_order false t s d = refl
class2_quotient_order true false false d = refl
class2_quotient_order true false true d = refl
class2_quotient_order true true s d = refl

-- H, h', h' × T, the division
pub class3_quotient_order : (m h t d : Bool) → ◌≡◌ {A = Bool} (m && ((h && t) && d)) (m && (h && (t && d)))
class3_quotient_order m h t d = ap (λ (k : Bool). m && k) (and_assoc h t d)

-- class 2's loss: E, E × mean, M, n², T2, their product, the division, the sum
class2_loss_order : (e t m w s p d q : Bool)
    → ◌≡◌ {A = Bool} ((e && t) && ((m && ((w && (s && p)) && d)) && q)) (e && (t && (m && (s && (w && (p && (d && q)))))))
class2_loss_order false t m w s p d q = refl
class2_loss_order true false m w s p d q = refl
class2_loss_order true true false w s p d q = refl
class2_loss_order true true true false false p d q = refl
class2_loss_order true true true false true p d q = refl
class2_loss_order true true true true false p d q = refl
class2_loss_order true true true true true false d q = refl
class2_loss_order true true true true true true d q = refl

-- class 3's: E, H, E × H, its half, n × T, the division, the sum
class3_loss_order : (e m t h s d q : Bool)
    → ◌≡◌ {A = Bool} (((e && (m && t)) && h) && ((m && (s && d)) && q)) (e && (m && (t && (h && (s && (d && q))))))
class3_loss_order false m t h s d q = refl
class3_loss_order true false t h s d q = refl
class3_loss_order true true false h s d q = refl
class3_loss_order true true true false s d q = refl
class3_loss_order true true true true s d q = and_assoc s d q

-- class 3's factor: h', the loss, the difference, the product
class3_factor_order : (h l m t : Bool) → ◌≡◌ {A = Bool} ((h && (l && m)) && t) (l && (h && (m && t)))
class3_factor_order false false m t = refl
class3_factor_order false true m t = refl
class3_factor_order true false m t = refl
class3_factor_order true true m t = refl

-- ---- each factor with its loss

pub class2_marks : (e t m w s p d q i u : Bool)
    → ◌≡◌ {A = Bool} ((((e && t) && ((m && ((w && (s && p)) && d)) && q)) && i) && u) ((e && (t && (m && (s && (w && (p && (d && q))))))) && (i && u))
class2_marks e t m w s p d q i u =
    and_assoc ((e && t) && ((m && ((w && (s && p)) && d)) && q)) i u
    ∙ ap (λ (k : Bool). k && (i && u)) (class2_loss_order e t m w s p d q)

pub class3_marks : (e m t f s d q h i u : Bool)
    → ◌≡◌ {A = Bool} ((h && ((((e && (m && t)) && f) && ((m && (s && d)) && q)) && i)) && u)
    ((e && (m && (t && (f && (s && (d && q)))))) && (h && (i && u)))
class3_marks e m t f s d q h i u =
    class3_factor_order h (((e && (m && t)) && f) && ((m && (s && d)) && q)) i u
    ∙ ap (λ (k : Bool). k && (h && (i && u))) (class3_loss_order e m t f s d q)
