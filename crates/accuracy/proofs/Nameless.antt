-- The exact upper sum does not look at which states are named: a path that ends in one is a cut instead of a death, with the same upper. Assumes nothing.
use mathlib.Core.Path.{◌≡◌, refl, ap, ap₂, ◌∙◌, subst, sym}
use mathlib.Core.List.{List, [], ◌∷◌, ◌++◌, map}
use Rattle.fraction.specs.Fraction.{Fraction, ◌≈ᶠ◌, ◌+ᶠ◌, ◌*ᶠ◌}
use Rattle.fraction.proofs.Laws.{≈ᶠ_refl, ≈ᶠ_sym, ≈ᶠ_trans, +ᶠ_comm, +ᶠ_assoc, +ᶠ_cong}
use Rattle.word.specs.Model.{Transition, Net}
use Rattle.model.proofs.ReadValid.{read_valid}
use Rattle.tree.specs.Paths.{Path, Class, class1, class2, class3, class}
use Rattle.tree.specs.Lower.{exact}
use Rattle.tree.specs.Tree.{Outcome, generators_state, death, entered_too_often, step_limit, low_level, continued, Visit, paths, tree, deaths, cuts}
use Rattle.tree.specs.NamedFaithful.{nameless, nameless_visit}
use Rattle.tree.proofs.Nameless.{nameless_count, nameless_tree}
use Rattle.accuracy.specs.States.{exact_mean}
use Rattle.accuracy.specs.Bounds.{product, power_over_factorial, class1_rate, class1_rates, upper_factor, upper_factors, exact_upper}
use Rattle.accuracy.specs.Rule.{sum_of, exact_upper_sum}
use Rattle.accuracy.specs.Faithful.{NamesKeepUpperSum}

-- ---- the exact upper of a path

module _ (net : Net) where
  nameless_rates : (p : Path) → class1_rates (nameless net) p ≡ class1_rates net p
  unfolding class1_rates class
  nameless_rates [] = refl
  nameless_rates (t ∷ p) = ap (λ xs. class1_rate (class net t) t.manner ++ xs) (nameless_rates p)

  nameless_factor : (c : Class) (t : Transition) → upper_factor (nameless net) c t ≡ upper_factor net c t
  unfolding exact_mean
  nameless_factor class1 t = refl
  nameless_factor class2 t = refl
  nameless_factor class3 t = refl

  nameless_factors : (p : Path) → upper_factors (nameless net) p ≡ upper_factors net p
  unfolding upper_factors class
  nameless_factors [] = refl
  nameless_factors (t ∷ p) = ap₂ ◌++◌ (nameless_factor (class net t) t) (nameless_factors p)

  nameless_exact : (p : Path) → exact_upper (nameless net) p ≡ exact_upper net p
  unfolding exact_upper
  nameless_exact p =
      λ i. product (nameless_rates p i) *ᶠ power_over_factorial (exact net.time) (nameless_count net p i) *ᶠ product (nameless_factors p i)

-- ---- sums

sum_of_same : (f g : Path → Fraction) → ((p : Path) → f p ≡ g p) → (ps : List Path) → sum_of f ps ≡ sum_of g ps
unfolding sum_of
sum_of_same f g h [] = refl
sum_of_same f g h (p ∷ ps) = ap₂ ◌+ᶠ◌ (h p) (sum_of_same f g h ps)

-- one more among the first or among the second
first_more : (x d c e b : Fraction) → d +ᶠ c ≈ᶠ e +ᶠ b → x +ᶠ d +ᶠ c ≈ᶠ x +ᶠ e +ᶠ b
first_more x d c e b h = ≈ᶠ_trans (+ᶠ_assoc x d c) (≈ᶠ_trans (+ᶠ_cong (≈ᶠ_refl x) h) (≈ᶠ_sym (+ᶠ_assoc x e b)))

first_second : (x d c : Fraction) → x +ᶠ d +ᶠ c ≈ᶠ d +ᶠ (x +ᶠ c)
first_second x d c = ≈ᶠ_trans (+ᶠ_cong (+ᶠ_comm x d) (≈ᶠ_refl c)) (+ᶠ_assoc d x c)

second_more : (x d c e b : Fraction) → d +ᶠ c ≈ᶠ e +ᶠ b → d +ᶠ (x +ᶠ c) ≈ᶠ e +ᶠ (x +ᶠ b)
second_more x d c e b h = ≈ᶠ_trans (≈ᶠ_sym (first_second x d c)) (≈ᶠ_trans (first_more x d c e b h) (first_second x e b))

module _ (f : Path → Fraction) where
  abbrev both : List Visit → Fraction
  both vs = sum_of f (deaths vs) +ᶠ sum_of f (cuts vs)

  -- one visit more, by what becomes of its path
  both_more : (o : Outcome) (p : Path) (vs : List Visit) → both (map nameless_visit vs) ≈ᶠ both vs
      → both (nameless_visit (record { path = p; outcome = o }) ∷ map nameless_visit vs) ≈ᶠ both (record { path = p; outcome = o } ∷ vs)
  unfolding paths sum_of
  both_more generators_state p vs h = ≈ᶠ_trans (first_more (f p) _ _ _ _ h) (first_second (f p) _ _)
  both_more death p vs h = first_more (f p) _ _ _ _ h
  both_more entered_too_often p vs h = second_more (f p) _ _ _ _ h
  both_more step_limit p vs h = second_more (f p) _ _ _ _ h
  both_more low_level p vs h = second_more (f p) _ _ _ _ h
  both_more continued p vs h = h

  both_nameless : (vs : List Visit) → both (map nameless_visit vs) ≈ᶠ both vs
  both_nameless [] = ≈ᶠ_refl (both [])
  both_nameless (v ∷ vs) = both_more v.outcome v.path vs (both_nameless vs)

pub names_keep_upper_sum : NamesKeepUpperSum
unfolding exact_upper_sum
names_keep_upper_sum ws budget m e =
    let vs : List Visit = tree m.net m.limits in
    let us : List Visit = tree (nameless m.net) m.limits in
    let same : us ≡ map nameless_visit vs = nameless_tree m.net m.limits (read_valid ws budget m e).named_end in
    let sums : both (exact_upper (nameless m.net)) us ≡ both (exact_upper m.net) (map nameless_visit vs) =
    ap₂ ◌+ᶠ◌ (sum_of_same _ _ (nameless_exact m.net) (deaths us)) (sum_of_same _ _ (nameless_exact m.net) (cuts us))
    ∙ ap (both (exact_upper m.net)) same in
    subst (λ x. x ≈ᶠ both (exact_upper m.net) vs) (sym sums) (both_nameless (exact_upper m.net) vs)
