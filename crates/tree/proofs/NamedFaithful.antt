-- The definitions of the generator's states are what document 02 says of them. Assumes nothing.
use Prim.Native.Nat.{ℕ}
use mathlib.Core.Path.{◌≡◌, refl, sym, ap, ◌∙◌}
use mathlib.Core.Bool.{Bool, true, false, false≢true}
use native.Mathlib.Omega.{arith}
use Rattle.word.specs.Model.{exits}
use Rattle.word.proofs.Members.{each_member}
use Rattle.model.proofs.ReadValid.{read_valid}
use Rattle.model.proofs.NamedPinned.{named_readings_agree}
use Rattle.tree.specs.Tree.{generators_state, is_cut, is_death}
use Rattle.tree.specs.NamedFaithful.{OutcomeOfNamed, NamedIsCut, NamedIsNoDeath, NamedHasNoExits, NamesOnlyCut, FaithfulNamed}
use Rattle.tree.specs.Internal.Outcomes.{decided}
use Rattle.tree.proofs.Outcomes.{outcome_decided}
use Rattle.tree.proofs.Visits.{TreeVisit, tree_sound}
use Rattle.tree.proofs.Ended.{InTree, paths_in_tree}
use Rattle.tree.proofs.RowStates.{is_empty_nil, death_decided}
use Rattle.tree.proofs.Nameless.{nameless_tree}
use Rattle.tree.proofs.NamedPinned.{named_cases_agree}

decided_named : (n a b c d : Bool) → decided n a b c d ≡ generators_state → n ≡ true
unfolding decided
decided_named true a b c d e = refl
decided_named false true b c d e = let z : ◌≡◌ {A = ℕ} 0 1 = cc in absurd (omega arith)
decided_named false false true c d e = let z : ◌≡◌ {A = ℕ} 0 1 = cc in absurd (omega arith)
decided_named false false false true d e = let z : ◌≡◌ {A = ℕ} 0 1 = cc in absurd (omega arith)
decided_named false false false false true e = let z : ◌≡◌ {A = ℕ} 0 1 = cc in absurd (omega arith)
decided_named false false false false false e = let z : ◌≡◌ {A = ℕ} 0 1 = cc in absurd (omega arith)

named_decided : (n a b c d : Bool) → n ≡ true → decided n a b c d ≡ generators_state
unfolding decided
named_decided true a b c d e = refl
named_decided false a b c d e = absurd (false≢true e)

outcome_of_named : OutcomeOfNamed
outcome_of_named net limits p = (
  λ e. decided_named _ _ _ _ _ (sym (outcome_decided net limits p) ∙ e),
  λ e. outcome_decided net limits p ∙ named_decided _ _ _ _ _ e,
)

named_is_cut : NamedIsCut
named_is_cut net limits v k e =
    ap is_cut ((each_member (TreeVisit net limits) k (tree_sound net limits)).is_visit.decides ∙ (outcome_of_named net limits v.path).1 e)

named_is_no_death : NamedIsNoDeath
named_is_no_death net limits p k =
    let h = each_member (InTree net limits is_death) k (paths_in_tree net limits is_death) in
    (death_decided _ _ _ _ _ (ap is_death (sym (outcome_decided net limits p)) ∙ h.passes)).0

named_has_no_exits : NamedHasNoExits
named_has_no_exits ws budget m e s named = is_empty_nil (exits m.net s) ((read_valid ws budget m e).named_end s named)

names_only_cut : NamesOnlyCut
names_only_cut ws budget m e limits = nameless_tree m.net limits (read_valid ws budget m e).named_end

pub faithful_named : FaithfulNamed
faithful_named = record {
  outcome_of_named = outcome_of_named;
  named_is_cut = named_is_cut;
  named_is_no_death = named_is_no_death;
  named_has_no_exits = named_has_no_exits;
  names_only_cut = names_only_cut;
  named_readings_agree = named_readings_agree;
  named_cases_agree = named_cases_agree;
}
