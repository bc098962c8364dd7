-- What document 02, Item 3, "States that the generator pruned", says of these states in words, where the definitions compute: each as a
-- statement, and all of them in one record. That such a state has no row is in RowsFaithful; when the words that name it are refused, in Reasons of
-- crates/model. The proof is `faithful_named` (crates/tree/proofs/NamedFaithful.antt). Assumes nothing: these are statements.
use Rattle.std.specs.Prelude.{ℕ, ◌≡◌, true, false, ◌↔◌}
use mathlib.Core.List.{List, [], Memᴰ, map}
use Rattle.word.specs.Model.{Net, Limits, Model, is_named, exits}
use Rattle.word.specs.Answer.{Answer}
use Rattle.model.specs.Reading.{read}
use Rattle.model.specs.NamedPinned.{NamedReadingsAgree}
use Rattle.tree.specs.Paths.{Path, last_state}
use Rattle.tree.specs.Tree.{Outcome, generators_state, death, entered_too_often, step_limit, low_level, continued, outcome, is_cut, Visit, tree, deaths}
use Rattle.tree.specs.NamedPinned.{NamedCasesAgree}

-- a path has that outcome exactly if it ends in a generator's state, whatever the other tests say of it
abbrev pub OutcomeOfNamed : Type 0
OutcomeOfNamed = (net : Net) (limits : Limits) (p : Path) → (outcome net limits p ≡ generators_state) ↔ (is_named net (last_state net p) ≡ true)

-- a visit of the tree whose path ends in such a state is one of its cuts
abbrev pub NamedIsCut : Type 0
NamedIsCut = (net : Net) (limits : Limits) (v : Visit) → Memᴰ v (tree net limits) → is_named net (last_state net v.path) ≡ true
    → is_cut v.outcome ≡ true

-- no death path, of which alone the lower figure is a sum, ends in such a state
abbrev pub NamedIsNoDeath : Type 0
NamedIsNoDeath = (net : Net) (limits : Limits) (p : Path) → Memᴰ p (deaths (tree net limits)) → is_named net (last_state net p) ≡ false

-- in a model that is not refused such a state has no exits, so that no path goes on beyond it
abbrev pub NamedHasNoExits : Type 0
NamedHasNoExits = (ws : List ℕ) (budget : ℕ) (m : Model) → read ws budget ≡ Answer.granted m → (s : ℕ) → is_named m.net s ≡ true
    → exits m.net s ≡ []

-- ---- what naming changes

-- the same net with no state named
abbrev pub nameless : Net → Net
nameless net = record { start = net.start; time = net.time; named = []; table = net.table }

-- what becomes of a path in it: where the state that it ends in was named, it is a death
abbrev pub nameless_outcome : Outcome → Outcome
nameless_outcome generators_state = death
nameless_outcome death = death
nameless_outcome entered_too_often = entered_too_often
nameless_outcome step_limit = step_limit
nameless_outcome low_level = low_level
nameless_outcome continued = continued

abbrev pub nameless_visit : Visit → Visit
nameless_visit v = record { path = v.path; outcome = nameless_outcome v.outcome }

-- In a model that is not refused, the names put cuts in the place of deaths and change nothing else: without them the tree is the same list of paths, with
-- a death for each cut in a named state.
abbrev pub NamesOnlyCut : Type 0
NamesOnlyCut = (ws : List ℕ) (budget : ℕ) (m : Model) → read ws budget ≡ Answer.granted m → (limits : Limits)
    → tree (nameless m.net) limits ≡ map nameless_visit (tree m.net limits)

-- ---- all of it

pub record FaithfulNamed : Type 0 where
  -- "A path that ends in such a state is a cut, tested before all else in the cut tree"
  pub outcome_of_named : OutcomeOfNamed
  pub named_is_cut : NamedIsCut
  -- "the paper on the generator puts them in the upper total only"
  pub named_is_no_death : NamedIsNoDeath
  -- "16 when a named state has exits"
  pub named_has_no_exits : NamedHasNoExits
  -- "Our lower figure counts these as failures": named, they are cuts instead, and all else is as it was
  pub names_only_cut : NamesOnlyCut
  -- what reading small lists of words gives is what is worked out apart from the definitions
  pub named_readings_agree : NamedReadingsAgree
  -- the answer and the whole table after the call, of small cases, are what is worked out apart from the definitions
  pub named_cases_agree : NamedCasesAgree
