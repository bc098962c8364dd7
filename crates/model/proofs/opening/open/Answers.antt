-- `model::opening::open` meets its contract: it hands back what the first four words say. Assumes nothing.
use Rattle.std.proofs.Common.{refl, sym, ap, ◌∙◌, ℕ, ◌+◌, ◌-◌, ◌≡◌, List, length, get_or, take, drop}
use Rattle.std.proofs.lemmas.Result.{err_from_is_err_and}
use lib.Seq.{get_or-drop}
use Rattle.word.specs.Words.{quantity}
use Rattle.word.proofs.Parts.{part_from}
use Rattle.model.proofs.Asked.{first_model, FirstWords, opening_stops, opening_passes}
use Rattle.model.proofs.opening.open.Goals as goal

-- the quantity that is read from the part that begins at a place
at_place : (ws : List ℕ) (i : ℕ) → quantity (get_or (take (length ws - i) (drop i ws)) 0 0) ≡ quantity (get_or ws (i + 0) 0)
at_place ws i = ap quantity (ap (λ (l : List ℕ). get_or l 0 0) (part_from ws i) ∙ get_or-drop i ws 0 0)

pub returns-in_err-tested : goal.returns-in_err-tested
returns-in_err-tested c =
    let p = err_from_is_err_and c.from_residual.result c.from_residual.ensures.1 in
    rw (p.1, p.2) (opening_stops _ _ _ (sym c.in_err-tested.ensures.fault))

pub returns : goal.returns
returns c =
    let first : FirstWords c.args.words.now = opening_passes c.args.words.now (sym c.in_ok-tested.ensures.fault) in
    record {
      model = first_model c.args.words.now;
      fields = λ i.
          record {
            states = c.states.ensures.value i;
            start = c.start.ensures.value i;
            step_limit = c.step_limit.ensures i;
            entry_limit = c.entry_limit.ensures i;
            time = (c.quantity_at.ensures ∙ at_place c.args.words.now 1) i;
            prune = (c.quantity_at-2.ensures ∙ at_place c.args.words.now 2) i;
          };
      none_named = refl;
      empty = refl;
      reads = first.reads;
      inside = first.inside;
      states_high = first.states_high;
      start_high = first.start_high;
    }
