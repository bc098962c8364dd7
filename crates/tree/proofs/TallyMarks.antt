-- The marks that a walk keeps, one visit at a time, are the report's. Assumes nothing.
use mathlib.Core.Path.{◌≡◌, refl, ap, ap₂, ◌∙◌}
use mathlib.Core.Bool.{Bool, true, false, ◌&&◌}
use mathlib.Core.List.{List, [], ◌∷◌}
use Rattle.figure.specs.Operations.{total_up, total_down}
use Rattle.figure.specs.Losses.{total_keeps, to_nine_keeps, sum_to_nine_keeps}
use Rattle.word.specs.Model.{Net}
use Rattle.tree.specs.Paths.{Path, last_state}
use Rattle.tree.specs.Upper.{upper}
use Rattle.tree.specs.Lower.{lower}
use Rattle.tree.specs.Tree.{Outcome, generators_state, death, entered_too_often, step_limit, low_level, continued, Visit, paths, deaths, cuts}
use Rattle.tree.specs.Report.{upper_total, lower_total}
use Rattle.tree.specs.Marks.{lower_kept, upper_kept, total_kept, lower_total_kept, upper_total_kept, path_marks, marks_of, marks_on}
use Rattle.tree.specs.Internal.Tally.{Kept, nothing_kept, with_step, with_cut, with_death, marks_with_death, marks_with_cut}
use Rattle.tree.specs.Internal.Tally.{cut_noted, noted, with_visit, tally, finish_marks}
use Rattle.tree.proofs.Tally.{tally_comes}

and_true : (a : Bool) → a ≡ a && true
and_true true = refl
and_true false = refl

-- one path more, by its own mark b and that of its addition c, from the left
to_right : (a b c d : Bool) → (a && (b && c)) && d ≡ a && (b && (c && d))
to_right true true c d = refl
to_right true false c d = refl
to_right false b c d = refl

-- the same before the cuts' marks e
first : (a b c d e : Bool) → (a && (b && c)) && (d && e) ≡ a && ((b && (c && d)) && e)
first true true true d e = refl
first true true false d e = refl
first true false c d e = refl
first false b c d e = refl

-- and behind the deaths' marks d
second : (a b c d e : Bool) → (a && (b && c)) && (d && e) ≡ a && (d && (b && (c && e)))
second true true true d e = refl
second true true false true e = refl
second true true false false e = refl
second true false c true e = refl
second true false c false e = refl
second false b c d e = refl

module _ (net : Net) where
  abbrev lowers_kept : Kept → List Path → Bool
  lowers_kept a ps = total_kept total_down (lower net) (lower_kept net) a.totals.lower ps

  abbrev deaths_kept : Kept → List Path → Bool
  deaths_kept a ps = total_kept total_up (upper net) (upper_kept net) a.totals.death_upper ps

  abbrev cuts_kept : Kept → List Path → Bool
  cuts_kept a ps = total_kept total_up (upper net) (upper_kept net) a.totals.cut_upper ps

  pub tally_lower_mark : (a : Kept) (vs : List Visit) → (tally net a vs).marks.lower ≡ a.marks.lower && lowers_kept a (deaths vs)
  unfolding tally paths noted total_kept with_death with_cut with_step marks_with_death marks_with_cut
  tally_lower_mark a [] = and_true a.marks.lower
  tally_lower_mark a (v ∷ vs) = tally_lower_mark (with_visit net a v) vs ∙ go v.path v.outcome
    where
      go : (p : Path) (o : Outcome)
          → (let b = noted a o (last_state net p) (lower net p) (upper net p) (path_marks net p) in b.marks.lower && lowers_kept b (deaths vs))
          ≡ (let ws : List Visit = record { path = p; outcome = o } ∷ vs in a.marks.lower && lowers_kept a (deaths ws))
      go p generators_state = refl
      go p death =
          to_right a.marks.lower (lower_kept net p) (total_keeps a.totals.lower (lower net p))
          (total_kept total_down (lower net) (lower_kept net) (total_down a.totals.lower (lower net p)) (deaths vs))
      go p entered_too_often = refl
      go p step_limit = refl
      go p low_level = refl
      go p continued = refl

  pub tally_upper_mark : (a : Kept) (vs : List Visit)
      → (tally net a vs).marks.upper ≡ a.marks.upper && (deaths_kept a (deaths vs) && cuts_kept a (cuts vs))
  unfolding tally paths noted total_kept with_death with_cut with_step marks_with_death marks_with_cut
  tally_upper_mark a [] = and_true a.marks.upper
  tally_upper_mark a (v ∷ vs) = tally_upper_mark (with_visit net a v) vs ∙ go v.path v.outcome
    where
      by_cut : (p : Path)
          → (let b = cut_noted a (upper net p) (path_marks net p) in b.marks.upper && (deaths_kept b (deaths vs) && cuts_kept b (cuts vs)))
          ≡ a.marks.upper && (deaths_kept a (deaths vs) && cuts_kept a (p ∷ cuts vs))
      by_cut p =
          second a.marks.upper (upper_kept net p) (total_keeps a.totals.cut_upper (upper net p)) (deaths_kept a (deaths vs))
          (total_kept total_up (upper net) (upper_kept net) (total_up a.totals.cut_upper (upper net p)) (cuts vs))

      go : (p : Path) (o : Outcome)
          → (let b = noted a o (last_state net p) (lower net p) (upper net p) (path_marks net p) in
          b.marks.upper && (deaths_kept b (deaths vs) && cuts_kept b (cuts vs)))
          ≡ (let ws : List Visit = record { path = p; outcome = o } ∷ vs in a.marks.upper && (deaths_kept a (deaths ws) && cuts_kept a (cuts ws)))
      go p generators_state = by_cut p
      go p death =
          first a.marks.upper (upper_kept net p) (total_keeps a.totals.death_upper (upper net p))
          (total_kept total_up (upper net) (upper_kept net) (total_up a.totals.death_upper (upper net p)) (deaths vs)) (cuts_kept a (cuts vs))
      go p entered_too_often = by_cut p
      go p step_limit = by_cut p
      go p low_level = by_cut p
      go p continued = refl

  -- the law: the marks over the visits, with those of the last rounding, are the report's
  pub tally_marks : (vs : List Visit) → finish_marks (tally net nothing_kept vs) ≡ marks_on net vs
  unfolding finish_marks marks_on marks_of lower_total upper_total
  tally_marks vs = λ i. record { lower = lower_is i; upper = upper_is i }
    where
      b : Kept
      b = tally net nothing_kept vs

      lower_is : b.marks.lower && to_nine_keeps b.totals.lower ≡ lower_total_kept net (deaths vs) && to_nine_keeps (lower_total net (deaths vs))
      lower_is = ap₂ (λ k t. k && to_nine_keeps t) (tally_lower_mark nothing_kept vs) (tally_comes net nothing_kept vs).lower

      upper_is : b.marks.upper && sum_to_nine_keeps b.totals.death_upper b.totals.cut_upper
          ≡ upper_total_kept net (deaths vs)
          && (upper_total_kept net (cuts vs) && sum_to_nine_keeps (upper_total net (deaths vs)) (upper_total net (cuts vs)))
      upper_is =
          ap (λ k. k && sum_to_nine_keeps b.totals.death_upper b.totals.cut_upper) (tally_upper_mark nothing_kept vs)
          ∙ ap₂ (λ t u. (upper_total_kept net (deaths vs) && upper_total_kept net (cuts vs)) && sum_to_nine_keeps t u)
          (tally_comes net nothing_kept vs).death_upper (tally_comes net nothing_kept vs).cut_upper
          ∙ to_right true (upper_total_kept net (deaths vs)) (upper_total_kept net (cuts vs)) _
