-- E, h, h' and H of a state with their marks: exit by exit, in one pass. Assumes nothing.
use Prim.Native.Nat.{ℕ, ◌+◌, ◌*◌, ◌≤◌, ◌<◌}
use mathlib.Core.Path.{◌≡◌, refl, sym, ap, ◌∙◌}
use mathlib.Core.Bool.{Bool, true, ◌&&◌, and-true, and_assoc}
use mathlib.Core.List.{List, [], ◌∷◌}
use native.Mathlib.Numerals.{add-one}
use native.Mathlib.Omega.{arith}
use lib.ListN.{length, get_or, drop, drop_of_length-le}
use lib.Seq.{drop-cons}
use Rattle.figure.specs.declared.Direction.TheVariants.{Down, Up}
use Rattle.figure.specs.declared.Figure.{Figure}
use Rattle.figure.specs.declared.Rounded.{Rounded}
use Rattle.figure.specs.Rounding.{none}
use Rattle.figure.specs.Operations.{times_up, plus_up}
use Rattle.figure.specs.Losses.{told, times_keeps, plus_keeps}
use Rattle.figure.proofs.Sized.{sized-≤}
use Rattle.word.specs.Model.{Manner, Transition, Net, exits}
use Rattle.model.specs.Index.{no_transition}
use Rattle.model.specs.Internal.Valid.{ValidManner}
use Rattle.tree.specs.States.{figure_of, second_moment, sum_over, add_rate, add_mean_up, add_mean_down, add_moment, rate_sum, mean_up, mean_down, moment_sum}
use Rattle.tree.specs.Marks.{second_moment_kept, sum_kept, rate_kept_by, mean_up_kept_by, mean_down_kept_by, moment_kept_by}
use Rattle.tree.specs.Marks.{rate_sum_kept, mean_up_kept, mean_down_kept, moment_sum_kept}
use Rattle.tree.proofs.Ranges.{none_sized, add_rate_sized, add_mean_up_sized, add_mean_down_sized, add_moment_sized}
use Rattle.tables.specs.declared.manner.Spread.{Spread}
use Rattle.tables.specs.declared.states.Sums.{Sums}
use Rattle.tables.specs.Internal.Told.{times, plus, moment_of, add_told}
use Rattle.tables.specs.Internal.Sums.{SumsSized, add_exit, sums}
use Rattle.tables.proofs.Firsts.{FastRead, SlowRead}

same_sums : {a a' b b' c c' d d' : Rounded} → a ≡ a' → b ≡ b' → c ≡ c' → d ≡ d'
    → ◌≡◌ {A = Sums} (record { rate = a; up = b; down = c; moment = d }) (record { rate = a'; up = b'; down = c'; moment = d' })
same_sums ea eb ec ed = rw (ea, eb, ec, ed)

-- ---- one exit more

-- a sum that the exit adds nothing to
as_it_was : (a : Rounded) → a ≡ told a.figure (a.kept && true)
as_it_was a = ap (told a.figure) (sym (and-true a.kept))

-- q × M's mark is M's and the product's, and the sum's last
regrouped : (a b c d : Bool) (f : Figure) → told f (a && ((b && c) && d)) ≡ told f (a && (b && (c && d)))
regrouped a b c d f = ap (λ (k : Bool). told f (a && k)) (and_assoc b c d)

module _ (s : Sums) {x : Manner} where
  pub with_fast : {e : Spread} {a b w v mean low moment : Rounded} → FastRead x e → a ≡ times Up e.probability e.mean → mean ≡ plus Up s.up a
      → b ≡ times Down e.probability e.mean → low ≡ plus Down s.down b → w ≡ moment_of e.mean e.deviation → v ≡ times Up e.probability w
      → moment ≡ plus Up s.moment v → ◌≡◌ {A = Sums} (record { rate = s.rate; up = mean; down = low; moment = moment }) (add_exit s x)
  unfolding add_exit add_told moment_of second_moment second_moment_kept
  with_fast f ea em eb ef ew ev eo =
      let share = figure_of f.probability in
      let square = second_moment f.mean f.deviation in
      rw f.manner (same_sums (as_it_was s.rate) (rw (em, ea, f.is)) (rw (ef, eb, f.is)) (rw (eo, ev, ew, f.is) (regrouped s.moment.kept
      (second_moment_kept f.mean f.deviation) (times_keeps share square) (plus_keeps s.moment.figure (times_up share square))
      (plus_up s.moment.figure (times_up share square)))))

  pub with_slow : {r rate : Rounded} → SlowRead x r → rate ≡ plus Up s.rate r
      → ◌≡◌ {A = Sums} (record { rate = rate; up = s.up; down = s.down; moment = s.moment }) (add_exit s x)
  unfolding add_exit add_told
  with_slow f e = rw f.manner (same_sums (rw (e, f.is)) (as_it_was s.up) (as_it_was s.down) (as_it_was s.moment))

add_exit_sized : {n : ℕ} {s : Sums} (x : Manner) → 180 ≤ n → ValidManner x → SumsSized n s → SumsSized (n + 20) (add_exit s x)
unfolding add_exit add_told
add_exit_sized {n} {s} x few w h = record {
  rate = add_rate_sized n s.rate.figure x few w h.rate;
  up = add_mean_up_sized n s.up.figure x few w h.up;
  down = add_mean_down_sized n s.down.figure x few w h.down;
  moment = add_moment_sized n s.moment.figure x few w h.moment;
}

pub sums-≤ : {m n : ℕ} {s : Sums} → m ≤ n → SumsSized m s → SumsSized n s
sums-≤ l h = record { rate = sized-≤ l h.rate; up = sized-≤ l h.up; down = sized-≤ l h.down; moment = sized-≤ l h.moment }

-- ---- all exits of a state, in one pass

-- each sum with its mark
told_pass : (add : Figure → Manner → Figure) (kept : Figure → Manner → Bool) (a : Rounded) (ts : List Transition)
    → sum_over (add_told add kept) a ts ≡ told (sum_over add a.figure ts) (a.kept && sum_kept add kept a.figure ts)
unfolding sum_over add_told sum_kept
told_pass add kept a [] = as_it_was a
told_pass add kept a (t ∷ ts) =
    told_pass add kept (add_told add kept a t.manner) ts
    ∙ ap (told (sum_over add (add a.figure t.manner) ts))
    (and_assoc a.kept (kept a.figure t.manner) (sum_kept add kept (add a.figure t.manner) ts))

one_pass : (a : Sums) (ts : List Transition)
    → sum_over add_exit a ts ≡ record {
      rate = sum_over (add_told add_rate rate_kept_by) a.rate ts;
      up = sum_over (add_told add_mean_up mean_up_kept_by) a.up ts;
      down = sum_over (add_told add_mean_down mean_down_kept_by) a.down ts;
      moment = sum_over (add_told add_moment moment_kept_by) a.moment ts;
    }
unfolding sum_over add_exit
one_pass a [] = refl
one_pass a (t ∷ ts) = one_pass (add_exit a t.manner) ts

abbrev nothing : Rounded
nothing = told none true

abbrev no_sums : Sums
no_sums = record { rate = nothing; up = nothing; down = nothing; moment = nothing }

-- r is the sum over the first i exits: with the rest it comes to the state's sums
pub record SummedTo (net : Net) (s i : ℕ) (r : Sums) : Type 0 where
  pub rest : sum_over add_exit r (drop i (exits net s)) ≡ sums net s
  pub sized : SumsSized (180 + 20 * i) r

module _ (net : Net) (s : ℕ) where
  pub summed_none : {a b c d : Rounded} → a ≡ nothing → b ≡ nothing → c ≡ nothing → d ≡ nothing
      → SummedTo net s 0 (record { rate = a; up = b; down = c; moment = d })
  unfolding sums rate_sum mean_up mean_down moment_sum rate_sum_kept mean_up_kept mean_down_kept moment_sum_kept
  summed_none ea eb ec ed = rw (ea, eb, ec, ed) (record {
    rest =
        one_pass no_sums (exits net s)
        ∙ same_sums (told_pass add_rate rate_kept_by nothing (exits net s)) (told_pass add_mean_up mean_up_kept_by nothing (exits net s))
        (told_pass add_mean_down mean_down_kept_by nothing (exits net s)) (told_pass add_moment moment_kept_by nothing (exits net s));
    sized = record { rate = none_sized 180; up = none_sized 180; down = none_sized 180; moment = none_sized 180 };
  })

  module _ {i : ℕ} {r : Sums} (h : SummedTo net s i r) where
    pub summed_more : {t : Transition} {r' : Sums} → i < length (exits net s) → t ≡ get_or (exits net s) i no_transition → ValidManner t.manner
        → r' ≡ add_exit r t.manner → SummedTo net s (i + 1) r'
    unfolding sum_over
    summed_more more t-is v e = rw e (record {
      rest = rw (add-one i, t-is) (rw (drop-cons (exits net s) i no_transition more) at h.rest);
      sized = sums-≤ (omega arith) (add_exit_sized _ (omega arith) v h.sized);
    })

    pub summed_all : length (exits net s) ≤ i → r ≡ sums net s
    unfolding sum_over
    summed_all all = rw (drop_of_length-le (exits net s) all) at h.rest
