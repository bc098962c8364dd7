-- From a transition's index, and from the number of an exit, to the words that begin at its own. Assumes nothing.
use Prim.Native.Nat.{ℕ, ◌≤◌, ◌<◌}
use mathlib.Core.Path.{◌≡◌, ap, ◌∙◌}
use mathlib.Core.List.{List}
use native.Mathlib.Omega.{arith}
use lib.ListN.{length, get_or, length-drop}
use Rattle.word.specs.Model.{exits}
use Rattle.model.specs.declared.index.Index.{Index}
use Rattle.model.specs.Index.{Stands, exit_count, exits_of, place_of, slot, no_transition, transition}
use Rattle.word.proofs.Parts.{part_from}
use Rattle.model.proofs.Slots.{exits_slot, slot_below, slot_exit, stands_inside, counts_few}
use Rattle.tables.specs.Internal.Described.{Indexes, StandsFirst, described, net_of}
use Rattle.tables.proofs.Classes.{step_valid}
use Rattle.tables.proofs.Firsts.{part_at}

module _ {ws : List ℕ} {index : Index} (h : Indexes ws index) {j : ℕ} (inside : j < length (net_of ws).table) where
  module _ {place : ℕ} (at_place : place ≡ place_of index j) where
    stands : Stands ws place (transition (net_of ws) j)
    stands = rw at_place (h.indexed.places_are j inside)

    pub place_inside : place < length ws
    place_inside = omega (arith, stands_inside stands)

    pub part_first : StandsFirst (part_at ws place)
    part_first = rw (part_from ws place) (record {
      transition = transition (net_of ws) j;
      stands = record { inside = omega (arith, stands.inside, length-drop place ws); reads = stands.reads };
      valid = (step_valid h.valid inside).manner;
    })

-- ---- from a state

module _ {ws : List ℕ} {index : Index} (h : Indexes ws index) {s : ℕ} (low : s ≤ 1000) {numbers : List ℕ} (are : numbers ≡ exits_of index s)
    (if_few : exit_count index s ≤ 16 → length numbers ≡ exit_count index s) where
  count : length numbers ≡ exit_count index s
  count = if_few (counts_few (described ws) ws index h.valid h.indexed s low)

  pub count_is : length numbers ≡ length (exits (net_of ws) s)
  count_is = count ∙ h.indexed.counts_are s low

  module _ {i : ℕ} (more : i < length numbers) where
    counted : i < exit_count index s
    counted = rw count at more

    pub exit_more : i < length (exits (net_of ws) s)
    exit_more = rw count_is at more

    is_slot : get_or numbers i 0 ≡ slot index s i
    is_slot = ap (λ (l : List ℕ). get_or l i 0) are ∙ exits_slot index s i counted

    pub number_below : get_or numbers i 0 < length (net_of ws).table
    number_below = rw is_slot (slot_below (described ws) ws index h.valid h.indexed s i low counted)

    pub number_exit : transition (net_of ws) (get_or numbers i 0) ≡ get_or (exits (net_of ws) s) i no_transition
    number_exit = ap (transition (net_of ws)) is_slot ∙ slot_exit (described ws) ws index h.valid h.indexed s i low counted
