-- The code's counts. Assumes nothing: these are definitions.
use Rattle.std.specs.Prelude.{◌+◌, ◌≤◌}
use Rattle.path.specs.declared.counts.Counts.{Counts}

-- the counts before the first step
abbrev pub no_counts : Counts
no_counts = record { deaths = 0; cuts = 0; steps = 0 }

abbrev pub death_more : Counts → Counts
death_more c = record { deaths = c.deaths + 1; cuts = c.cuts; steps = c.steps + 1 }

abbrev pub cut_more : Counts → Counts
cut_more c = record { deaths = c.deaths; cuts = c.cuts + 1; steps = c.steps + 1 }

abbrev pub step_more : Counts → Counts
step_more c = record { deaths = c.deaths; cuts = c.cuts; steps = c.steps + 1 }

-- ended paths are at most as many as the steps
pub record Few (c : Counts) : Type 0 where
  pub deaths : c.deaths ≤ c.steps
  pub cuts : c.cuts ≤ c.steps
