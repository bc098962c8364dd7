-- `walked` meets its contract: the table is filled with the model's values, and the walk from the start goes over the cut tree. Assumes nothing.
use Rattle.bounds.proofs.WalkBegin.{none_counted, start_below, time_scale, prune_scale, time_prepared, walk_ready, walk_tree}
use Rattle.bounds.proofs.walked.Goals as goal

pub figure_of-requires : goal.figure_of-requires
figure_of-requires c = time_scale c.args.model.indexes c.args.model.accepted_is

pub invariant_of-prepared : goal.invariant_of-prepared
invariant_of-prepared c =
    record {
      filled = record { indexes = c.args.model.indexes; tabled = c.fill.ensures };
      time_is = time_prepared c.args.model.indexes c.args.model.accepted_is c.figure_of.ensures;
    }

pub figure_of-requires-2 : goal.figure_of-requires-2
figure_of-requires-2 c = prune_scale c.args.model.indexes c.args.model.accepted_is

pub bounds-entered-a : goal.bounds-entered-a
bounds-entered-a c = start_below c.args.model.indexes c.args.model.accepted_is

pub walk-requires : goal.walk-requires
walk-requires c =
    walk_ready c.args.model.indexes c.args.model.accepted_is c.figure_of-2.ensures c.of_whole.ensures _ c.requires.allowed
    (none_counted c.default.result c.default.ensures) _ c.requires.no_totals

pub returns : goal.returns
returns c =
    walk_tree c.args.model.indexes c.args.model.accepted_is c.figure_of-2.ensures c.of_whole.ensures _ c.requires.allowed
    (none_counted c.default.result c.default.ensures) _ c.requires.no_totals _ c.walk.result _ _ c.walk.ensures
