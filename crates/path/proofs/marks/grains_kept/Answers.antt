-- `grains_kept` meets its contract: each step's mark is asked. Assumes nothing.
use Rattle.std.proofs.Common.{rules, ◌≡◌, ◌∙◌, ◌↔◌, All, IsTrue, true, []}
use Rattle.model.specs.Index.{transition}
use Rattle.tree.specs.Marks as marks
use Rattle.tables.specs.Internal.Described.{net_of}
use Rattle.path.proofs.MarkFacts.{all_listed, all_grains_listed}
use Rattle.path.proofs.marks.grains_kept.Goals as goal

pub returns : goal.returns
returns c =
    let net = net_of c.args.walked.now.prepared.now.words.now in
    let each : IsTrue c.all.result ↔ All (λ j. marks.grains_kept net [] (transition net j) ≡ true) c.args.walked.now.path.now = search rules in
    all_listed (λ j. marks.grains_kept net [] (transition net j)) c.args.walked.now.path.now c.all.result each ∙ all_grains_listed net c.args.walked.now.path.now
