-- `text::bytes::words_of` meets its contract: no more bytes are looked at than words may come of. Assumes nothing.
use Rattle.std.proofs.lemmas.List.{take_min}
use Rattle.text.specs.Bytes.{most_bytes}
use Rattle.text.proofs.bytes.words_of.Goals as goal

pub returns-clause-spelled : goal.returns-clause-spelled
returns-clause-spelled c = rw (c.min.ensures, take_min most_bytes c.args.bytes.now) at c.fill.ensures
