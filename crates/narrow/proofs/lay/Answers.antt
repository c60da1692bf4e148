use Rattle.narrow.proofs.WordLines.{lay_more}
use Rattle.narrow.proofs.lay.Goals as goal

pub loop-x-preserved : goal.loop-x-preserved
loop-x-preserved c = lay_more c.args.words.now _ _ _ _ _ _ c.loop-x.invariant c.put_word.ensures
