use Rattle.std.proofs.Common.{arith}
use Rattle.commands.proofs.RecordBytes.{few_spliced}
use Rattle.commands.proofs.FoundRule.{at_below}
use Rattle.commands.proofs.EffectInStore.{added_at}
use Rattle.commands.proofs.add.Goals as goal

pub splice-requires-clause-few : goal.splice-requires-clause-few
splice-requires-clause-few c =
    let a = c.args in
    let below = at_below a.given.now a.before.store.now a.before.n c.in-Some.i c.in-Some.ensures in
    few_spliced _ _ _ _ _ (added_at _ _ _ _ c.in-Some.ensures) (omega (arith, below)) c.requires.few
