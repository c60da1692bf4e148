use Rattle.std.proofs.Common.{arith}
use Rattle.commands.proofs.RecordBytes.{few_joined}
use Rattle.commands.proofs.FoundRule.{at_below}
use Rattle.commands.proofs.EffectInStore.{removed_at}
use Rattle.commands.proofs.delete.Goals as goal

pub join-requires-clause-few : goal.join-requires-clause-few
join-requires-clause-few c =
    let a = c.args in
    let below = at_below a.given.now a.before.store.now a.before.n c.in-Some.i c.in-Some.ensures in
    few_joined _ _ _ _ (removed_at _ _ _ _ c.in-Some.ensures) (omega (arith, below)) c.requires.few
