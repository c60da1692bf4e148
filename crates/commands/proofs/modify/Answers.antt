use Rattle.std.proofs.Common.{sym, ◌∙◌, arith}
use Rattle.format.specs.Record.{records}
use Rattle.rows.specs.Laws.Found.{found_present}
use Rattle.effect.specs.Apply.{with_actions}
use Rattle.effect.specs.Laws.Applied.{modify_there}
use Rattle.commands.proofs.RecordBytes.{few_spliced}
use Rattle.commands.proofs.FoundRule.{at_below}
use Rattle.commands.proofs.EffectInStore.{changed_at}
use Rattle.commands.proofs.modify.Goals as goal

pub splice-requires-clause-few : goal.splice-requires-clause-few
splice-requires-clause-few c =
    let a = c.args in
    let given = a.given.now in
    let net = records a.before.n a.before.store.now in
    let below = at_below given a.before.store.now a.before.n c.in-Some.i c.in-Some.ensures in
    let there = sym (found_present given net c.in-Some.i c.in-Some.ensures) in
    let replaced = modify_there a.version given net c.requires.is_modify there ∙ changed_at _ _ _ (with_actions given) _ c.in-Some.ensures in
    few_spliced _ _ _ _ _ replaced (omega (arith, below)) c.requires.few
