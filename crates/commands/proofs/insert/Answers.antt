use Rattle.commands.proofs.RecordBytes.{few_spliced}
use Rattle.commands.proofs.EffectInStore.{new_below, inserted_new}
use Rattle.commands.proofs.insert.Goals as goal

pub splice-requires-clause-few : goal.splice-requires-clause-few
splice-requires-clause-few c =
    let told = c.place-i.ensures in
    few_spliced _ _ _ _ _ (inserted_new _ _ _ _ told) (new_below c.args.given.now _ _ _ told) c.requires.few
