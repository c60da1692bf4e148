use Rattle.std.proofs.Common.{sym, ◌∙◌, rules, length-take-le}
use Rattle.commands.proofs.write_back.Goals as goal

pub copy-requires : goal.copy-requires
copy-requires c = length-take-le 15768 c.args.store.now c.requires ∙ sym (search rules)
