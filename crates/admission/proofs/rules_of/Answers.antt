use Rattle.admission.proofs.InNetwork.{rules_are}
use Rattle.admission.proofs.rules_of.Goals as goal

pub returns : goal.returns
returns c = rules_are _ _ _ c.args.net.now.stored
