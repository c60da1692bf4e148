use Rattle.admission.proofs.InNetwork.{some_record, first_within}
use Rattle.admission.proofs.version_of.Goals as goal

pub version_of-requires : goal.version_of-requires
version_of-requires c = first_within _ _ _ c.args.net.now.stored

pub returns : goal.returns
returns c = c.version_of.ensures _ (some_record _ _ _ c.args.net.now.stored)
