-- `lines::push` meets its contract.
use native.Mathlib.Omega.{arith}
use Rattle.lines.specs.Laws.LineBits.{pushed}
use Rattle.lines.proofs.push.Goals as goal

pub returns : goal.returns
returns c =
    rw c.weight_if.ensures (pushed c.args.r.now c.args.z c.args.t (omega (arith, c.requires)))
