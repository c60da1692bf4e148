use native.Mathlib.Omega.{arith}
use mathlib.Core.List.{append_assoc}
use Rattle.std.proofs.Math.ListN.{length-append}
use Rattle.streams.specs.Text.{bytes}
use Rattle.streams.specs.Line.{with_one}
use Rattle.streams.specs.Laws.Decimal.{at_most_21}
use Rattle.streams.proofs.text.Line.with_one.Goals as goal

pub text-requires-2 : goal.text-requires-2
text-requires-2 c = rw (c.spaced.ensures, c.text.ensures) (simp length-append (omega (arith, at_most_21 c.args.a (omega arith))))

pub returns : goal.returns
unfolding with_one bytes
returns c = rw (c.text-2.ensures, c.spaced.ensures, c.text.ensures) (simp append_assoc)
