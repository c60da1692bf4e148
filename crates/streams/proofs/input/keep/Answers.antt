use native.Mathlib.Omega.{arith}
use Prim.Native.Nat.{◌+◌, ◌*◌, ◌-◌}
use mathlib.Core.Path.{◌≡◌}
use mathlib.Core.List.{append_assoc}
use lib.Seq.{drop-drop}
use Rattle.streams.specs.Reading.{with_record}
use Rattle.streams.proofs.input.keep.Goals as goal

pub returns : goal.returns
unfolding with_record
returns c =
    let e : c.args.n * 24 + 24 - c.args.n * 24 ≡ 24 = omega arith in
    rw (e, c.copy_from_slice.ensures.after, drop-drop) (simp append_assoc)
