use mathlib.Core.Path.{ap₂, ◌∙◌}
use Prim.Native.Nat.{ℕ}
use Rattle.format.specs.Pattern.{put_bits}
use Rattle.groups.proofs.buckets.header_set.Goals as goal

pub returns : goal.returns
returns c =
    let a = c.args in
    let I = c.bucket_at-b.ensures in
    c.put.ensures ∙ ap₂ (λ (v x : ℕ). put_bits a.w.h v x a.h) I.value I.care
