-- Truth and verdict, computed: what is proved of them stands in Laws and in Judgement.
use Rattle.std.specs.Prelude.{Bool, true, false, ℕ, zero, suc}
use Rattle.std.proofs.Math.Option.{Option, none, some}
use Rattle.format.specs.Record.{Net, widths_of}
use Rattle.format.specs.Policy.{forbidden}
use Rattle.judgement.specs.Verdict.{Verdict, holds, violated}
use Rattle.truth.specs.Computed.{Table, truth}
use Rattle.basics.specs.Lists.{member}
use Rattle.widths.specs.Widths.{states}
use Rattle.onestep.specs.Step.{next, external}
use Rattle.basics.specs.Tabulated.{tab}

-- the table of a network
unfoldable pub table_of : Net → Table
table_of net =
    let count = states (widths_of net) in
    record {
      count = count;
      steps = tab count 0 (λ s. let ts = next net s in tab count 0 (λ t. member t ts));
      externals = tab count 0 (external net);
    }

-- the first number from i on, of k numbers, that passes a test
unfoldable pub first_from : ℕ → ℕ → (ℕ → Bool) → Option ℕ
first_from zero i f = none
first_from (suc k) i f = elim (f i) [ true ↦ some i | false ↦ first_from k (suc i) f ]

-- the lowest state that breaks policy p
unfoldable pub lowest_state : Net → Table → ℕ → Option ℕ
lowest_state net t p = let a = truth t (forbidden net p) in first_from t.count 0 (λ x. a x 0)

-- the verdict on the policies from p on, k of them
unfoldable pub verdict_from : Net → Table → ℕ → ℕ → Verdict
verdict_from net t zero p = holds
verdict_from net t (suc k) p = elim (lowest_state net t p) [ none ↦ verdict_from net t k (suc p) | some x ↦ violated p x ]
