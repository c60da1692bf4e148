-- The table of a network has its model: so the computed truth of a formula is its truth.
use Rattle.std.specs.Prelude.{◌≡◌, refl, Bool, true, false, ◌↔◌, ℕ, ◌<◌}
use Rattle.std.proofs.Common.{sym, ap, ◌∙◌, zero-add}
use Rattle.basics.specs.Lists.{member}
use Rattle.format.specs.Record.{Net, widths_of}
use Rattle.widths.specs.Widths.{states}
use Rattle.format.specs.Policy.{Formula}
use Rattle.onestep.specs.Step.{next, Step, external}
use Rattle.basics.specs.Tabulated.{grid}
use Rattle.basics.specs.Laws.Tabulated.{tab_at, grid_at}
use Rattle.truth.specs.Truth.{Truth}
use Rattle.truth.specs.Computed.{truth}
use Rattle.truth.specs.Laws.Tables.{Agrees, truth_at}
use Rattle.judgement.specs.Model.{model_of}
use Rattle.judgement.specs.Computed.{table_of}

-- a test that equals another passes as it does
same : {a b : Bool} → a ≡ b → a ≡ true ↔ b ≡ true
same e = (λ t. sym e ∙ t, λ t. e ∙ t)

-- the table of a network has its model
pub table_agrees : (net : Net) → Agrees (model_of net) (table_of net)
unfolding table_of Step grid
table_agrees net =
    record {
      counts = refl;
      steps_agree = λ x y hx hy. same (grid_at (states (widths_of net)) (λ (s t : ℕ). member t (next net s)) x y hx hy);
      externals_agree = λ x hx. same (tab_at (states (widths_of net)) 0 (external net) x false hx ∙ ap (external net) (zero-add x));
    }

-- the computed truth is the truth, of every formula
pub truth_iff : (net : Net) (f : Formula) (x y : ℕ) → x < states (widths_of net) → y < states (widths_of net)
    → truth (table_of net) f x y ≡ true ↔ Truth (model_of net) f x y
truth_iff net = truth_at (model_of net) (table_of net) (table_agrees net)
