-- `reaching::wegbaro_close_into` meets its contract.
use mathlib.Core.Path.{refl, sym, ◌∙◌}
use mathlib.Core.Bool.{true≢false, false≢true}
use Rattle.reaching.proofs.Testing.{apart}
use Rattle.reaching.proofs.wegbaro_close_into.Goals as goal

pub close_into-requires : goal.close_into-requires
close_into-requires c =
    apart _ _ _ _ (sym c.lie_apart-apart.ensures ∙ c.if-apart.true)

pub returns-then-apart : goal.returns-then-apart
returns-then-apart c =
    record {
      answer_is = c.lie_apart-apart.ensures;
      closed = λ t. c.close_into.ensures;
      left = λ t. absurd (true≢false (sym c.if-apart.true ∙ t));
    }

pub returns-else-apart : goal.returns-else-apart
returns-else-apart c = record {
  answer_is = c.lie_apart-apart.ensures;
  closed = λ t. absurd (false≢true (sym c.if-apart.false ∙ t));
  left = λ t. refl;
}
