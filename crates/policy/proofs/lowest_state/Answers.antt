-- `policy::lowest_state` meets its contract.
use Rattle.std.specs.Prelude.{Option, Some, None, MatchOption, ◌≡◌, Bool, true, ℕ, ◌*◌, ◌≤◌, ◌<◌}
use Rattle.std.proofs.Common.{arith, rules}
use Rattle.std.proofs.lemmas.Bool.{false≢true}
use Rattle.std.proofs.lemmas.Iterator.{first_from_Range}
use Rattle.forms.specs.Forms.{tests as form_tests}
use Rattle.policy.specs.Evaluated.{LowestPassing}
use Rattle.policy.proofs.lowest_state.Goals as goal

-- the first of the numbers below n that passes
first_passing : (n : ℕ) (g : ℕ → Bool) (r : Option ℕ)
    → MatchOption r ((k : ℕ) → 0 ≤ k → k < n → g k ≡ true → ⊥) (λ i. (0 ≤ i) × (i < n) × (g i ≡ true) × ((k : ℕ) → 0 ≤ k → k < i → g k ≡ true → ⊥))
    → LowestPassing n g r
first_passing n g (Some x) m = (m.1, m.2, λ z h. m.3 z (omega arith) h)
first_passing n g None m = λ z h. m z (omega arith) h

-- The numbers are gone over from 0 on: those before the one that is found
-- were tested too, and did not pass.
pub returns : goal.returns
returns c =
    let s = c.args in
    first_passing (s.pitch * 8) (λ x. form_tests s.f s.work.now s.pitch x 0) _
    (first_from_Range _ _ _ _ (λ x. form_tests s.f s.work.now s.pitch x 0 ≡ true) (λ x. form_tests s.f s.work.now s.pitch x 0 ≡ true → ⊥) c.find.ensures.ran
    (λ x q k. search rules)
    (λ x q k. (search rules, λ t. false≢true (search rules))))
