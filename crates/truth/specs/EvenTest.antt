-- Whether a formula is even, computed: `even_by_test` says what the test is.
use Rattle.std.specs.Prelude.{◌≡◌, refl, Bool, true, false, cond, not, ◌&&◌, ◌↔◌, ℕ, suc, ◌%◌}
use Rattle.std.proofs.lemmas.Bool.{false≢true}
use Rattle.std.proofs.Common.{arith}
use Rattle.basics.specs.Laws.Tests.{both, and_both}
use Rattle.format.specs.Policy.{Formula, absent, BIT, R, E, NOT, AND, OR, SOME, ALL, TC}
use Rattle.truth.specs.Even.{Way, here, under_NOT, left_AND, right_AND, left_OR, right_OR, under_SOME, under_ALL, under_TC, Even}

-- every way down to an R passes an even number of NOTs (true), or an odd one (false)
unfoldable pub nots : Bool → Formula → Bool
nots even absent = true
nots even (BIT v i) = true
nots even (R u v) = even
nots even (E v) = true
nots even (NOT f) = nots (not even) f
nots even (AND f g) = nots even f && nots even g
nots even (OR f g) = nots even f && nots even g
nots even (SOME f v) = nots even f
nots even (ALL f v) = nots even f
nots even (TC f u v) = nots even f

-- what it tests
abbrev Passes : Bool → Formula → Type 0
Passes even f = (n : ℕ) → Way f n → n % 2 ≡ cond even 0 1

flip : (e : Bool) (n : ℕ) → n % 2 ≡ cond (not e) 0 1 → suc n % 2 ≡ cond e 0 1
flip true n h = omega arith
flip false n h = omega arith

flip_back : (e : Bool) (n : ℕ) → suc n % 2 ≡ cond e 0 1 → n % 2 ≡ cond (not e) 0 1
flip_back true n h = omega arith
flip_back false n h = omega arith

-- where it passes, each way is so
sound : (e : Bool) {f : Formula} {n : ℕ} → Way f n → nots e f ≡ true → n % 2 ≡ cond e 0 1
unfolding nots
sound true here t = refl
sound false here t = absurd (false≢true t)
sound e (under_NOT {f} {n} w) t = flip e n (sound (not e) w t)
sound e (left_AND {f} {g} w) t = sound e w (both (nots e f) (nots e g) t).0
sound e (right_AND {f} {g} w) t = sound e w (both (nots e f) (nots e g) t).1
sound e (left_OR {f} {g} w) t = sound e w (both (nots e f) (nots e g) t).0
sound e (right_OR {f} {g} w) t = sound e w (both (nots e f) (nots e g) t).1
sound e (under_SOME w) t = sound e w t
sound e (under_ALL w) t = sound e w t
sound e (under_TC w) t = sound e w t

-- and where each way is so, it passes
complete : (e : Bool) (f : Formula) → Passes e f → nots e f ≡ true
unfolding nots
complete e absent p = refl
complete e (BIT v i) p = refl
complete true (R u v) p = refl
complete false (R u v) p = absurd (omega (arith, p 0 here))
complete e (E v) p = refl
complete e (NOT f) p = complete (not e) f (λ n w. flip_back e n (p (suc n) (under_NOT w)))
complete e (AND f g) p = and_both (nots e f) (nots e g) (complete e f (λ n w. p n (left_AND w))) (complete e g (λ n w. p n (right_AND w)))
complete e (OR f g) p = and_both (nots e f) (nots e g) (complete e f (λ n w. p n (left_OR w))) (complete e g (λ n w. p n (right_OR w)))
complete e (SOME f v) p = complete e f (λ n w. p n (under_SOME w))
complete e (ALL f v) p = complete e f (λ n w. p n (under_ALL w))
complete e (TC f u v) p = complete e f (λ n w. p n (under_TC w))

-- so it passes exactly if the formula is even
pub even_by_test : (f : Formula) → nots true f ≡ true ↔ Even f
even_by_test f = (λ t n w. sound true w t, complete true f)
