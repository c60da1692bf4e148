-- The lines that a search takes in.
use mathlib.Core.Path.{◌≡◌, sym, ap, subst, ◌∙◌}
use mathlib.Core.Bool.{Bool, true, false, ◌||◌}
use mathlib.Core.List.{List}
use mathlib.Core.Logic.{◌⊎◌, inl, inr, ⊎_elim}
use Prim.Native.Nat.{ℕ, ◌+◌, ◌*◌, ◌<◌}
use native.Mathlib.Decide.{ℕ_discrete}
use native.Mathlib.Omega.{arith}
use lib.ListN.{length}
use Rattle.planes.specs.Plane.{bit, cell, On}
use Rattle.planes.specs.Lines.{BitSet, Ored}
use Rattle.planes.specs.Laws.Lines.{ored_bit}
use Rattle.basics.specs.Laws.Tests.{or_left, or_right, or_cases}
use Rattle.walks.specs.Walk.{Walk}
use Rattle.walks.specs.Walk.Walk.{one}
use Rattle.walks.specs.Laws.Walks.{join}
use Rattle.sinks.specs.Turns.{Taken, Idle, Through, Searched}
use Rattle.words.specs.Laws.Seeking.{part_bit}
use Rattle.std.specs.List.{between}
use mathlib.Core.Bool.{false≢true}
use Rattle.std.specs.Prelude.{None}
use Rattle.words.specs.Words.{Open}

-- line k is taken in
module _ (bytes : List ℕ) (to pitch k : ℕ) (taken : List ℕ) (is : taken ≡ between (to + k * pitch) (to + k * pitch + pitch) bytes) (width : length taken ≡ pitch) where
  -- the bits of a line that it was ORed into
  taken_bit : (a l : List ℕ) → Ored taken 0 (length taken) a l → (y : ℕ) → y < pitch * 8 → bit l y ≡ (bit a y || cell bytes to pitch k y)
  taken_bit a l J y h =
      let e : y ≡ 0 * 8 + y = omega arith in
      ap (bit l) e
      ∙ ored_bit taken 0 (length taken) a l J y (omega (arith, width))
      ∙ ap (λ (m : ℕ). bit a m || bit taken y) (sym e)
      ∙ ap (λ (t : Bool). bit a y || t) (rw is (part_bit bytes (to + k * pitch) (to + k * pitch + pitch) y (omega arith)))

  module _ (met line done line' : List ℕ) (J : Ored taken 0 (length taken) line line') where
    -- k is noted
    pub taken_one : (done' : List ℕ) → BitSet k done done' → Taken bytes to pitch k met line done line' done'
    taken_one done' S = record { joins = taken_bit line line' J; notes = λ j hj t. go j t (ℕ_discrete j k) }
      where
        go : (j : ℕ) → bit done' j ≡ true → Dec (j ≡ k) → (bit done j ≡ true) ⊎ ((j ≡ k) ⊎ ((bit met k ≡ true) × On bytes to pitch k j))
        go j t (yes e) = inr (inl e)
        go j t (no g) = inl (sym (S.others j g) ∙ t)

    -- where k is met, with all its states
    pub taken_met : (noted done' : List ℕ) → bit met k ≡ true → BitSet k done noted → Ored taken 0 (length taken) noted done' → Taken bytes to pitch k met line done line' done'
    taken_met noted done' m S N =
        let T = taken_one noted S in
        record {
          joins = T.joins;
          notes = λ j hj t.
              ⊎_elim
              (λ p. T.notes j hj p)
              (λ p. inr (inr (m, p)))
              (or_cases (bit noted j) (cell bytes to pitch k j) (sym (taken_bit noted done' N j hj) ∙ t));
        }

-- line has kept its states and has got others that a walk leads to, and it has the lines of those that are done
pub record Searching (bytes : List ℕ) (to pitch : ℕ) (line₀ line done : List ℕ) : Type 0 where
  pub keeps : (y : ℕ) → y < pitch * 8 → bit line₀ y ≡ true → bit line y ≡ true
  pub only : (y : ℕ) → y < pitch * 8 → bit line y ≡ true → (bit line₀ y ≡ true) ⊎ ((z : ℕ) × (bit line₀ z ≡ true) × Walk (pitch * 8) (On bytes to pitch) z y)
  pub has : (z y : ℕ) → z < pitch * 8 → y < pitch * 8 → bit done z ≡ true → On bytes to pitch z y → bit line y ≡ true

pub searching_none : (bytes : List ℕ) (to pitch : ℕ) (idle line : List ℕ) → Idle to pitch idle bytes → Searching bytes to pitch line line idle
searching_none bytes to pitch idle line I = record {
  keeps = λ y h t. t;
  only = λ y h t. inl t;
  has = λ z y hz hy s t. absurd (I z y hz hy s t);
}

-- one more line is taken in
module _ (bytes : List ℕ) (to pitch k : ℕ) (met line₀ line done line' done' : List ℕ) (hk : k < pitch * 8) (on : bit line k ≡ true)
    (G : Through to pitch met bytes) (I : Searching bytes to pitch line₀ line done) (T : Taken bytes to pitch k met line done line' done') where
  keep : (y : ℕ) → y < pitch * 8 → bit line y ≡ true → bit line' y ≡ true
  keep y h t = T.joins y h ∙ or_left (bit line y) (cell bytes to pitch k y) t

  get : (y : ℕ) → y < pitch * 8 → On bytes to pitch k y → bit line' y ≡ true
  get y h t = T.joins y h ∙ or_right (bit line y) (cell bytes to pitch k y) t

  -- what line k adds is a step further
  further : (y : ℕ) → y < pitch * 8 → On bytes to pitch k y → (bit line₀ k ≡ true) ⊎ ((z : ℕ) × (bit line₀ z ≡ true) × Walk (pitch * 8) (On bytes to pitch) z k)
      → (z : ℕ) × (bit line₀ z ≡ true) × Walk (pitch * 8) (On bytes to pitch) z y
  further y h t (inl p) = (k, p, one hk h t)
  further y h t (inr p) = (p.0, p.1, join p.2 (one hk h t))

  pub searching_more : Searching bytes to pitch line₀ line' done'
  searching_more = record {
    keeps = λ y h t. keep y h (I.keeps y h t);
    only = λ y h t.
        ⊎_elim
        (λ p. I.only y h p)
        (λ p. inr (further y h p (I.only k hk on)))
        (or_cases (bit line y) (cell bytes to pitch k y) (sym (T.joins y h) ∙ t));
    has = λ z y hz hy s t. more z y hz hy t (T.notes z hz s);
  }
    where
      more : (z y : ℕ) → z < pitch * 8 → y < pitch * 8 → On bytes to pitch z y → (bit done z ≡ true) ⊎ ((z ≡ k) ⊎ ((bit met k ≡ true) × On bytes to pitch k z)) → bit line' y ≡ true
      more z y hz hy t (inl d) = keep y hy (I.has z y hz hy d t)
      more z y hz hy t (inr (inl e)) = get y hy (subst (λ (n : ℕ). On bytes to pitch n y) e t)
      more z y hz hy t (inr (inr (m, s))) = get y hy (G k hk m z y hz hy s t)

-- nothing is left, or nothing more may be taken in
module _ (bytes : List ℕ) (to pitch : ℕ) (line₀ line done : List ℕ) (I : Searching bytes to pitch line₀ line done) where
  pub searched_all : (ended : Bool) → Open line done line pitch None → Searched bytes to pitch line₀ ended line
  searched_all ended O = record {
    keeps = I.keeps;
    only = I.only;
    closed = λ l z y hz hy s t. I.has z y hz hy (O.done_too z hz s s) t;
  }

  pub searched_part : Searched bytes to pitch line₀ false line
  searched_part = record { keeps = I.keeps; only = I.only; closed = λ l. absurd (false≢true l) }
