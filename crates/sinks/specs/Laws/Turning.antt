-- What the search from a state keeps.
use Rattle.std.specs.Prelude.{◌≡◌, refl, Bool, true, false, List, ◌⊎◌, ℕ, ◌+◌, ◌*◌, ◌<◌, ◌≤◌, length, replicate}
use Rattle.std.proofs.Common.{sym, ap, subst, ◌∙◌, inl, inr, ⊎_elim, arith}
use Rattle.std.proofs.lemmas.Bool.{false≢true}
use Rattle.std.proofs.Math.Decide.{ℕ_discrete}
use Rattle.planes.specs.Plane.{bit, cell, On, plane_size, Apart}
use Rattle.planes.specs.Lines.{Put, Loaded, BitSet}
use Rattle.planes.specs.Laws.Places.{line_before}
use Rattle.planes.specs.Laws.Lines.{loaded_bit, put_bit, line_apart, plane_apart, no_bit}
use Rattle.basics.specs.Laws.Tests.{not_both}
use Rattle.walks.specs.Walk.{Walk}
use Rattle.walks.specs.Walk.Walk.{one, more}
use Rattle.walks.specs.Laws.Walks.{start, join}
use Rattle.std.specs.List.{between}
use Rattle.words.specs.Words.{Lacks}
use Rattle.words.specs.Laws.Seeking.{part_bit}
use Rattle.sinks.specs.Turns.{Between, Stable, Idle, Blank, Noted, Through, Searched, Met, MetAll}

-- a line is within the bytes
pub line_fits : (base pitch x len : ℕ) → base + plane_size pitch ≤ len → x < pitch * 8 → base + x * pitch + pitch ≤ len
line_fits base pitch x len h hx = omega (arith, line_before x (pitch * 8) pitch hx)

-- the plane at from stays
pub from_kept : (from to pitch : ℕ) (a l : List ℕ) → Apart from to pitch (length a) → Between from to pitch a l
    → (x y : ℕ) → x < pitch * 8 → y < pitch * 8 → cell l from pitch x y ≡ cell a from pitch x y
from_kept from to pitch a l A B = plane_apart to (plane_size pitch) a l B.under B.over from pitch A.apart

-- a walk whose steps are walks
pub flat : {s : ℕ} {R Q : ℕ → ℕ → Type 0} → ((x y : ℕ) → x < s → y < s → Q x y → Walk s R x y) → {x y : ℕ} → Walk s Q x y → Walk s R x y
flat f (one {a = x} {b = y} hx hy r) = f x y hx hy r
flat f (more {a = x} {b = z} hx r p) = join (f x z hx (start p) r) (flat f p)

-- between a relation and its closure
pub between_none : (to pitch : ℕ) (a : List ℕ) → Between to to pitch a a
between_none to pitch a = record { len = refl; sound = λ x y hx hy t. one hx hy t; grows = λ x y hx hy t. t; under = λ m h. refl; over = λ m h. refl }

pub between_more : (from to pitch : ℕ) (a l m : List ℕ) → Between from to pitch a l → Between to to pitch l m → Between from to pitch a m
between_more from to pitch a l m B C = record {
  len = C.len ∙ B.len;
  sound = λ x y hx hy t. flat B.sound (C.sound x y hx hy t);
  grows = λ x y hx hy t. C.grows x y hx hy (B.grows x y hx hy t);
  under = λ n h. C.under n h ∙ B.under n h;
  over = λ n h. C.over n h ∙ B.over n h;
}

-- a line that has the lines of its states has all that a walk leads to
along : (to pitch k : ℕ) (l : List ℕ) → Stable to pitch l k → {z y : ℕ} → On l to pitch k z → Walk (pitch * 8) (On l to pitch) z y → On l to pitch k y
along to pitch k l S s (one {a = z} {b = y} hz hy r) = S z y hz hy s r
along to pitch k l S s (more {a = z} {b = w} hz r p) = along to pitch k l S (S z w hz (start p) s r) p

module _ (to pitch x : ℕ) (met met' l : List ℕ) (hx : x < pitch * 8) (G : Through to pitch met l) (M : BitSet x met met') where
  -- line x is stored
  module _ (old line m : List ℕ) (L : Loaded (to + x * pitch) pitch l old) (S : Searched l to pitch old true line)
      (P : Put line (to + x * pitch) pitch l m) where
    was : (y : ℕ) → y < pitch * 8 → bit old y ≡ cell l to pitch x y
    was y hy = loaded_bit (to + x * pitch) pitch l old L y hy

    here : (y : ℕ) → y < pitch * 8 → cell m to pitch x y ≡ bit line y
    here y hy = put_bit line (to + x * pitch) pitch l m P y hy

    away : (i y : ℕ) → (i ≡ x → ⊥) → y < pitch * 8 → cell m to pitch i y ≡ cell l to pitch i y
    away i y g hy = line_apart _ to pitch x l m P i y g hy

    -- line x has no other state than a walk leads to
    walks : (y : ℕ) → y < pitch * 8 → bit line y ≡ true → On l to pitch x y ⊎ ((z : ℕ) × On l to pitch x z × Walk (pitch * 8) (On l to pitch) z y)
    walks y hy t =
        ⊎_elim
        (λ p. inl (sym (was y hy) ∙ p))
        (λ p. inr (p.0, sym (was p.0 (start p.2)) ∙ p.1, p.2))
        (S.only y hy t)

    sound : (i y : ℕ) → i < pitch * 8 → y < pitch * 8 → Dec (i ≡ x) → On m to pitch i y → Walk (pitch * 8) (On l to pitch) i y
    sound i y hi hy (yes e) t =
        subst (λ (n : ℕ). Walk (pitch * 8) (On l to pitch) n y) (sym e)
        (⊎_elim
        (λ p. one hx hy p)
        (λ p. more hx p.1 p.2)
        (walks y hy (sym (here y hy) ∙ subst (λ (n : ℕ). On m to pitch n y) e t)))
    sound i y hi hy (no g) t = one hi hy (sym (away i y g hy) ∙ t)

    grows : (i y : ℕ) → y < pitch * 8 → Dec (i ≡ x) → On l to pitch i y → On m to pitch i y
    grows i y hy (yes e) t =
        subst (λ (n : ℕ). On m to pitch n y) (sym e)
        (here y hy ∙ S.keeps y hy (was y hy ∙ subst (λ (n : ℕ). On l to pitch n y) e t))
    grows i y hy (no g) t = away i y g hy ∙ t

    -- a line that was met has what line x got
    reach : (k y : ℕ) → k < pitch * 8 → y < pitch * 8 → bit met k ≡ true → On l to pitch k x → bit line y ≡ true → On l to pitch k y
    reach k y hk hy s p t =
        ⊎_elim
        (λ q. G k hk s x y hx hy p q)
        (λ q. along to pitch k l (G k hk s) (G k hk s x q.0 hx (start q.2) p q.1) q.2)
        (walks y hy t)

    stable : (k : ℕ) → k < pitch * 8 → bit met' k ≡ true → Dec (k ≡ x) → (z y : ℕ) → z < pitch * 8 → y < pitch * 8 → Dec (z ≡ x) → On m to pitch k z → On m to pitch z y → On m to pitch k y
    stable k hk s (yes e) z y hz hy (yes f) p q = subst (λ (n : ℕ). On m to pitch n y) (f ∙ sym e) q
    stable k hk s (yes e) z y hz hy (no g) p q =
        subst (λ (n : ℕ). On m to pitch n y) (sym e)
        (here y hy ∙ S.closed refl z y hz hy (sym (here z hz) ∙ subst (λ (n : ℕ). On m to pitch n z) e p) (sym (away z y g hy) ∙ q))
    stable k hk s (no f) z y hz hy (yes e) p q =
        away k y f hy
        ∙ reach k y hk hy (sym (M.others k f) ∙ s)
        (sym (away k x f hx) ∙ subst (λ (n : ℕ). On m to pitch k n) e p)
        (sym (here y hy) ∙ subst (λ (n : ℕ). On m to pitch n y) e q)
    stable k hk s (no f) z y hz hy (no g) p q =
        away k y f hy ∙ G k hk (sym (M.others k f) ∙ s) z y hz hy (sym (away k z f hz) ∙ p) (sym (away z y g hy) ∙ q)

    pub met_more : Met to pitch l met' m
    met_more = record {
      between = record {
        len = P.len;
        sound = λ i y hi hy t. sound i y hi hy (ℕ_discrete i x) t;
        grows = λ i y hi hy t. grows i y hy (ℕ_discrete i x) t;
        under = λ n h. P.under n (omega arith);
        over = λ n h. P.over n (omega (arith, line_before x (pitch * 8) pitch hx));
      };
      through = λ k hk s z y hz hy. stable k hk s (ℕ_discrete k x) z y hz hy (ℕ_discrete z x);
    }

-- a search that was given up
pub met_same : (to pitch : ℕ) (met l : List ℕ) → Through to pitch met l → Met to pitch l met l
met_same to pitch met l G = record { between = between_none to pitch l; through = G }

-- idle states
pub idle_none : (to pitch n : ℕ) (l : List ℕ) → Idle to pitch (replicate n 0) l
idle_none to pitch n l x y hx hy s t = not_both s (no_bit n x)

-- a line without a state is blank where it stands
pub blank_here : (l line : List ℕ) (at pitch : ℕ) → line ≡ between at (at + pitch) l → length line ≡ pitch → Lacks line 0 (length line * 8) → Blank l at pitch
blank_here l line at pitch e f B y h =
    sym (part_bit l at (at + pitch) y (omega arith)) ∙ ap (λ (k : List ℕ). bit k y) (sym e) ∙ B.none y (omega arith) (omega (arith, f))

-- idle states: one that is noted, those noted so far
pub noted_none : (l : List ℕ) (at pitch x : ℕ) (idle : List ℕ) → Noted l at pitch x idle idle
noted_none l at pitch x idle j s = inl s

pub noted_one : (l : List ℕ) (at pitch x : ℕ) (idle idle' : List ℕ) → Blank l at pitch → BitSet x idle idle' → Noted l at pitch x idle idle'
noted_one l at pitch x idle idle' blank S j s = go (ℕ_discrete j x)
  where
    go : Dec (j ≡ x) → (bit idle j ≡ true) ⊎ ((j ≡ x) × Blank l at pitch)
    go (yes e) = inr (e, blank)
    go (no g) = inl (sym (S.others j g) ∙ s)

pub idle_more : (to pitch x : ℕ) (l idle idle' : List ℕ) → Idle to pitch idle l → Noted l (to + x * pitch) pitch x idle idle' → Idle to pitch idle' l
idle_more to pitch x l idle idle' I N j y hj hy s t = go (N j s)
  where
    go : (bit idle j ≡ true) ⊎ ((j ≡ x) × Blank l (to + x * pitch) pitch) → ⊥
    go (inl p) = I j y hj hy p t
    go (inr (e, none)) = not_both (subst (λ (n : ℕ). On l to pitch n y) e t) (none y hy)

-- no walk leads from an idle state
no_walk : (to pitch x : ℕ) (idle l : List ℕ) → Idle to pitch idle l → bit idle x ≡ true → {y : ℕ} → Walk (pitch * 8) (On l to pitch) x y → ⊥
no_walk to pitch x idle l I s (one {b = y} hx hy r) = I x y hx hy s r
no_walk to pitch x idle l I s (more {b = z} hx r p) = I x z hx (start p) s r

pub idle_kept : (to pitch : ℕ) (idle a l : List ℕ) → Idle to pitch idle a → Between to to pitch a l → Idle to pitch idle l
idle_kept to pitch idle a l I B x y hx hy s t = no_walk to pitch x idle a I s (B.sound x y hx hy t)

-- idle states are met
pub met_start : (to pitch : ℕ) (idle l : List ℕ) → Idle to pitch idle l → Met to pitch l idle l
met_start to pitch idle l I = record { between = between_none to pitch l; through = λ x hx s z y hz hy p q. absurd (I x z hx hz s p) }

-- one line after another
pub met_on : (to pitch : ℕ) (a met met' l m : List ℕ) → Met to pitch a met l → Met to pitch l met' m → Met to pitch a met' m
met_on to pitch a met met' l m A B = record { between = between_more to to pitch a l m A.between B.between; through = B.through }

-- all of them, or not
pub met_all : (to pitch : ℕ) (a met l : List ℕ) (all : Bool) → Met to pitch a met l → (all ≡ true → (y : ℕ) → y < pitch * 8 → bit met y ≡ true) → MetAll to pitch a all l
met_all to pitch a met l all A h = record { between = A.between; stable = λ t x hx. A.through x hx (h t x hx) }

pub met_no_line : (to pitch : ℕ) (a : List ℕ) → MetAll to pitch a false a
met_no_line to pitch a = record { between = between_none to pitch a; stable = λ t. absurd (false≢true t) }
