-- Painting a rule over the arrivals that it matches, set after set.
use borrow.Author.Tests.{lt-ltb, le-ltb, eq-eqb, ne_eqb}
use mathlib.Core.Path.{◌≡◌, refl, sym, ap, ◌∙◌}
use mathlib.Core.Bool.{Bool, true, false, cond, ◌&&◌, ◌||◌, or-false}
use mathlib.Core.List.{List}
use Prim.Native.Nat.{ℕ, ◌+◌, ◌^◌, ◌<◌}
use native.Mathlib.Decide.{ℕ_discrete, dec_lt}
use native.Mathlib.Omega.{arith}
use lib.Dec.{eqb, ltb}
use lib.ListN.{length, set}
use lib.Seq.{get_or-set_same, get_or-set_other}
use Rattle.basics.specs.Bit.{bit_of}
use Rattle.format.specs.State.{state, header_of, port_of, switch_of}
use Rattle.format.specs.Laws.States.{header_of_lem, port_of_lem, switch_of_lem}
use Rattle.widths.specs.declared.Widths.{Widths}
use Rattle.choice.specs.declared.leads.Lead.{Lead}
use Rattle.onestep.specs.Chosen.{Arrival}
use Rattle.onestep.specs.ByBytes.{arrival}
use Rattle.choice.specs.Leads.{no_lead, lead_at, raised, Painted}

-- who leads after a rule, by its rank
module _ (r j : ℕ) (x : Lead) where
  pub takes_lead : x.rank < r → raised r j x ≡ record { rank = r; first = j; last = j }
  unfolding raised
  takes_lead h = rw (lt-ltb x.rank r h)

  pub joins_lead : x.rank ≡ r → raised r j x ≡ record { rank = x.rank; first = x.first; last = j }
  unfolding raised
  joins_lead q = rw (le-ltb x.rank r (omega arith), eq-eqb x.rank r q)

  pub stays_behind : r < x.rank → raised r j x ≡ x
  unfolding raised
  stays_behind h = rw (le-ltb x.rank r (omega arith), ne_eqb x.rank r (λ q. omega arith))

-- counting a rule once more changes nothing
again : (r j : ℕ) (x : Lead) → raised r j (raised r j x) ≡ raised r j x
again r j x = go (dec_lt x.rank r) (ℕ_discrete x.rank r)
  where
    go : Dec (x.rank < r) → Dec (x.rank ≡ r) → raised r j (raised r j x) ≡ raised r j x
    go (yes h) d = rw (takes_lead r j x h) (joins_lead r j (record { rank = r; first = j; last = j }) refl)
    go (no h) (yes q) = rw (joins_lead r j x q) (joins_lead r j (record { rank = x.rank; first = x.first; last = j }) q)
    go (no h) (no q) = ap (raised r j) (stays_behind r j x (omega (arith, q)))

-- counting a rule for one state
-- a rule is counted for the state s, and for no other
module _ (s r j : ℕ) (leads : List Lead) (h : s < length leads) where
  abbrev pub counted : List Lead
  counted = set leads s (raised r j (lead_at leads s))

  counted_here : lead_at counted s ≡ raised r j (lead_at leads s)
  counted_here = get_or-set_same leads s (raised r j (lead_at leads s)) no_lead h

  counted_other : (t : ℕ) → (t ≡ s → ⊥) → lead_at counted t ≡ lead_at leads t
  counted_other t n = get_or-set_other leads s t (raised r j (lead_at leads s)) no_lead n

module _ (w : Widths) (r j : ℕ) where
  -- which arrivals pass may be said in other words
  painted_as : (f g : Arrival → Bool) (a b : List Lead)
      → ((sw p h : ℕ) → sw < 2 ^ w.w → p < 2 ^ w.p → h < 2 ^ w.h → f (arrival sw p h) ≡ g (arrival sw p h))
      → Painted w f r j a b → Painted w g r j a b
  painted_as f g a b e P = record {
    leads = λ sw p h hs hp hh. P.leads sw p h hs hp hh ∙ ap (λ (t : Bool). cond t (raised r j (lead_at a (state w 0 sw p h))) (lead_at a (state w 0 sw p h))) (e sw p h hs hp hh);
  }

  -- one set after another
  either : (s t : Bool) (x y z : Lead) → y ≡ cond s (raised r j x) x → z ≡ cond t (raised r j y) y → z ≡ cond (s || t) (raised r j x) x
  either true true x y z e q = q ∙ ap (raised r j) e ∙ again r j x
  either true false x y z e q = q ∙ e
  either false true x y z e q = q ∙ ap (raised r j) e
  either false false x y z e q = q ∙ e

  painted_both : (f g : Arrival → Bool) (a b c : List Lead) → Painted w f r j a b → Painted w g r j b c → Painted w (λ v. f v || g v) r j a c
  painted_both f g a b c A B = record {
    leads = λ sw p h hs hp hh. either (f (arrival sw p h)) (g (arrival sw p h)) _ _ _ (A.leads sw p h hs hp hh) (B.leads sw p h hs hp hh);
  }

  -- one arrival
  module _ (sw p h s : ℕ) (hs : sw < 2 ^ w.w) (hp : p < 2 ^ w.p) (hh : h < 2 ^ w.h) (is : s ≡ state w 0 sw p h) where
    abbrev here : Arrival → Bool
    here v = eqb sw v.switch && eqb v.port p && eqb v.header h

    pub painted_one : (a : List Lead) → s < length a → Painted w (λ v. eqb sw v.switch && eqb v.port p && eqb v.header h) r j a (set a s (raised r j (lead_at a s)))
    painted_one a low = record { leads = each }
      where
        b : List Lead
        b = counted s r j a low

        each : (x y z : ℕ) → x < 2 ^ w.w → y < 2 ^ w.p → z < 2 ^ w.h
            → lead_at b (state w 0 x y z) ≡ cond (here (arrival x y z)) (raised r j (lead_at a (state w 0 x y z))) (lead_at a (state w 0 x y z))
        each x y z hx hy hz = go (ℕ_discrete x sw) (ℕ_discrete y p) (ℕ_discrete z h)
          where
            Is : Type 0
            Is = lead_at b (state w 0 x y z) ≡ cond (here (arrival x y z)) (raised r j (lead_at a (state w 0 x y z))) (lead_at a (state w 0 x y z))

            go : Dec (x ≡ sw) → Dec (y ≡ p) → Dec (z ≡ h) → Is
            go (yes u) (yes v) (yes t) =
                let q : state w 0 x y z ≡ s = ap (λ (m : ℕ). state w 0 m y z) u ∙ ap (λ (m : ℕ). state w 0 sw m z) v ∙ ap (state w 0 sw p) t ∙ sym is in
                rw (eq-eqb sw x (sym u), eq-eqb y p v, eq-eqb z h t, q) (counted_here s r j a low)
            go (no u) d e = rw (ne_eqb sw x (λ q. u (sym q))) (counted_other s r j a low (state w 0 x y z) (λ q. u (sym (switch_of_lem w 0 x y z hx hy hz) ∙ ap (switch_of w) (q ∙ is) ∙ switch_of_lem w 0 sw p h hs hp hh)))
            go (yes u) (no v) e = rw (eq-eqb sw x (sym u), ne_eqb y p v) (counted_other s r j a low (state w 0 x y z) (λ q. v (sym (port_of_lem w 0 x y z hx hy hz) ∙ ap (port_of w) (q ∙ is) ∙ port_of_lem w 0 sw p h hs hp hh)))
            go (yes u) (yes v) (no t) = rw (eq-eqb sw x (sym u), eq-eqb y p v, ne_eqb z h t) (counted_other s r j a low (state w 0 x y z) (λ q. t (sym (header_of_lem w 0 x y z hx hy hz) ∙ ap (header_of w) (q ∙ is) ∙ header_of_lem w 0 sw p h hs hp hh)))

-- the numbers below k that pass
abbrev below : ℕ → (ℕ → Bool) → ℕ → Bool
below k f x = ltb x k && f x

module _ (f : ℕ → Bool) (x : ℕ) where
  below_all : (k : ℕ) → x < k → below k f x ≡ f x
  below_all k h = ap (λ (t : Bool). t && f x) (lt-ltb x k h)

  below_in : (k : ℕ) → f k ≡ true → (below k f x || eqb x k) ≡ below (k + 1) f x
  below_in k e = go (ℕ_discrete x k) (dec_lt x k)
    where
      go : Dec (x ≡ k) → Dec (x < k) → (below k f x || eqb x k) ≡ below (k + 1) f x
      go (yes q) d = rw (le-ltb x k (omega arith), lt-ltb x (k + 1) (omega arith), eq-eqb x k q) (sym (ap f q ∙ e))
      go (no q) (yes h) = rw (lt-ltb x k h, lt-ltb x (k + 1) (omega arith), ne_eqb x k q) (or-false (f x))
      go (no q) (no h) = rw (le-ltb x k (omega arith), le-ltb x (k + 1) (omega (arith, q)), ne_eqb x k q)

  below_out : (k : ℕ) → f k ≡ false → below k f x ≡ below (k + 1) f x
  below_out k e = go (ℕ_discrete x k) (dec_lt x k)
    where
      go : Dec (x ≡ k) → Dec (x < k) → below k f x ≡ below (k + 1) f x
      go (yes q) d = rw (le-ltb x k (omega arith), lt-ltb x (k + 1) (omega arith)) (sym (ap f q ∙ e))
      go (no q) (yes h) = rw (lt-ltb x k h, lt-ltb x (k + 1) (omega arith))
      go (no q) (no h) = rw (le-ltb x k (omega arith), le-ltb x (k + 1) (omega (arith, q)))

-- the arrivals whose number is one of those below k that pass, where `among t v` is a test of the arrival v that has t for the test of its number
abbrev pub up_to : (Bool → Arrival → Bool) → (Arrival → ℕ) → (ℕ → Bool) → ℕ → Arrival → Bool
up_to among number f k v = among (below k f (number v)) v

-- a set of ports or of headers, one number after the other
module _ (w : Widths) (r j : ℕ) (among : Bool → Arrival → Bool) (number : Arrival → ℕ) (f : ℕ → Bool)
    (joined : (s t : Bool) (v : Arrival) → (among s v || among t v) ≡ among (s || t) v) where
  abbrev before : ℕ → Arrival → Bool
  before = up_to among number f

  pub painted_in : (k : ℕ) (a b c : List Lead) → f k ≡ true → Painted w (up_to among number f k) r j a b → Painted w (λ v. among (eqb (number v) k) v) r j b c → Painted w (up_to among number f (k + 1)) r j a c
  painted_in k a b c e A B =
      painted_as w r j (λ v. before k v || among (eqb (number v) k) v) (before (k + 1)) a c
      (λ sw p h hs hp hh. let v = arrival sw p h in joined (below k f (number v)) (eqb (number v) k) v ∙ ap (λ (b : Bool). among b v) (below_in f (number v) k e))
      (painted_both w r j (before k) (λ v. among (eqb (number v) k) v) a b c A B)

  pub painted_out : (k : ℕ) (a b : List Lead) → f k ≡ false → Painted w (up_to among number f k) r j a b → Painted w (up_to among number f (k + 1)) r j a b
  painted_out k a b e A =
      painted_as w r j (before k) (before (k + 1)) a b (λ sw p h hs hp hh. let v = arrival sw p h in ap (λ (b : Bool). among b v) (below_out f (number v) k e)) A

  pub painted_end : (k : ℕ) (a b : List Lead) → ((sw p h : ℕ) → p < 2 ^ w.p → h < 2 ^ w.h → number (arrival sw p h) < k)
      → Painted w (up_to among number f k) r j a b → Painted w (λ v. among (f (number v)) v) r j a b
  painted_end k a b l A =
      painted_as w r j (before k) (λ v. among (f (number v)) v) a b
      (λ sw p h hs hp hh. let v = arrival sw p h in ap (λ (b : Bool). among b v) (below_all f (number v) k (l sw p h hp hh))) A

-- the test of a port, and that of a header
abbrev pub of_port : ℕ → ℕ → Bool → Arrival → Bool
of_port sw h t v = eqb sw v.switch && t && eqb v.header h

abbrev pub of_header : ℕ → ℕ → Bool → Arrival → Bool
of_header sw ports t v = eqb sw v.switch && bit_of ports v.port && t

join_middle : (a s t b : Bool) → ((a && s && b) || (a && t && b)) ≡ (a && (s || t) && b)
join_middle true true true true = refl
join_middle true true true false = refl
join_middle true true false true = refl
join_middle true true false false = refl
join_middle true false t b = refl
join_middle false s t b = refl

join_last : (a b s t : Bool) → ((a && b && s) || (a && b && t)) ≡ (a && b && (s || t))
join_last true true s t = refl
join_last true false s t = refl
join_last false b s t = refl

pub port_joined : (sw h : ℕ) (s t : Bool) (v : Arrival) → (of_port sw h s v || of_port sw h t v) ≡ of_port sw h (s || t) v
port_joined sw h s t v = join_middle (eqb sw v.switch) s t (eqb v.header h)

pub header_joined : (sw ports : ℕ) (s t : Bool) (v : Arrival) → (of_header sw ports s v || of_header sw ports t v) ≡ of_header sw ports (s || t) v
header_joined sw ports s t v = join_last (eqb sw v.switch) (bit_of ports v.port) s t
