-- A state's steps by some records are those by each of them alone.
use Rattle.std.proofs.Common.{eqb-true, sym, ap, ◌∙◌}
use Rattle.std.specs.Prelude.{◌≡◌, Bool, ℕ, eqb, get_or}
use Rattle.std.proofs.Math.Path.{refl}
use Rattle.std.proofs.Math.Bool.{true, false}
use mathlib.Core.List.{List, [], ◌∷◌, map, flat_map, append-nil, Memᴰ}
use Rattle.std.proofs.Math.Logic.{⊎_elim}
use Rattle.basics.specs.Laws.Tests.{or_left, or_right, or_cases}
use Rattle.basics.specs.Lists.{member}
use Rattle.format.specs.Record.{Rec, Net, of_kind, widths_of}
use Rattle.format.specs.State.{state, header_of, port_of, switch_of, direction_of}
use Rattle.basics.specs.Laws.Every.{in_empty}
use Rattle.widths.specs.declared.Widths.{Widths}
use Rattle.onestep.specs.Chosen.{Arrival, or_miss, chosen}
use Rattle.basics.specs.Laws.Lists.{member-append}
use Rattle.onestep.specs.Actions.{sent}
use Rattle.onestep.specs.Step.{across, arrival_of, next_by}

-- what records send by f
module _ (f : Rec → List ℕ) where
  -- the states that a state steps to by some records: whether it arrives, whether at port 0, and where a link takes it
  abbrev steps_by : Bool → Bool → List ℕ → Net → List ℕ
  steps_by arrives dropped links acts = elim arrives [ true ↦ elim dropped [ true ↦ [] | false ↦ flat_map f acts ] | false ↦ links ]

  same : (arrives dropped : Bool) (links : List ℕ) (acts others : Net) → (arrives ≡ true → acts ≡ others)
      → steps_by arrives dropped links acts ≡ steps_by arrives dropped links others
  same true dropped links acts others e = ap (steps_by true dropped links) (e refl)
  same false dropped links acts others e = refl

  module _ (t : ℕ) where
    -- what one of some records sends, they send
    sent_among : {r : Rec} {acts : Net} → Memᴰ r acts → member t (f r) ≡ true → member t (flat_map f acts) ≡ true
    unfolding flat_map
    sent_among (Memᴰ.head {x} {xs} q) e =
        member-append t (f x) (flat_map f xs) ∙ or_left (member t (f x)) (member t (flat_map f xs)) (rw q at e)
    sent_among (Memᴰ.tail {x} {xs} m) e =
        member-append t (f x) (flat_map f xs) ∙ or_right (member t (f x)) (member t (flat_map f xs)) (sent_among m e)

    joint : (arrives dropped : Bool) (links : List ℕ) (r : Rec) (acts : Net) → (arrives ≡ true → Memᴰ r acts)
        → member t (steps_by arrives dropped links (r ∷ [])) ≡ true → member t (steps_by arrives dropped links acts) ≡ true
    unfolding flat_map
    joint true true links r acts m e = e
    joint true false links r acts m e = sent_among (m refl) (rw append-nil at e)
    joint false dropped links r acts m e = e

    -- what some records send, one of them does
    sender : (acts : Net) → member t (flat_map f acts) ≡ true → (r : Rec) × Memᴰ r acts × (member t (f r) ≡ true)
    unfolding flat_map
    sender [] e = in_empty t e
    sender (r ∷ acts) e =
        ⊎_elim (λ h. (r, Memᴰ.head refl, h)) (λ h. let q = sender acts h in (q.0, Memᴰ.tail q.1, q.2))
        (or_cases (member t (f r)) (member t (flat_map f acts)) (sym (member-append t (f r) (flat_map f acts)) ∙ e))

    single : (arrives dropped : Bool) (links : List ℕ) (acts : Net) → (r : Rec) × Memᴰ r acts
        → member t (steps_by arrives dropped links acts) ≡ true
        → (r : Rec) × Memᴰ r acts × (member t (steps_by arrives dropped links (r ∷ [])) ≡ true)
    unfolding flat_map
    single true true links acts some e = (some.0, some.1, e)
    single true false links acts some e = let q = sender acts e in (q.0, q.1, rw append-nil q.2)
    single false dropped links acts some e = (some.0, some.1, e)

module _ (net : Net) (s : ℕ) where
  abbrev w : Widths
  w = widths_of net

  abbrev links : List ℕ
  links = map (λ e. state w 0 e.0 e.1 (header_of w s)) (across (switch_of w s) (port_of w s) (of_kind 2 net))

  -- by the same records, if it arrives, a state steps to the same states
  pub by_same : (acts others : Net) → (direction_of (widths_of net) s ≡ 0 → acts ≡ others) → next_by net acts s ≡ next_by net others s
  unfolding next_by
  by_same acts others e =
      same (sent net w (arrival_of net s)) (eqb (direction_of w s) 0) (eqb (port_of w s) 0) links acts others (λ d. e (eqb-true (direction_of w s) 0 d))

  module _ (t : ℕ) where
    -- a step by one of some records is one by all of them
    pub by_all : (r : Rec) (acts : Net) → (direction_of (widths_of net) s ≡ 0 → Memᴰ r acts)
        → member t (next_by net (r ∷ []) s) ≡ true → member t (next_by net acts s) ≡ true
    unfolding next_by
    by_all r acts m =
        joint (sent net w (arrival_of net s)) t (eqb (direction_of w s) 0) (eqb (port_of w s) 0) links r acts (λ d. m (eqb-true (direction_of w s) 0 d))

    -- and a step by some records is one by one of them, if there is any
    pub by_one : (acts : Net) → (r : Rec) × Memᴰ r acts → member t (next_by net acts s) ≡ true
        → (r : Rec) × Memᴰ r acts × (member t (next_by net (r ∷ []) s) ≡ true)
    unfolding next_by
    by_one = single (sent net w (arrival_of net s)) t (eqb (direction_of w s) 0) (eqb (port_of w s) 0) links

-- some record acts on every arrival: the miss, where no rule does
or_miss-first : (rules : Net) (miss : Rec) → Memᴰ (get_or (or_miss rules miss) 0 []) (or_miss rules miss)
unfolding or_miss
or_miss-first [] miss = Memᴰ.head refl
or_miss-first (r ∷ rules) miss = Memᴰ.head refl

pub first_acts : (net : Net) (a : Arrival) → Memᴰ (get_or (chosen net a) 0 []) (chosen net a)
unfolding chosen
first_acts net a = or_miss-first _ _
