-- Which rules lead an arrival: those of the highest rank, and between which of the rules they stand.
use Rattle.std.specs.Prelude.{◌≡◌, Bool, cond, List, [], ◌∷◌, ℕ, ◌+◌, ◌^◌, ◌<◌, ◌≤◌, eqb, ltb, length, get_or}
use Rattle.basics.specs.Lists.{keep}
use Rattle.format.specs.Record.{Net, of_kind}
use Rattle.format.specs.State.{state}
use Rattle.format.specs.Laws.Parts.{part}
use Rattle.widths.specs.declared.Widths.{Widths}
use Rattle.choice.specs.declared.leads.Lead.{Lead}
use Rattle.onestep.specs.Chosen.{Arrival, chosen}
use Rattle.onestep.specs.ByBytes.{arrival, rank_of}

-- how many states arrive, at most
abbrev pub most_arriving : ℕ
most_arriving = 512

-- no rule leads
abbrev pub no_lead : Lead
no_lead = record { rank = 0; first = 0; last = 0 }

-- what the table, by the numbers of arriving states, has for a state
abbrev pub lead_at : List Lead → ℕ → Lead
lead_at leads s = get_or leads s no_lead

-- no rule leads an arrival within the widths
abbrev pub NoneLead : Widths → List Lead → Type 0
NoneLead w leads = (sw p h : ℕ) → sw < 2 ^ w.w → p < 2 ^ w.p → h < 2 ^ w.h → (lead_at leads (state w 0 sw p h)).rank ≡ 0

-- who leads after rule j of rank r, where it was x before: a higher rank takes the lead, and an equal one is the last that has it
unfoldable pub raised : ℕ → ℕ → Lead → Lead
raised r j x =
    cond (ltb x.rank r) (record { rank = r; first = j; last = j })
    (cond (eqb x.rank r) (record { rank = x.rank; first = x.first; last = j }) x)

-- rule j of rank r was counted for the arrivals that pass, and for no other
pub record Painted (w : Widths) (passes : Arrival → Bool) (r j : ℕ) (before after : List Lead) : Type 0 where
  pub leads : (sw p h : ℕ) → sw < 2 ^ w.w → p < 2 ^ w.p → h < 2 ^ w.h
      → lead_at after (state w 0 sw p h) ≡ cond (passes (arrival sw p h)) (raised r j (lead_at before (state w 0 sw p h))) (lead_at before (state w 0 sw p h))

-- the records that act on an arrival, by who leads: the miss where no rule matches, else the rules of the highest rank, which stand from the first to the last
pub record Leads (net : Net) (w : Widths) (a : Arrival) (x : Lead) : Type 0 where
  pub miss : x.rank ≡ 0 → chosen net a ≡ get_or (of_kind 3 net) a.switch [] ∷ []
  pub rules : (x.rank ≡ 0 → ⊥) → chosen net a ≡ keep (λ r. eqb (rank_of w a r) x.rank) (part (of_kind 4 net) x.first (x.last + 1))
  pub within : (x.rank ≡ 0 → ⊥) → (x.first ≤ x.last) × (x.last < length (of_kind 4 net))

-- the table says so of every arrival
abbrev pub AllLead : Net → Widths → List Lead → Type 0
AllLead net w leads = (sw p h : ℕ) → sw < 2 ^ w.w → p < 2 ^ w.p → h < 2 ^ w.h → Leads net w (arrival sw p h) (lead_at leads (state w 0 sw p h))
