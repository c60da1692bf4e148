use borrow.Author.Tests.{eq-eqb, ne_eqb}
use mathlib.Core.Path.{◌≡◌, sym, ap, ap₂, subst, ◌∙◌}
use mathlib.Core.Bool.{Bool}
use mathlib.Core.List.{List, [], flat_map}
use Prim.Native.Nat.{ℕ, ◌+◌, ◌-◌, ◌≤◌, ◌<◌}
use native.Mathlib.Omega.{arith}
use lib.Dec.{eqb}
use lib.ListN.{length, get_or}
use Rattle.format.specs.Record.{Rec, records, of_kind}
use Rattle.scan.specs.declared.network.Network.{Network}
use Rattle.states.specs.declared.Frame.{Frame}
use Rattle.onestep.specs.ByBytes.{rank_of}
use Rattle.onestep.specs.Actions.{sent}
use Rattle.choice.specs.Leads.{Leads}
use Rattle.choice.specs.declared.leads.Lead.{Lead}
use Rattle.choice.specs.Laws.GoodRecords.{rules_count, rule_at}
use Rattle.groups.specs.declared.buckets.Groups.{Groups}
use Rattle.groups.specs.Relayed.{Ran}
use Rattle.groups.specs.Laws.Running.{net_stored, Toward, toward_more, toward_end}
use Rattle.steps.specs.Arrivals.{arrives, acting_send}
use Rattle.steps.proofs.ActingRules.{acts, passes, acts_none}
use Rattle.steps.proofs.run_leaders.Goals as goal
use Rattle.steps.proofs.run_leaders.Goals.{then-r-lead, else-r-lead}
use Rattle.steps.proofs.run_leaders.Invariants.{leading}

-- the last of the leading rules is a rule
last_in : (net : Network) (f : Frame) (x : Lead) → Leads (records net.n net.store.now) net.layout.widths (arrives f) x → (x.rank ≡ 0 → ⊥) → net.layout.rules + x.last < net.layout.nodes
last_in net f x L some =
    let S = net_stored net in
    omega (arith, L.within some, rules_count net.n net.layout net.store.now S, S.laid.few_rules)

pub overflow_add-l : goal.overflow_add-l
overflow_add-l c =
    let net = c.args.rules.now.net in
    omega (arith, last_in net c.args.relay.now.frame c.args.lead c.requires.leads.0 c.requires.leads.1, net.stored.laid.within)

pub loop-j-preserved : goal.loop-j-preserved
loop-j-preserved c =
    let o = c.loop-j in
    let x = c.args.relay.now in
    let net = c.args.rules.now.net in
    let lead = c.args.lead in
    let S = net_stored net in
    let rs = records net.n net.store.now in
    let w = net.layout.widths in
    let v = arrives x.frame in
    let f = sent rs w v in
    let i = net.layout.rules + o.j in
    let placed : i < net.layout.nodes = omega (arith, last_in net x.frame lead c.requires.leads.0 c.requires.leads.1) in
    let low : net.layout.rules ≤ i = omega arith in
    let top : Rec → Bool = λ r. eqb (rank_of w v r) lead.rank in
    let few : lead.last + 1 ≤ length (of_kind 4 rs) = omega (arith, c.requires.leads.0.within c.requires.leads.1) in
    let lt : o.j < lead.last + 1 = omega arith in
    let number : net.layout.rules + o.j - net.layout.rules ≡ o.j = omega arith in
    -- rule j by its place
    let is : get_or (of_kind 4 rs) o.j [] ≡ get_or rs i [] =
    ap (λ (k : ℕ). get_or (of_kind 4 rs) k []) (sym number) ∙ rule_at net.n net.layout net.store.now S i low placed in
    let all = acting_send net x.frame in
    let later : ℕ → List ℕ = λ k. flat_map f (leading rs w v lead.rank k (lead.last + 1)) in
    let T = o.invariant in
    elim c.if-r-lead.branch [
      | then-r-lead b ↦
          let y = o.relay in
          let sends = λ (n : Network) (g : Frame). sent (records n.n n.store.now) n.layout.widths (arrives g) (get_or (records n.n n.store.now) i []) in
          let e : sends y.groups.now.net y.frame ≡ f (get_or (of_kind 4 rs) o.j []) =
          ap₂ sends (ap (λ (g : Groups). g.net) T.groups ∙ c.requires.same) T.frame ∙ ap f (sym is) in
          rw b.relay-is
          (toward_more all (later o.j) (f (get_or (of_kind 4 rs) o.j [])) (later (o.j + 1)) x y _
          (acts f top (of_kind 4 rs) (lead.last + 1) few o.j lt (eq-eqb _ _ (sym c.rank-r.ensures ∙ b.if-r-lead.true)))
          T (subst (λ (l : List ℕ). Ran l y b.run_record.new.relay) e b.run_record.ensures))
      | else-r-lead b ↦
          rw b.relay-is
          (subst (λ (l : List ℕ). Toward all l x o.relay) (passes f top (of_kind 4 rs) (lead.last + 1) few o.j lt (ne_eqb _ _ (λ q. b.if-r-lead.false (c.rank-r.ensures ∙ q)))) T)
    ]

pub returns : goal.returns
returns c =
    let o = c.loop-j in
    let x = c.args.relay.now in
    let net = c.args.rules.now.net in
    let rs = records net.n net.store.now in
    let w = net.layout.widths in
    let v = arrives x.frame in
    let few : c.args.lead.last + 1 ≤ length (of_kind 4 rs) = omega (arith, c.requires.leads.0.within c.requires.leads.1) in
    toward_end (acting_send net x.frame) x o.relay
    (subst (λ (l : List ℕ). Toward (acting_send net x.frame) l x o.relay)
    (acts_none (sent rs w v) (λ r. eqb (rank_of w v r) c.args.lead.rank) (of_kind 4 rs) (c.args.lead.last + 1) few o.j (omega arith)) o.invariant)
