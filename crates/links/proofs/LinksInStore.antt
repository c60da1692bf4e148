-- The links of a network in a store, one after the other.
use mathlib.Core.Path.{◌≡◌, sym, ap, ◌∙◌}
use mathlib.Core.Bool.{◌||◌}
use mathlib.Core.List.{[], ◌∷◌}
use Prim.Native.Nat.{ℕ, ◌+◌, ◌<◌, ◌≤◌}
use native.Mathlib.Omega.{arith}
use lib.ListN.{get_or}
use Rattle.basics.specs.Lists.{any}
use Rattle.format.specs.Record.{Rec, Net, records, ends_at}
use Rattle.format.specs.Laws.Parts.{part, part_more}
use Rattle.format.specs.Search.{record_at}
use Rattle.format.specs.Laws.Records.{record_at_lem}
use Rattle.widths.specs.declared.Widths.{Widths}
use Rattle.scan.specs.declared.network.Network.{Network}
use Rattle.scan.specs.Stored.{Stored}
use Rattle.onestep.specs.Step.{across}
use Rattle.links.specs.Carried.{link_of, AreEnds, crosses}
use Rattle.links.proofs.LinkCrossings.{links_after}
use Rattle.choice.specs.Laws.GoodRecords.{in_store_lem, in_net, link_good}

-- the link at place i
module _ (net : Network) (i : ℕ) (low : 1 ≤ i) (high : i < net.layout.misses) where
  abbrev w : Widths
  w = net.layout.widths

  abbrev rs : Net
  rs = records net.n net.store.now

  abbrev link : Rec
  link = get_or (records net.n net.store.now) i []

  st : Stored net.n net.layout net.store.now
  st = net.stored

  pub link_in : i < net.n
  link_in = omega (arith, in_store_lem _ _ _ st, st.laid.switches, st.laid.few_rules)

  pub link_read : record_at net.store.now i ≡ get_or (records net.n net.store.now) i []
  link_read = sym (record_at_lem net.n net.store.now i link_in)

  pub link_ends : AreEnds net.layout.widths (link_of (get_or (records net.n net.store.now) i []))
  link_ends = let g = link_good _ _ _ st i low high in record { one = g.0; other = g.1 }

  links_left : part rs i net.layout.misses ≡ link ∷ part rs (i + 1) net.layout.misses
  links_left = part_more rs i net.layout.misses high (omega (arith, in_net _ _ _ st, st.laid.switches, st.laid.few_rules))

  -- it, and the links after it
  pub links_cross : (x y : ℕ) → crosses net.layout.widths (λ sw p. across sw p (part (records net.n net.store.now) i net.layout.misses)) x y
      ≡ (crosses net.layout.widths (λ sw p. across sw p (get_or (records net.n net.store.now) i [] ∷ [])) x y
      || crosses net.layout.widths (λ sw p. across sw p (part (records net.n net.store.now) (i + 1) net.layout.misses)) x y)
  links_cross x y = ap (λ (ls : Net). crosses w (λ sw p. across sw p ls) x y) links_left ∙ links_after w link (part rs (i + 1) net.layout.misses) x y

  pub links_end : (sw p : ℕ) → any (ends_at sw p) (part (records net.n net.store.now) i net.layout.misses)
      ≡ (ends_at sw p (get_or (records net.n net.store.now) i []) || any (ends_at sw p) (part (records net.n net.store.now) (i + 1) net.layout.misses))
  unfolding any
  links_end sw p = ap (any (ends_at sw p)) links_left
