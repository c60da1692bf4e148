-- The points where links end, marked link after link.
use mathlib.Core.Path.{◌≡◌, refl, sym, ap, ap₂, ◌∙◌}
use mathlib.Core.Bool.{Bool, true, false, ◌&&◌, ◌||◌, or-false}
use mathlib.Core.List.{List, []}
use Prim.Native.Nat.{ℕ, ◌+◌, ◌^◌, ◌<◌, ◌≤◌}
use lib.Dec.{eqb}
use lib.ListN.{get_or, replicate}
use Rattle.planes.specs.Plane.{bit}
use Rattle.planes.specs.Lines.{BitSet}
use Rattle.planes.specs.Laws.Lines.{no_bit, set_bit}
use Rattle.basics.specs.Lists.{any}
use Rattle.format.specs.Record.{Net, records, ends_at, linked}
use Rattle.format.specs.Laws.Parts.{part, part_none}
use Rattle.widths.specs.declared.Widths.{Widths}
use Rattle.scan.specs.declared.network.Network.{Network}
use Rattle.links.specs.declared.Link.{Link}
use Rattle.links.specs.Carried.{link_of, AreEnds, point, LinkedPoints}
use Rattle.links.proofs.LinksInStore.{links_end}
use Rattle.links.specs.declared.Points.{Points}
use Rattle.links.specs.Laws.PointBits.{one_point, point_port}

-- a link ends at a point exactly if the point is marked, or a link from place i on ends there
pub record Marked (net : Network) (i : ℕ) (points : List ℕ) : Type 0 where
  pub is : (sw p : ℕ) → sw < 2 ^ net.layout.widths.w → p < 2 ^ net.layout.widths.p
      → linked (records net.n net.store.now) sw p ≡ (bit points (point net.layout.widths sw p) || any (ends_at sw p) (part (records net.n net.store.now) i net.layout.misses))

two_more_lem : (b x y r : Bool) → b || ((x || y) || r) ≡ (y || (x || b)) || r
two_more_lem true true true r = refl
two_more_lem true true false r = refl
two_more_lem true false true r = refl
two_more_lem true false false r = refl
two_more_lem false true true r = refl
two_more_lem false true false r = refl
two_more_lem false false true r = refl
two_more_lem false false false r = refl

module _ (net : Network) where
  abbrev w : Widths
  w = net.layout.widths

  abbrev rs : Net
  rs = records net.n net.store.now

  pub marked_none : Marked net 1 (replicate 32 0)
  unfolding linked
  marked_none = record {
    is = λ sw p hs hp. ap (any (ends_at sw p)) net.stored.laid.links ∙ ap (λ (b : Bool). b || any (ends_at sw p) (part rs 1 net.layout.misses)) (sym (no_bit 32 (point w sw p)));
  }

  -- the link at place i, by its ends
  module _ (i : ℕ) (low : 1 ≤ i) (high : i < net.layout.misses) (link : Link) (is : link ≡ link_of (get_or (records net.n net.store.now) i [])) (E : AreEnds net.layout.widths link) where
    ends_as : (sw p : ℕ) → ends_at sw p (get_or rs i []) ≡ ((eqb link.one.switch sw && eqb link.one.port p) || (eqb link.other.switch sw && eqb link.other.port p))
    unfolding ends_at
    ends_as sw p = ap (λ (k : Link). (eqb k.one.switch sw && eqb k.one.port p) || (eqb k.other.switch sw && eqb k.other.port p)) (sym is)

    pub marked_more : (a b c : List ℕ) → BitSet (point net.layout.widths link.one.switch link.one.port) a b → BitSet (point net.layout.widths link.other.switch link.other.port) b c
        → Marked net i a → Marked net (i + 1) c
    marked_more a b c S T M = record {
      is = λ sw p hs hp.
          let q = point w sw p in
          let rest = any (ends_at sw p) (part rs (i + 1) net.layout.misses) in
          M.is sw p hs hp
          ∙ ap (λ (x : Bool). bit a q || x) (links_end net i low high sw p ∙ ap (λ (x : Bool). x || rest) (ends_as sw p))
          ∙ two_more_lem (bit a q) (eqb link.one.switch sw && eqb link.one.port p) (eqb link.other.switch sw && eqb link.other.port p) rest
          ∙ ap (λ (x : Bool). x || rest)
          (sym (set_bit (point w link.other.switch link.other.port) q b c T
          ∙ ap₂ ◌||◌ (one_point w sw p link.other.switch link.other.port hp (point_port w link.other.switch link.other.port E.other))
          (set_bit (point w link.one.switch link.one.port) q a b S
          ∙ ap (λ (x : Bool). x || bit a q) (one_point w sw p link.one.switch link.one.port hp (point_port w link.one.switch link.one.port E.one)))));
    }

  pub marked_all : (i : ℕ) (points : Points) → net.layout.misses ≤ i → Marked net i points.bits → LinkedPoints (records net.n net.store.now) net.layout.widths points
  unfolding any
  marked_all i points h M = record {
    is = λ sw p hs hp.
        sym (M.is sw p hs hp
        ∙ ap (λ (ls : Net). bit points.bits (point w sw p) || any (ends_at sw p) ls) (part_none rs i net.layout.misses h)
        ∙ or-false (bit points.bits (point w sw p)));
  }
