-- How large the numbers of the route call's answer are.
use Rattle.std.specs.Prelude.{◌≡◌, refl, Bool, true, false, List, [], ℕ, ◌≤◌, length}
use Rattle.std.proofs.Math.Option.{Option, none, some}
use Rattle.std.proofs.Common.{arith, lit<, pow_mono}
use Rattle.format.specs.Record.{Net, widths_of}
use Rattle.widths.specs.Widths.{states}
use Rattle.refusals.specs.Count.{widths_bound}
use Rattle.refusals.specs.Refusal.{Refusal, or_else, row, file_row, check_refusal}
use Rattle.book.specs.Check.{unless}
use Rattle.book.specs.Laws.Bounds.{Fits16, check_within}
use Rattle.book.specs.Laws.Refusals.{checks}
use Rattle.trails.specs.InNet.{IsIn, route_length, route, route_is_meant}
use Rattle.trails.specs.Answer.{RouteAnswer, found, no_route, refused}
use Rattle.trails.specs.Call.{RouteCall, network_of, row14, row15, route_row, route_refusal, route_for, of_route, route_answer}

-- the numbers of an answer fit in 16 bits
abbrev pub RouteSmall : RouteAnswer → Type 0
RouteSmall (found count) = Fits16 count
RouteSmall no_route = Unit {0}
RouteSmall (refused number place) = Fits16 number × Fits16 place

-- a route of a network that rows 3 to 10 and 16 pass has at most 1025 states
few : (net : Net) (a b : ℕ) → file_row [] net ≡ none → (o : Option (List ℕ)) → IsIn net a b o → RouteSmall (of_route o)
unfolding states
few net a b e none h = tt
few net a b e (some l) h =
    let most : states (widths_of net) ≤ 1024 = pow_mono (widths_bound net e).bits in
    omega (arith, route_length net a b h)

-- what the route call answers
pub route_small : (c : RouteCall) → RouteSmall (route_answer c)
unfolding route_answer route_refusal route_row route_for
route_small c = go (check_refusal c.store c.count (length c.work)) refl (row14 net c.start c.end) (row15 net (length c.list))
  where
    net : Net
    net = network_of c

    go : (r : Refusal) → check_refusal c.store c.count (length c.work) ≡ r → (outside short : Bool)
        → RouteSmall (unless (or_else r (or_else (row outside 14 0) (row short 15 0))) refused (of_route (route net c.start c.end)))
    go (some f) e outside short = let b = (check_within c.store c.count (length c.work)).bounds f e in (omega (arith, b.0), omega (arith, b.1))
    go none e true short = (lit< tt, lit< tt)
    go none e false true = (lit< tt, lit< tt)
    go none e false false =
        few net c.start c.end (checks c.store c.count (length c.work) e).file (route net c.start c.end) (route_is_meant net c.start c.end)
