-- What an answer of the route call tells, entry by entry and byte by byte.
use Rattle.std.specs.Prelude.{◌≡◌, refl, Bool, true, false, List, ◌++◌, ℕ, ◌+◌, ◌-◌, ◌<◌, ◌≤◌, length, get_or, drop}
use Rattle.std.proofs.Common.{sym, ap, ◌∙◌, arith, ltb-false, length-append, length-drop, get_or-drop, get_or-append-add}
use Rattle.std.proofs.Math.Path.{subst⁻¹}
use Rattle.std.proofs.Math.Option.{Option, none, some}
use Rattle.std.proofs.Math.ListN.{get_or-append}
use Rattle.walks.specs.Walk.{Walk}
use Rattle.format.specs.Record.{Net, widths_of}
use Rattle.widths.specs.Widths.{states}
use Rattle.refusals.specs.Rows.{work_needed}
use Rattle.refusals.specs.Refusal.{Refusal, or_else, row, check_refusal}
use Rattle.onestep.specs.Step.{Step}
use Rattle.book.specs.Check.{unless, cleared}
use Rattle.book.specs.Bytes.{WorkBytes}
use Rattle.book.specs.Laws.Bytes.{cleared_bytes}
use Rattle.book.specs.Laws.Refusals.{Checks, checks}
use Rattle.trails.specs.InNet.{RouteIn, IsIn, route_length, route, route_is_meant}
use Rattle.trails.specs.Answer.{RouteAnswer, found, no_route, refused}
use Rattle.trails.specs.Call.{RouteCall, network_of, row14, row15, route_row, route_refusal, route_for, of_route, with_route, route_answer, list_after_call, work_after_call, RoutePromised}

-- the list has the states of a route, and behind them its own entries
pub record Listed (l before after : List ℕ) : Type 0 where
  pub len : length after ≡ length before
  pub route : (j : ℕ) → j < length l → get_or after j 0 ≡ get_or l j 0
  pub behind : (j : ℕ) → length l ≤ j → get_or after j 0 ≡ get_or before j 0

-- what each answer tells of the network, of the list and of the work buffer
pub record Told (c : RouteCall) (answer : RouteAnswer) (list_after work_after : List ℕ) : Type 0 where
  pub if_found : (count : ℕ) → answer ≡ found count
      → (l : List ℕ) × RouteIn (network_of c) c.start c.end l × (length l ≡ count) × Listed l c.list list_after
  pub if_none : answer ≡ no_route → (Walk (states (widths_of (network_of c))) (Step (network_of c)) c.start c.end → ⊥) × (list_after ≡ c.list)
  pub if_refused : (number place : ℕ) → answer ≡ refused number place → (list_after ≡ c.list) × (work_after ≡ c.work)
  pub work_judged : ((number place : ℕ) → answer ≡ refused number place → ⊥) → WorkBytes (work_needed (network_of c)) c.work work_after

-- the entries of a list with a route in it
listed : (l list : List ℕ) → length l ≤ length list → Listed l list (l ++ drop (length l) list)
listed l list h =
    record {
      len = length-append l (drop (length l) list) ∙ omega (arith, length-drop (length l) list);
      route = λ j k. get_or-append l (drop (length l) list) 0 j k;
      behind = λ j k.
          let e : length l + (j - length l) ≡ j = omega arith in
          ap (λ (m : ℕ). get_or (l ++ drop (length l) list) m 0) (sym e)
          ∙ get_or-append-add l (drop (length l) list) (j - length l) 0
          ∙ get_or-drop (length l) list (j - length l) 0
          ∙ ap (λ (m : ℕ). get_or list m 0) e;
    }

-- two answers that differ
no_answer : {A : Type 0} → ◌≡◌ {A = ℕ} 0 1 → A
no_answer e = absurd (omega (arith, e))

-- every answer that is promised tells this
pub told : (c : RouteCall) (answer : RouteAnswer) (list_after work_after : List ℕ) → RoutePromised c answer list_after work_after → Told c answer list_after work_after
unfolding route_answer list_after_call work_after_call route_refusal route_row row15 route_for
told c answer list_after work_after p =
    subst⁻¹ (λ (a : RouteAnswer). Told c a list_after work_after) p.answered
    (subst⁻¹ (λ (l : List ℕ). Told c (route_answer c) l work_after) p.lists
    (subst⁻¹ (Told c (route_answer c) (list_after_call c)) p.works
    (go (check_refusal c.store c.count (length c.work)) refl (row14 net c.start c.end) (row15 net (length c.list)) refl (route net c.start c.end) (route_is_meant net c.start c.end))))
  where
    net : Net
    net = network_of c

    -- a refused call
    refusal : (number place : ℕ) → Told c (refused number place) c.list c.work
    refusal number place =
        record {
          if_found = λ count e. no_answer cc;
          if_none = λ e. no_answer cc;
          if_refused = λ number place e. (refl, refl);
          work_judged = λ h. absurd (h number place refl);
        }

    -- one that no row refuses
    shown : Checks c.store c.count (length c.work) → states (widths_of net) + 1 ≤ length c.list → (o : Option (List ℕ)) → IsIn net c.start c.end o
        → Told c (of_route o) (with_route o c.list) (cleared (work_needed net) c.work)
    shown k room none h =
        record {
          if_found = λ count e. no_answer cc;
          if_none = λ e. (h, refl);
          if_refused = λ number place e. no_answer cc;
          work_judged = λ q. cleared_bytes (work_needed net) c.work k.enough;
        }
    shown k room (some l) h =
        record {
          if_found = λ count e. (l, h, cc, listed l c.list (omega (arith, route_length net c.start c.end h, room)));
          if_none = λ e. no_answer cc;
          if_refused = λ number place e. no_answer cc;
          work_judged = λ q. cleared_bytes (work_needed net) c.work k.enough;
        }

    go : (r : Refusal) → check_refusal c.store c.count (length c.work) ≡ r → (outside short : Bool) → row15 net (length c.list) ≡ short
        → (o : Option (List ℕ)) → IsIn net c.start c.end o
        → (let f = or_else r (or_else (row outside 14 0) (row short 15 0)) in
        Told c (unless f refused (of_route o)) (unless f (λ number place. c.list) (with_route o c.list)) (unless f (λ number place. c.work) (cleared (work_needed net) c.work)))
    go (some f) e outside short s o h = refusal f.0 f.1
    go none e true short s o h = refusal 14 0
    go none e false true s o h = refusal 15 0
    go none e false false s o h = shown (checks c.store c.count (length c.work) e) (ltb-false (length c.list) (states (widths_of net) + 1) s) o h
