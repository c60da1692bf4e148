-- Demand 3 of the exported calls: one claim about a whole series of calls of `wegbaro_command`, as a C program makes them.
use Rattle.std.specs.Prelude.{◌≡◌, List, [], ◌∷◌, map, ℕ, length}
use Rattle.std.proofs.Common.{sym, ap, ◌∙◌}
use Rattle.std.proofs.Math.Path.{subst⁻¹}
use Rattle.format.specs.Record.{records}
use Rattle.judgement.specs.Choice.{EvenPoliciesHold}
use Rattle.book.specs.Answer.{CheckAnswer, CommandAnswer}
use Rattle.book.specs.Reference.{Installed, network}
use Rattle.book.specs.Command.{Call, call, start_of, Promised}
use Rattle.series.specs.Series.{count_after, Series, SaidToHold, Kept}
use Rattle.series.specs.Theorem.{kept}
use Rattle.series.specs.EvenPolicies.{forwarded_even, series_even}
use Rattle.codes.specs.Code.{command_code, CheckCoded, CommandCoded}
use Rattle.codes.specs.Decoded.{check_decoded, command_decoded, command_decoded_lem, check_promised, command_promised}

-- a call of `wegbaro_command`: what it was lent and given, what it answered, and what it left
pub record CodedCall : Type 0 where
  pub store : List ℕ
  pub count : ℕ
  pub work : List ℕ
  pub given : List ℕ
  pub code : ℕ
  pub store_after : List ℕ
  pub work_after : List ℕ

-- it keeps its promise
abbrev pub KeepsPromise : CodedCall → Type 0
KeepsPromise c = CommandCoded c.store c.count c.work c.given c.code c.store_after c.work_after

-- the same call with its answer decoded
abbrev pub decoded : CodedCall → Call
decoded c = call c.store c.count c.work c.given (command_decoded c.code) c.store_after c.work_after

-- calls one after the other, each with the store that the one before left and the count last answered as forwarded
pub data CodedSeries : Installed → List CodedCall → Installed → Type 0 where
  end : {i : Installed} → CodedSeries i [] i
  next : {cs : List CodedCall} {i : Installed} (c : CodedCall) → KeepsPromise c
      → CodedSeries (record { count = count_after c.count (command_decoded c.code); bytes = c.store_after }) cs i
      → CodedSeries (record { count = c.count; bytes = c.store }) (c ∷ cs) i

-- `wegbaro_check` answered that it holds, with some work
pub record CodedHolds (i : Installed) : Type 0 where
  pub work : List ℕ
  pub code : ℕ
  pub work_after : List ℕ
  pub promised : CheckCoded i.bytes i.count work code work_after
  pub holds : check_decoded code ≡ CheckAnswer.holds

-- decoded, such a series is one of command calls
pub as_series : {start : Installed} {cs : List CodedCall} {final : Installed} → CodedSeries start cs final → Series start (map decoded cs) final
as_series end = Series.end
as_series (next c d rest) = Series.next (decoded c) (command_promised d) (as_series rest)

-- a command call with its answer coded
abbrev pub coded_as : Call → CodedCall
coded_as c =
    record { store = c.store; count = c.count; work = c.work; given = c.given; code = command_code c.answer; store_after = c.store_after; work_after = c.work_after }

code_back : (c : Call) → Promised c → command_decoded (command_code c.answer) ≡ c.answer
code_back c d =
    ap (λ (a : CommandAnswer). command_decoded (command_code a)) d.answered ∙ command_decoded_lem (start_of c) c.given (length c.work) ∙ sym d.answered

-- and each series of command calls is one of exported calls, their answers coded: so there are such series
pub as_coded : {start : Installed} {cs : List Call} {final : Installed} → Series start cs final → CodedSeries start (map coded_as cs) final
as_coded Series.end = end
as_coded (Series.next {cs} {i} c d rest) =
    next (coded_as c) (record { answered = ap command_code d.answered; stores = d.stores; works = d.works })
    (subst⁻¹ (λ (a : CommandAnswer). CodedSeries (record { count = count_after c.count a; bytes = c.store_after }) (map coded_as cs) i) (code_back c d)
    (as_coded rest))

-- a start that `wegbaro_check` said to hold is one that the check call said to hold
pub said_to_hold : (i : Installed) → CodedHolds i → SaidToHold i
said_to_hold i h = (length h.work, sym (check_promised h.promised).answered ∙ h.holds)

-- from any network that `wegbaro_check` said to hold, by any finite series of calls of `wegbaro_command`, each acting on what the one before left
pub coded_kept : {start : Installed} {cs : List CodedCall} {final : Installed} → CodedHolds start → CodedSeries start cs final
    → Kept start (map decoded cs) final
coded_kept {start} h series = kept (said_to_hold start h) (as_series series)

-- after a call whose decoded answer is forwarded every even policy of the network in the store holds under every choice among equals
pub coded_forwarded_even : (c : CodedCall) → KeepsPromise c → (m : ℕ) → command_decoded c.code ≡ CommandAnswer.forwarded m
    → EvenPoliciesHold (records m c.store_after)
coded_forwarded_even c d = forwarded_even (decoded c) (command_promised d)

-- and so at the end of a series does every even policy of the installed network
pub coded_series_even : {start : Installed} {cs : List CodedCall} {final : Installed} → CodedHolds start → CodedSeries start cs final
    → EvenPoliciesHold (network final)
coded_series_even {start} h series = series_even (said_to_hold start h) (as_series series)
