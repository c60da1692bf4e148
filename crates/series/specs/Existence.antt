-- There is a series for every start and every list of work buffers and commands, so that the theorem about series is about all of them.
use Rattle.std.specs.Prelude.{◌≡◌, refl, List, [], ◌∷◌, map, ℕ, length}
use Rattle.std.proofs.Common.{ap}
use Rattle.book.specs.Reference.{Installed, Outcome, outcome_of, command_work}
use Rattle.book.specs.Command.{Call, call, Promised}
use Rattle.series.specs.Series.{count_after, Series, end, next}

-- what a caller brings to a call: a work buffer and a command's bytes, of any length and content
pub record Brought : Type 0 where
  pub work : List ℕ
  pub given : List ℕ

-- what was brought to a call
abbrev pub brought : Call → Brought
brought c = record { work = c.work; given = c.given }

-- a series from a start, for a list of what is brought to its calls
pub record SeriesFor (start : Installed) (list : List Brought) : Type 0 where
  pub calls : List Call
  pub final : Installed
  pub series : Series start calls final
  pub brings : map brought calls ≡ list

-- the call that answers what is brought, where i is installed
abbrev answering : Installed → Brought → Call
answering i b =
    let o : Outcome = outcome_of i b.given (length b.work) in
    call i.bytes i.count b.work b.given o.answer o.after.bytes (command_work i b.given b.work)

-- it exists, whatever the start and whatever is brought
pub series_for : (start : Installed) (list : List Brought) → SeriesFor start list
series_for i [] = record { calls = []; final = i; series = end; brings = refl }
series_for i (b ∷ list) =
    let c = answering i b in
    let promised : Promised c = record { answered = refl; stores = refl; works = refl } in
    let rest = series_for (record { count = count_after i.count c.answer; bytes = c.store_after }) list in
    record { calls = c ∷ rest.calls; final = rest.final; series = next c promised rest.series; brings = ap (λ (l : List Brought). b ∷ l) rest.brings }
