-- What the two calls leave in store and work, byte by byte. Bytes are read by `get_or`, and no length changes, so that every byte is spoken of.
use Rattle.std.specs.Prelude.{◌≡◌, List, [], ℕ, ◌*◌, ◌/◌, ◌%◌, ◌<◌, ◌≤◌, length, get_or}
use Rattle.format.specs.Record.{Net, store_bytes, at, records}
use Rattle.refusals.specs.Rows.{work_needed}
use Rattle.book.specs.Answer.{CheckAnswer, CommandAnswer, forwarded, blocked}
use Rattle.book.specs.Reference.{network}
use Rattle.book.specs.Command.{Call, start_of, left, NotRefused}

-- the store after a forwarded command: byte j is the record's byte below 24 times the count, zero up to byte 15,768, and as before behind it
pub record StoreBytes (net : Net) (count : ℕ) (before after : List ℕ) : Type 0 where
  pub counted : count ≡ length net
  pub len : length after ≡ length before
  pub in_records : (j : ℕ) → j < count * 24 → get_or after j 0 ≡ at (get_or net (j / 24) []) (j % 24)
  pub up_to_15768 : (j : ℕ) → count * 24 ≤ j → j < store_bytes → get_or after j 0 ≡ 0
  pub behind : (j : ℕ) → store_bytes ≤ j → get_or after j 0 ≡ get_or before j 0

-- the work buffer after a verdict: byte j is zero below the length that is needed, and as before behind it
pub record WorkBytes (needed : ℕ) (before after : List ℕ) : Type 0 where
  pub len : length after ≡ length before
  pub within : (j : ℕ) → j < needed → get_or after j 0 ≡ 0
  pub behind : (j : ℕ) → needed ≤ j → get_or after j 0 ≡ get_or before j 0

-- what a check call leaves in the work buffer; the store is only read
pub record CheckBytes (store : List ℕ) (n : ℕ) (work : List ℕ) (answer : CheckAnswer) (after : List ℕ) : Type 0 where
  pub work_judged : ((number place : ℕ) → answer ≡ CheckAnswer.refused number place → ⊥) → WorkBytes (work_needed (records n store)) work after
  pub work_refused : (number place : ℕ) → answer ≡ CheckAnswer.refused number place → after ≡ work

-- what a command call leaves in both buffers
pub record CommandBytes (c : Call) : Type 0 where
  pub store_forwarded : (m : ℕ) → c.answer ≡ forwarded m → StoreBytes (left c) m c.store c.store_after
  pub store_blocked : (policy state : ℕ) → c.answer ≡ blocked policy state → c.store_after ≡ c.store
  pub store_refused : (number place : ℕ) → c.answer ≡ CommandAnswer.refused number place → c.store_after ≡ c.store
  pub work_judged : NotRefused c → WorkBytes (work_needed (network (start_of c))) c.work c.work_after
  pub work_refused : (number place : ℕ) → c.answer ≡ CommandAnswer.refused number place → c.work_after ≡ c.work
