use borrow.Author.Tests.{lt-ltb, le-ltb, eq-eqb, ne_eqb}
use mathlib.Core.Path.{sym, ◌∙◌}
use native.Mathlib.Omega.{arith}
use Rattle.format.specs.Record.{most_records}
use Rattle.streams.specs.Input.{is_command}
use Rattle.streams.specs.Reading.{next_of}
use Rattle.streams.proofs.input.next_in.Goals as goal

pub returns-then-piece-eq0 : goal.returns-then-piece-eq0
unfolding next_of
returns-then-piece-eq0 c = rw (eq-eqb _ _ c.if-piece-eq0.true)

pub returns-then-command : goal.returns-then-command
unfolding next_of is_command
returns-then-command c = rw (ne_eqb _ _ c.if-piece-eq0.false, lt-ltb _ _ c.if-piece-lt24.true, sym c.is_command-command.ensures ∙ c.if-command.true)

pub returns-then-piece-lt24 : goal.returns-then-piece-lt24
unfolding next_of is_command
returns-then-piece-lt24 c = rw (ne_eqb _ _ c.if-piece-eq0.false, lt-ltb _ _ c.if-piece-lt24.true, sym c.is_command-command.ensures ∙ c.if-command.false)

pub returns-then-command-2 : goal.returns-then-command-2
unfolding next_of is_command
returns-then-command-2 c = rw (ne_eqb _ _ c.if-piece-eq0.false, le-ltb _ _ c.if-piece-lt24.false, sym c.is_command-command.ensures ∙ c.if-command-2.true)

pub returns-then-n-lt-MOST_RECORDS : goal.returns-then-n-lt-MOST_RECORDS
unfolding next_of is_command
returns-then-n-lt-MOST_RECORDS c = rw (ne_eqb _ _ c.if-piece-eq0.false, le-ltb _ _ c.if-piece-lt24.false, sym c.is_command-command.ensures ∙ c.if-command-2.false, lt-ltb c.args.n most_records (omega arith))

pub returns : goal.returns
unfolding next_of is_command
returns c = rw (ne_eqb _ _ c.if-piece-eq0.false, le-ltb _ _ c.if-piece-lt24.false, sym c.is_command-command.ensures ∙ c.if-command-2.false, le-ltb c.args.n most_records (omega arith))
