-- Rows 12, 16 and 13 by what a command fails, and the first that refuses it.
use borrow.Author.Tests.{eq-eqb, ne_eqb, le-ltb, le-leb, lt-leb}
use mathlib.Core.Path.{◌≡◌, ◌∙◌}
use mathlib.Core.Bool.{true, false, not, and-true, and-false, or-true}
use mathlib.Core.Option.{none, some}
use Prim.Native.Nat.{◌≤◌, ◌<◌}
use lib.ListN.{length}
use native.Mathlib.Decide.{dec_lt}
use native.Mathlib.Omega.{arith}
use Rattle.format.specs.Record.{Rec, Net, kind, command_kind, of_kind, present, widths_of}
use Rattle.format.specs.declared.kinds.CommandKind.TheVariants.{Unknown as k_no_command}
use Rattle.widths.specs.declared.Widths.{Widths}
use Rattle.effect.specs.Laws.Applied.{no_command}
use Rattle.refusals.specs.Rows.{row12, row13, row16_command}
use Rattle.format.specs.Fields.{command_good}
use Rattle.refusals.specs.Refusal.{command_row}
use Rattle.refusals.specs.FullTable.{adds_new, row_13}

module _ (net : Net) (c : Rec) where
  pub wrong_length : (length c ≡ 24 → ⊥) → row12 net c ≡ true
  unfolding row12
  wrong_length h = rw (ne_eqb _ _ h)

  unnamed : (w : Widths) → command_kind (kind c) ≡ k_no_command → command_good w c ≡ false
  unfolding command_good
  unnamed w e = rw (e, and-false)

  low_kind : kind c < 6 → command_kind (kind c) ≡ k_no_command
  low_kind h = no_command (kind c) (λ e. omega arith) (λ e. omega arith) (λ e. omega arith)

  high_kind : 8 < kind c → command_kind (kind c) ≡ k_no_command
  high_kind h = no_command (kind c) (λ e. omega arith) (λ e. omega arith) (λ e. omega arith)

  -- good fields have one of the three kinds
  pub by_fields : length c ≡ 24 → row12 net c ≡ not (command_good (widths_of net) c)
  unfolding row12
  by_fields l = go (dec_lt (kind c) 6) (dec_lt 8 (kind c))
    where
      go : Dec (kind c < 6) → Dec (8 < kind c) → row12 net c ≡ not (command_good (widths_of net) c)
      go (yes h) d = simp (unnamed (widths_of net) (low_kind h), or-true)
      go (no h) (yes k) = simp (unnamed (widths_of net) (high_kind k), or-true)
      go (no h) (no k) = rw (eq-eqb _ _ l, le-ltb (kind c) 6 (omega arith), le-ltb 8 (kind c) (omega arith))

  pub no_add : adds_new net c ≡ false → row13 net c ≡ false
  no_add h = row_13 net c ∙ rw h

  pub not_full : length (of_kind 4 net) < 256 → row13 net c ≡ false
  not_full h = row_13 net c ∙ rw (lt-leb _ _ h, and-false, and-false)

  pub when_full : adds_new net c ≡ true → 256 ≤ length (of_kind 4 net) → row13 net c ≡ not (present c net)
  when_full e h = row_13 net c ∙ rw (e, le-leb _ _ h, and-true)

  pub refused_12 : row12 net c ≡ true → some (12, 0) ≡ command_row net c
  unfolding command_row
  refused_12 e = rw e

  pub refused_16 : row12 net c ≡ false → row16_command net c ≡ true → some (16, 0) ≡ command_row net c
  unfolding command_row
  refused_16 d e = rw (d, e)

  pub refused_13 : row12 net c ≡ false → row16_command net c ≡ false → row13 net c ≡ true → some (13, 0) ≡ command_row net c
  unfolding command_row
  refused_13 d e f = rw (d, e, f)

  pub passed_all : row12 net c ≡ false → row16_command net c ≡ false → row13 net c ≡ false → none ≡ command_row net c
  unfolding command_row
  passed_all d e f = rw (d, e, f)
