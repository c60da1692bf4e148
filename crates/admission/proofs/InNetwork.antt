-- What a network's type tells of its first record and of its rules.
use mathlib.Core.Path.{◌≡◌, sym, ap, ◌∙◌}
use mathlib.Core.List.{List}
use Prim.Native.Nat.{ℕ, ◌-◌, ◌≤◌, ◌<◌}
use native.Mathlib.Omega.{arith}
use lib.ListN.{length, drop, length-drop}
use lib.Seq.{length-take-le}
use Rattle.format.specs.Record.{records, of_kind}
use Rattle.format.specs.Laws.Records.{length_records}
use Rattle.scan.specs.Stored.{Stored}
use Rattle.scan.specs.declared.Layout.{Layout}

module _ (n : ℕ) (l : Layout) (store : List ℕ) (S : Stored n l store) where
  -- it has a first record
  pub some_record : 0 < n
  some_record = omega (arith, S.laid.some_widths, S.laid.switches, S.laid.few_rules, S.laid.within, length_records n store)

  -- which stands in the store
  pub first_within : 24 ≤ length store
  first_within = omega (arith, some_record, S.room)

  -- its rules are counted
  pub rules_are : l.nodes - l.rules ≡ length (of_kind 4 (records n store))
  rules_are =
      sym (ap length S.laid.rules ∙ length-take-le (l.nodes - l.rules) (drop l.rules (records n store)) (omega (arith, length-drop l.rules (records n store), S.laid.within)))
