-- A series never gets stuck: a network that rows 3 to 10 and 16 pass still passes them after a command, so only rows 11 and a command's own can refuse the next.
use Rattle.std.specs.Prelude.{◌≡◌, refl, [], ℕ, ◌+◌, ◌*◌, ◌<◌, ◌≤◌, length, get_or}
use Rattle.std.proofs.Common.{ap₂, ◌∙◌, arith}
use Rattle.std.proofs.Math.Option.{none}
use Rattle.format.specs.Record.{Rec, Net, most_records, of_kind}
use Rattle.widths.specs.Widths.{plane_bytes}
use Rattle.refusals.specs.Rows.{work_needed}
use Rattle.refusals.specs.Refusal.{file_row, command_row}
use Rattle.refusals.specs.Count.{count_bound}
use Rattle.widths.specs.declared.Widths.{Widths}
use Rattle.format.specs.Laws.Records.{Whole}
use Rattle.format.specs.Laws.Kinds.{longest_alike, widths_first}
use Rattle.refusals.specs.Laws.Passing.{not_empty}
use Rattle.effect.specs.Apply.{would_leave}
use Rattle.effect.specs.Laws.StoredRule.{command}
use Rattle.effect.specs.Laws.StillPasses.{applied_kept}

-- what holds of the network that a command leaves: the first record, links, misses, policies and groups are the same, and a series may go on with it
pub record GoesOn (net after : Net) : Type 0 where
  pub passes : file_row [] after ≡ none
  pub same_first : get_or after 0 [] ≡ get_or net 0 []
  pub same_links : of_kind 2 after ≡ of_kind 2 net
  pub same_misses : of_kind 3 after ≡ of_kind 3 net
  pub same_policies : of_kind 5 after ≡ of_kind 5 net
  pub same_groups : of_kind 9 after ≡ of_kind 9 net
  pub few : length after ≤ most_records
  pub some : 0 < length after
  pub whole : Whole after

-- a network that rows 3 to 10 and 16 pass goes on after every command that rows 12, 16 and 13 pass
pub never_stuck : (net : Net) (c : Rec) → Whole net → 0 < length net → file_row [] net ≡ none → command_row net c ≡ none → GoesOn net (would_leave c net)
never_stuck net c whole some e f =
    let after = would_leave c net in
    let k = applied_kept net c whole e (command net c f) in
    record {
      passes = k.passes;
      same_first = k.alike.first;
      same_links = k.alike.same 2 (λ q. omega arith);
      same_misses = k.alike.same 3 (λ q. omega arith);
      same_policies = k.alike.same 5 (λ q. omega arith);
      same_groups = k.alike.same 9 (λ q. omega arith);
      few = count_bound after k.passes;
      some = not_empty after k.passes;
      whole = k.whole;
    }

-- going on once more
pub goes_on : (net mid out : Net) → GoesOn net mid → GoesOn mid out → GoesOn net out
goes_on net mid out a b = record {
  passes = b.passes;
  same_first = b.same_first ∙ a.same_first;
  same_links = b.same_links ∙ a.same_links;
  same_misses = b.same_misses ∙ a.same_misses;
  same_policies = b.same_policies ∙ a.same_policies;
  same_groups = b.same_groups ∙ a.same_groups;
  few = b.few;
  some = b.some;
  whole = b.whole;
}

-- and not at all
pub goes_nowhere : (net : Net) → Whole net → file_row [] net ≡ none → GoesOn net net
goes_nowhere net whole e = record {
  passes = e;
  same_first = refl;
  same_links = refl;
  same_misses = refl;
  same_policies = refl;
  same_groups = refl;
  few = count_bound net e;
  some = not_empty net e;
  whole = whole;
}

-- and needs the same work
pub work_same : (net after : Net) → GoesOn net after → work_needed after ≡ work_needed net
unfolding work_needed
work_same net after g = ap₂ (λ (k : ℕ) (w : Widths). (k + 2) * plane_bytes w) (longest_alike after net g.same_policies) (widths_first after net g.same_first)
