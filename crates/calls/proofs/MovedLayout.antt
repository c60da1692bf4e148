-- Where the parts of a network stand after a command.
use mathlib.Core.Path.{◌≡◌, refl, sym, ap, ◌∙◌}
use Prim.Native.Nat.{ℕ, ◌+◌, ◌-◌, ◌≤◌}
use native.Mathlib.Omega.{arith}
use lib.ListN.{length, take, drop, length-drop}
use lib.Seq.{length-take-le}
use Rattle.format.specs.Record.{Net, of_kind, widths_of}
use Rattle.format.specs.Policy.{policy_count, longest}
use Rattle.format.specs.Laws.Kinds.{policies_alike, longest_alike, widths_first}
use Rattle.scan.specs.declared.Layout.{Layout}
use Rattle.scan.specs.Layout.{LayoutOf, Counted}
use Rattle.scan.specs.Laws.Layout.{layout_of}
use Rattle.effect.specs.NeverStuck.{GoesOn}

-- how many records each part has
module _ (net : Net) (l : Layout) (L : LayoutOf net l) where
  part : (k from to : ℕ) → of_kind k net ≡ take (to - from) (drop from net) → from ≤ to → to ≤ length net → from + length (of_kind k net) ≡ to
  part k from to e h f =
      let d : length (drop from net) ≡ length net - from = length-drop from net in
      let t : length (take (to - from) (drop from net)) ≡ to - from = length-take-le (to - from) (drop from net) (omega arith) in
      omega (arith, ap length e)

  bounds : (l.misses ≤ l.rules) × (l.rules ≤ length net)
  bounds = (omega (arith, L.switches), omega (arith, L.few_rules, L.within))

  pub part_links : 1 + length (of_kind 2 net) ≡ l.misses
  part_links = part 2 1 l.misses L.links L.some_widths (omega (arith, bounds))

  pub part_misses : l.misses + length (of_kind 3 net) ≡ l.rules
  part_misses = part 3 l.misses l.rules L.misses bounds.0 bounds.1

  pub part_nodes : l.nodes + length (of_kind 5 net) ≡ l.groups
  part_nodes = part 5 l.nodes l.groups L.nodes L.within.0 L.within.1

  pub part_groups : l.groups + length (of_kind 9 net) ≡ length net
  part_groups = omega (arith, ap length L.groups, length-drop l.groups net, L.within)

-- the layout by the numbers of a network's records
numbered : Net → Layout
numbered net = record {
  widths = widths_of net;
  misses = 1 + length (of_kind 2 net);
  rules = 1 + length (of_kind 2 net) + length (of_kind 3 net);
  nodes = 1 + length (of_kind 2 net) + length (of_kind 3 net) + length (of_kind 4 net);
  groups = length net - length (of_kind 9 net);
  policies = policy_count net;
  longest = longest net;
}

numbers : (net : Net) → Counted net (numbered net)
unfolding numbered
numbers net = record { widths = refl; misses = refl; rules = refl; nodes = refl; groups = refl; policies = refl; longest = refl }

-- the layout with what is behind the rules as far from the end as before
abbrev pub moved_by : Layout → ℕ → ℕ → Layout
moved_by l n count = record {
  widths = l.widths;
  misses = l.misses;
  rules = l.rules;
  nodes = count - (n - l.nodes);
  groups = count - (n - l.groups);
  policies = l.policies;
  longest = l.longest;
}

module _ (net after : Net) (l : Layout) (L : LayoutOf net l) (g : GoesOn net after) where
  laid : LayoutOf after (numbered after)
  laid = layout_of after (numbered after) g.passes (numbers after)

  rules_end : 1 + length (of_kind 2 after) + length (of_kind 3 after) + length (of_kind 4 after) + length (of_kind 5 after) + length (of_kind 9 after) ≡ length after
  unfolding numbered
  rules_end = omega (arith, part_nodes after (numbered after) laid, part_groups after (numbered after) laid)

  -- what is behind the rules is there after the command
  pub behind : length net ≤ length after + l.nodes
  behind = omega (arith, part_nodes net l L, part_groups net l L, ap length g.same_policies, ap length g.same_groups, rules_end)

  pub moved_layout : (n count : ℕ) → length net ≡ n → length after ≡ count → LayoutOf after (moved_by l n count)
  moved_layout n count p q =
      let m = ap length g.same_links in
      let e = part_links net l L in
      let f = part_misses net l L in
      let h = part_nodes net l L in
      let k = part_groups net l L in
      let s3 = ap length g.same_misses in
      let s5 = ap length g.same_policies in
      let s9 = ap length g.same_groups in
      layout_of after (moved_by l n count) g.passes
      (record {
        widths = L.widths ∙ sym (widths_first after net g.same_first);
        misses = omega (arith, m, e);
        rules = omega (arith, s3, f);
        nodes = omega (arith, m, e, s3, f, s5, h, s9, k, rules_end, p, q);
        groups = omega (arith, s9, k, rules_end, p, q);
        policies = L.policies ∙ sym (policies_alike after net g.same_policies);
        longest = L.longest ∙ sym (longest_alike after net g.same_policies);
      })
