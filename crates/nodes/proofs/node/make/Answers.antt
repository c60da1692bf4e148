-- `nodes::node::make` meets its contract.
use mathlib.Core.Path.{refl}
use mathlib.Core.Logic.{inl, inr}
use Rattle.forms.specs.Laws.Forms.{arranged_stands}
use Rattle.nodes.specs.Laws.NodePlanes.{operand_source, joined_sources, bit_node, step_node, external_node, join_node, range_node, over_node, closure_node, no_node}
use Rattle.nodes.proofs.node.make.Goals as goal

pub apply-requires-clause-sources : goal.apply-requires-clause-sources
apply-requires-clause-sources c =
    rw (c.site_of-to.ensures, c.joined_at.ensures) (joined_sources _ _ _ _ _ _ c.requires _ _ _ (rw c.in-Join.is (inl refl)) (rw c.in-Join.is (inr refl)))

pub range_at-requires-clause-sources : goal.range_at-requires-clause-sources
range_at-requires-clause-sources c =
    rw c.site_of-to.ensures (joined_sources _ _ _ _ _ _ c.requires _ _ _ (rw c.in-Range.is (inl refl)) (rw c.in-Range.is (inl refl)))

pub range_at-requires-in-Over-clause-sources : goal.range_at-requires-in-Over-clause-sources
range_at-requires-in-Over-clause-sources c =
    rw c.site_of-to.ensures (joined_sources _ _ _ _ _ _ c.requires _ _ _ (rw c.in-Over.is (inl refl)) (rw c.in-Over.is (inr refl)))

pub reach-requires-clause-source : goal.reach-requires-clause-source
reach-requires-clause-source c = rw (c.site_of-to.ensures, c.form_at.ensures) (operand_source _ _ _ _ _ _ c.requires _ (rw c.in-Tc.is (inl refl)))

pub returns-in-Bit : goal.returns-in-Bit
returns-in-Bit c = rw c.in-Bit.is (bit_node _ _ _ _ _ _ _ _ _ (rw c.site_of-to.ensures at c.bit_line.ensures))

pub returns-in-R : goal.returns-in-R
returns-in-R c = rw c.in-R.is (step_node _ _ _ _ _ _ _ _ _ (arranged_stands _ _ _ _ _ _ _ _ (inr (inl refl)) (rw c.site_of-to.ensures at c.arrange.ensures)))

pub returns-in-E : goal.returns-in-E
returns-in-E c = rw c.in-E.is (external_node _ _ _ _ _ _ _ _ (rw c.site_of-to.ensures at c.keep.ensures))

pub returns-in-Join : goal.returns-in-Join
returns-in-Join c = rw c.in-Join.is (join_node _ _ _ _ _ _ _ _ _ _ (rw (c.site_of-to.ensures, c.joined_at.ensures) at c.apply.ensures))

pub returns-in-Range : goal.returns-in-Range
returns-in-Range c =
    rw c.in-Range.is
    (range_node _ _ _ _ _ _ _ _ _ (rw c.site_of-to.ensures at c.range_at.ensures))

pub returns-in-Over : goal.returns-in-Over
returns-in-Over c =
    rw c.in-Over.is (over_node _ _ _ _ _ _ _ _ _ _ _ (rw c.site_of-to.ensures at c.range_at-in-Over.ensures))

pub returns-in-Tc : goal.returns-in-Tc
returns-in-Tc c = rw c.in-Tc.is (closure_node _ _ _ _ _ _ _ _ _ _ (rw (c.site_of-to.ensures, c.form_at.ensures) at c.reach.ensures))

pub returns-in-Absent : goal.returns-in-Absent
returns-in-Absent c = rw c.in-Absent.is (no_node _ _ _ _ _ _ _ (rw c.site_of-to.ensures at c.keep-in-Absent.ensures))
