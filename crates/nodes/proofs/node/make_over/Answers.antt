-- `nodes::node::make_over` meets its contract.
use mathlib.Core.Path.{refl}
use mathlib.Core.Logic.{inl, inr}
use Rattle.nodes.specs.Laws.NodePlanes.{joined_sources, over_node}
use Rattle.nodes.proofs.node.make_over.Goals as goal

pub range_at-requires-clause-sources : goal.range_at-requires-clause-sources
range_at-requires-clause-sources c = rw c.site_of.ensures (joined_sources _ _ _ _ _ _ c.requires _ _ _ (inl refl) (inr refl))

pub returns : goal.returns
returns c = λ ext. over_node _ _ _ _ _ _ _ _ _ _ _ (rw c.site_of.ensures at c.range_at.ensures)
