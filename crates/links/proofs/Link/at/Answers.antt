use mathlib.Core.Path.{ap, subst⁻¹, ◌∙◌}
use Rattle.links.specs.Carried.{link_of, AreEnds}
use Rattle.links.proofs.LinksInStore.{link_in, link_read, link_ends}
use Rattle.links.proofs.Link.at.Goals as goal

pub record-link-requires : goal.record-link-requires
record-link-requires c = link_in c.args.net.now c.args.i c.requires.0 c.requires.1

pub returns : goal.returns
returns c =
    let net = c.args.net.now in
    let e = ap link_of (c.record-link.ensures ∙ link_read net c.args.i c.requires.0 c.requires.1) in
    record { is = e; points = subst⁻¹ (AreEnds net.layout.widths) e (link_ends net c.args.i c.requires.0 c.requires.1) }
