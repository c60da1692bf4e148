-- `shapes::straighten` meets its contract.
use Rattle.forms.specs.Laws.Forms.{first_straightened, second_straightened}
use Rattle.shapes.proofs.straighten.Goals as goal

pub returns-in-Turned : goal.returns-in-Turned
returns-in-Turned c = first_straightened _ _ _ _ _ c.exchange.ensures c.args.j c.requires.mixed c.in-Turned.is c.requires.sources

pub returns : goal.returns
returns c = second_straightened _ _ _ _ _ c.exchange-2.ensures c.args.j c.requires.mixed c.in_default.not-Turned c.start.ensures c.requires.sources
