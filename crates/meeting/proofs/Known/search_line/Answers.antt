use Rattle.meeting.proofs.Gathering.{searching_none, searching_more, searched_part}
use Rattle.meeting.proofs.Known.search_line.Goals as goal

pub loop-left-init : goal.loop-left-init
loop-left-init c = searching_none _ _ _ _ _ c.args.self.now.nowhere

pub loop-left-preserved : goal.loop-left-preserved
loop-left-preserved c =
    searching_more _ _ _ _ _ _ _ _ _ _ c.in-Some.ensures.within c.in-Some.ensures.set c.args.self.now.through c.loop-left.invariant c.take.ensures

pub returns : goal.returns
returns c = searched_part _ _ _ _ _ _ c.loop-left.invariant
