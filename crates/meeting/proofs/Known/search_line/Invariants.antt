-- line has got no more than a walk leads to, and the lines of those that are done.
use Rattle.meeting.proofs.Gathering.{Searching}
use Rattle.meeting.proofs.Known.search_line.Given as goal

abbrev pub invariant-loop-left : goal.invariant-loop-left
invariant-loop-left l = Searching l.self.plane.work.now l.self.plane.to l.self.plane.pitch l.initial.line l.line l.done
