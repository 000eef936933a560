-- `cells::solve::meet_roots` meets its contract.
use Rattle.cells.specs.Meetings.{self_meeting, meeting_turned}
use Rattle.cells.proofs.solve.meet_roots.Goals as goal

pub returns-then-p-q : goal.returns-then-p-q
returns-then-p-q c = self_meeting c.requires.0 c.if-p-q.true

pub returns : goal.returns
returns c = meeting_turned c.merge-2.ensures
