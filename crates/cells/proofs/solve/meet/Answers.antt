-- `cells::solve::meet` meets its contract.
use Rattle.cells.specs.Meetings.{roots_ready, roots_meet}
use Rattle.cells.proofs.solve.meet.Goals as goal

pub meet_roots-requires : goal.meet_roots-requires
meet_roots-requires c =
    roots_ready c.find-p.ensures c.find-q.ensures

pub returns : goal.returns
returns c =
    roots_meet c.find-p.ensures c.find-q.ensures c.meet_roots.ensures
