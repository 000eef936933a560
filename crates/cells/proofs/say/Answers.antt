-- `cells::say` meets its contract: what is said of a cell is said of its root.
use Rattle.cells.specs.Saying.{root_ready, said_of_root}
use Rattle.cells.proofs.say.Goals as goal

pub say_root-requires : goal.say_root-requires
say_root-requires c = root_ready c.find-r.ensures c.requires.2

pub returns : goal.returns
returns c =
    said_of_root c.args.c c.find-r.ensures c.say_root.ensures
