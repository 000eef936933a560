-- `cells::solve::say_root` meets its contract.
use Rattle.cells.specs.Saying.{said_of_free, said_alike, said_otherwise, said_again, arrows_ready, said_of_arrow}
use Rattle.cells.proofs.solve.say_root.Goals as goal

pub returns-then-root-eq0 : goal.returns-then-root-eq0
returns-then-root-eq0 c = said_of_free c.requires c.get_words-root.ensures c.from-said.ensures c.if-root-eq0.true c.put_words.ensures

pub returns-then-root-said : goal.returns-then-root-said
returns-then-root-said c = said_otherwise c.requires c.get_words-root.ensures c.from-said.ensures c.if-root-eq0.false c.if-root-said.true

pub arrow_parts-requires : goal.arrow_parts-requires
arrow_parts-requires c = said_alike c.requires c.get_words-root.ensures c.from-said.ensures c.if-root-eq0.false c.if-root-said.false

pub equal_parts-requires : goal.equal_parts-requires
equal_parts-requires c = arrows_ready c.requires c.get_words-root.ensures c.from-said.ensures c.in-Some.ensures

pub returns-in-Some : goal.returns-in-Some
returns-in-Some c = said_of_arrow c.requires c.get_words-root.ensures c.from-said.ensures c.in-Some.ensures c.equal_parts.ensures

pub returns-in_default : goal.returns-in_default
returns-in_default c = said_again c.requires c.get_words-root.ensures c.from-said.ensures c.in_default.ensures
