-- `inference::rules::name` meets its contract.
use Rattle.inference.specs.RuleLaws.{binder_ready, name_solved, unbound_solved}
use Rattle.inference.proofs.rules.name.Goals as goal

pub returns-in_default : goal.returns-in_default
returns-in_default c = unbound_solved c.requires c.binder.ensures c.in_default.is

pub bound_at-requires : goal.bound_at-requires
bound_at-requires c = binder_ready c.requires c.binder.ensures c.in-Some.is

pub returns : goal.returns
returns c = name_solved c.requires c.binder.ensures c.in-Some.is c.bound_at.ensures
