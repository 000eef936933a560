-- `inference::rules::node` meets its contract: each arm demands the equations of its rule.
use Rattle.std.proofs.Common.{rules}
use Rattle.inference.specs.RuleLaws.{other_kind, bool_solved, int_solved, operator_solved, names_rule, application_solved, if_solved, lambda_solved, let_solved, rec_solved, unit_or_unknown_solved}
use Rattle.inference.specs.NodeCells.{application_ready, condition_ready, lambda_ready, let_ready, rec_ready}
use Rattle.inference.proofs.rules.node.Goals as goal

pub application-requires : goal.application-requires
application-requires c =
    application_ready c.requires c.read-w.ensures c.in-5.is

pub condition-requires : goal.condition-requires
condition-requires c =
    condition_ready c.requires c.read-w.ensures c.in-6.is

pub lambda-requires : goal.lambda-requires
lambda-requires c = lambda_ready c.requires c.read-w.ensures c.in-7.is

pub let_in-requires : goal.let_in-requires
let_in-requires c = let_ready c.requires c.read-w.ensures c.in-8.is

pub rec-requires : goal.rec-requires
rec-requires c = rec_ready c.requires c.read-w.ensures c.in-9.is

pub returns-in-3 : goal.returns-in-3
returns-in-3 c =
    operator_solved c.requires c.read-w.ensures c.in-3.is c.operator.ensures

pub returns-in-4 : goal.returns-in-4
returns-in-4 c =
    names_rule c.requires c.read-w.ensures c.in-4.is c.name.ensures

pub returns-in-5 : goal.returns-in-5
returns-in-5 c =
    application_solved c.requires c.read-w.ensures c.in-5.is c.application.ensures

pub returns-in-6 : goal.returns-in-6
returns-in-6 c =
    if_solved c.requires c.read-w.ensures c.in-6.is c.condition.ensures

pub returns-in-7 : goal.returns-in-7
returns-in-7 c =
    lambda_solved c.requires c.read-w.ensures c.in-7.is c.lambda.ensures

pub returns-in-8 : goal.returns-in-8
returns-in-8 c =
    let_solved c.requires c.read-w.ensures c.in-8.is c.let_in.ensures

pub returns-in-9 : goal.returns-in-9
returns-in-9 c =
    rec_solved c.requires c.read-w.ensures c.in-9.is c.rec.ensures

pub returns-in-1 : goal.returns-in-1
returns-in-1 c = bool_solved c.requires c.read-w.ensures c.in-1.is c.constant.ensures

pub returns-in-2 : goal.returns-in-2
returns-in-2 c = int_solved c.requires c.read-w.ensures c.in-2.is c.constant-in-2.ensures

pub returns-in_default : goal.returns-in_default
returns-in_default c = unit_or_unknown_solved c.requires c.read-w.ensures (other_kind (search rules)) c.constant-in_default.ensures
