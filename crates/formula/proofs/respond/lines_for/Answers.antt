-- `formula::respond::lines_for` meets its contract.
use Rattle.std.proofs.Common.{inl, inr}
use Rattle.formula.specs.ProgramLaws.{table_lines_fit, input_line_fits}
use Rattle.formula.proofs.respond.lines_for.Goals as goal

pub returns-in-Failed : goal.returns-in-Failed
returns-in-Failed c = rw c.in-Failed.is (input_line_fits c.requires c.bytes.ensures)

pub returns-in-Between : goal.returns-in-Between
returns-in-Between c =
    let lines = table_lines_fit c.args.scan.now.words.now _ c.min.ensures c.two_lines.ensures in
    elim c.in-Between.is [ inl between ↦ rw between lines | inr inside ↦ rw inside.1 lines ]
