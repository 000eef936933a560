-- The printed payload is the one of the rules: of every answer but an integer it is the number itself, since no node is 512 or more.
use Rattle.std.specs.Prelude.{ℕ, ◌≡◌, ◌≢◌, List, pos}
use Rattle.std.proofs.Common.{arith}
use Rattle.answers.specs.Answers.{code_of, payload_of}
use Rattle.machine.specs.Runs.{RunIs}
use Rattle.machine.specs.AnswerNumbers.{payload_below_512}
use Rattle.machine.specs.declared.Ran.{Ran}
use Rattle.formula.specs.Lines.{printed_payload}
use Rattle.decimal.specs.TextLaws.{not_negative}

pub printed_as_it_is : {words bindings frames bindings' frames' : List ℕ} {fuel : ℕ} {r : Ran} → RunIs words fuel bindings frames bindings' frames' r → code_of r.answer ≢ 10 →
    printed_payload r.answer ≡ pos (payload_of r.answer)
printed_as_it_is {r = r} x other = not_negative (payload_of r.answer) (omega (arith, payload_below_512 x other))
