-- What a run of nodes has come to that names what ran out.
use Rattle.std.specs.Prelude.{◌≡◌, refl}
use Rattle.std.proofs.Common.{ap, arith}
use Rattle.table.specs.Node.{Nodes}
use Rattle.semantics.specs.Limits.{Limit, How, ended, ran_out, Room, run}
use Rattle.semantics.specs.Machine.{End, next, start, frames_in_use}
use Rattle.semantics.specs.Answer.{limit_answer, code, answer_of, run_nodes}
use Rattle.semantics.proofs.AnswerCodes.{end_code, limit_code}
use Rattle.semantics.specs.StopsFor.{StopsFor}
use Rattle.semantics.proofs.StopsForLaws.{ran_out_stops_for}
use Rattle.semantics.proofs.FramesInUse.{frame_by_frame}

only_ran_out : (how : How End) {l : Limit} → answer_of how ≡ limit_answer l → how ≡ ran_out l
only_ran_out (ended end) {l} is = absurd (omega (arith, end_code end, limit_code l, ap code is))
only_ran_out (ran_out k) is = cc

pub limit_stops_for : (nd : Nodes) (room : Room) {l : Limit} → (run_nodes nd room).answer ≡ limit_answer l →
    StopsFor (next nd) frames_in_use room start (run_nodes nd room).steps (run_nodes nd room).bindings l
unfolding run_nodes
limit_stops_for nd room is = ran_out_stops_for (frame_by_frame nd) room start refl (only_ran_out (run (next nd) frames_in_use room start).how is)
