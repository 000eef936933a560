-- `host::infer_on` meets its contract.
use Rattle.host.specs.TypeBytes.{type_room}
use Rattle.host.proofs.infer_on.Goals as goal

pub tell-requires : goal.tell-requires
tell-requires c =
    type_room c.infer-inferred.ensures c.infer-inferred.auto.out c.requires
