-- `host::run_words` meets its contract.
use Rattle.host.proofs.run_words.Goals as goal

pub returns : goal.returns
returns c =
    record {
      ran = _;
      bindings_after = _;
      frames_after = _;
      runs = c.run-ran.ensures;
      number = rw (c.code.ensures, c.payload.ensures) at c.pack.ensures;
    }
