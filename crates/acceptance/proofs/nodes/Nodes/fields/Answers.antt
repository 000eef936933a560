use Rattle.std.proofs.Common.{refl, sym, ◌∙◌}
use Rattle.acceptance.specs.SearchLoop.{search_goes_on, search_finds, search_ends}
use Rattle.acceptance.specs.FieldRules.{fields_passed, field_refused}
use Rattle.acceptance.proofs.nodes.Nodes.fields.Goals as goal

pub loop-f-preserved : goal.loop-f-preserved
loop-f-preserved c = search_goes_on c.loop-f.invariant c.loop-f-test.true (sym c.misfits.ensures ∙ c.if-misfits.false)

pub loop-k-preserved : goal.loop-k-preserved
loop-k-preserved c =
    let nodes = c.args.self.now in
    let passed = fields_passed nodes.words.now nodes.count c.loop-k.k c.loop-f.invariant c.loop-f-test.false in
    search_goes_on c.loop-k.invariant c.loop-k-test.true passed

pub returns-then-misfits : goal.returns-then-misfits
returns-then-misfits c =
    let nodes = c.args.self.now in
    let found = sym c.misfits.ensures ∙ c.if-misfits.true in
    let refused = field_refused nodes.words.now nodes.count c.loop-k.k c.loop-f.invariant c.loop-f-test.true found in
    rw (search_finds c.loop-k.invariant c.loop-k-test.true refused) refl

pub returns-after-loop-k : goal.returns-after-loop-k
returns-after-loop-k c = rw (search_ends c.loop-k.invariant c.loop-k-test.false) refl
