use Rattle.std.proofs.Common.{refl}
use Rattle.vector_files.specs.Field.{NamedValue}
use Rattle.vector_files.proofs.Naming.{names_more}
use Rattle.vector_files.proofs.blocks.Block.add.Goals as goal

pub invariant_of-self-3 : goal.invariant_of-self-3
invariant_of-self-3 c =
    let line : NamedValue = record { name = c.trim-name.result.now; value = c.trim.result.now; line = c.args.number } in
    rw (c.in_ok-push.ensures.items, c.reserve.ensures.items)
    (names_more c.self.inside.index c.insert.new.self c.self.inside.fields.items c.trim-name.result line c.self.invariant refl c.in_ok-insert.ensures.updates)
