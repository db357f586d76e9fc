use Rattle.layout.specs.Reads.{held}
use Rattle.interpret.proofs.Creations.{fields-none}
use Rattle.interpret.proofs.creation.read_made_fields.Goals as goal

pub returns-in-Bare-clause-reads : goal.returns-in-Bare-clause-reads
returns-in-Bare-clause-reads g c = rw c.in-Bare.is (λ m. fields-none (held c.args.buffer.now) _ c.args.index.now)
