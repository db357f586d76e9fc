use Rattle.std.proofs.Common.{[], refl, ap}
use Rattle.std.proofs.lemmas.Result.{err_from_is_err_and}
use Rattle.layout.specs.Reads.{held}
use Rattle.decode.specs.declared.operand.Value.TheVariants.{Count}
use Rattle.decode.specs.Table.{count}
use Rattle.decode.proofs.Runs.{run-one, stops-here}
use Rattle.decode.proofs.operation.read_count.Goals as goal

pub returns-in_err-count : goal.returns-in_err-count
returns-in_err-count c =
    let p = err_from_is_err_and c.from_residual.result c.from_residual.ensures.1 in
    let b = held c.args.buffer.now in
    record { cases = rw (p.1, p.2) (stops-here b c.args.index.now c.read.new.index (λ _. _) count [] c.in_err-count.field-0.0 c.requires.within c.in_err-count.ensures.cases refl) }

pub returns : goal.returns
returns c =
    let b = held c.args.buffer.now in
    let got = c.in_ok-count.ensures.cases in
    let run = run-one b c.args.index.now c.read.new.index count (Count c.in_ok-count.count) (got.0, ap (λ n. Count n) got.1, got.2) in
    record { cases = (c.in_ok-push.ensures.items, run) }
