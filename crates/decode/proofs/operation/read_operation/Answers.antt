use Rattle.std.proofs.lemmas.Result.{err_from_is_err_and}
use Rattle.layout.specs.Reads.{held}
use Rattle.decode.proofs.Follows.{broken, decoded}
use Rattle.decode.proofs.operation.read_operation.Goals as goal

pub returns : goal.returns
returns c =
    let b = held c.args.buffer.now in
    let head = c.in_ok-head.head in
    let got = c.in_ok-head.ensures.cases in
    record { cases = decoded b c.args.index.now c.from_buf.new.index head got c.read_operands.new.index c.in_ok-operands.operands c.in_ok-operands.ensures.cases }

pub returns-in_err-operands : goal.returns-in_err-operands
returns-in_err-operands c =
    let p = err_from_is_err_and c.from_residual-in_err-operands.result c.from_residual-in_err-operands.ensures.1 in
    let b = held c.args.buffer.now in
    let head = c.in_ok-head.head in
    let got = c.in_ok-head.ensures.cases in
    record { cases = rw (p.1, p.2) (broken b c.args.index.now c.from_buf.new.index head got c.read_operands.new.index c.in_err-operands.field-0.0 c.in_err-operands.ensures.cases) }
