use Rattle.std.proofs.Common.{◌≡◌, suc, ◌+◌, ◌-◌, List, [], ◌∷◌, ◌++◌, vec_items, ap, ◌∙◌, subst, append_assoc, append-nil, arith}
use Rattle.std.proofs.lemmas.Result.{err_from_is_err_and}
use Rattle.layout.specs.Reads.{held}
use Rattle.decode.specs.declared.operand.Field.{Field}
use Rattle.decode.specs.declared.operand.Operand.{Operand}
use Rattle.decode.specs.Runs.{Run, asked, counted, first, repeated}
use Rattle.decode.specs.Table.{count, table}
use Rattle.decode.proofs.Runs.{repeated-more, repeated-split, run_join, run_none, fails_after}
use Rattle.decode.proofs.operation.read_operands.Goals as goal
use Rattle.decode.proofs.operation.read_operands.Goals.{in-Once+in_ok-read_fields-in-Once, in-Each+in_ok-times-in-Each+else-loop-test}

pub loop-preserved : goal.loop-preserved
loop-preserved c =
    let b = held c.args.buffer.now in
    let at = c.read_count.new.index in
    let fields = c.in-Each.fields.now in
    let n = c.loop.counter in
    let inv = c.loop.invariant in
    let got = c.in_ok-read_fields-in-Each.ensures.cases in
    let after = c.read_fields-in-loop.new.index in
    let os = vec_items c.read_count.new.operands in
    let run = run_join b at c.loop.index after (repeated n fields) fields inv.0 got.0 inv.2 got.2 in
    let items : vec_items c.read_fields-in-loop.new.operands ≡ os ++ (inv.0 ++ got.0) = got.1 ∙ ap (λ os. os ++ got.0) inv.1 ∙ append_assoc os inv.0 got.0 in
    (inv.0 ++ got.0, items, subst (λ fs. Run b at after fs (inv.0 ++ got.0)) (repeated-more n fields) run)

pub returns : goal.returns
returns c =
    let b = held c.args.buffer.now in
    let i = c.args.index.now in
    let none = c.new-operands.ensures.items in
    elim c.match-of.branch [
      | in-Once+in_ok-read_fields-in-Once w ↦
          let got = w.in_ok-read_fields-in-Once.ensures.cases in
          let items : vec_items c.match-of.operands ≡ got.0 = ap vec_items w.operands-is ∙ got.1 ∙ ap (λ os. os ++ got.0) none in
          let run = subst (λ t. Run b i w.read_fields.new.index (asked t got.0) got.0) w.in-Once.ensures.value got.2 in
          record { cases = rw (w.index-is, items) run }
      | in-Each+in_ok-times-in-Each+else-loop-test w ↦
          let n = w.in_ok-times-in-Each.times in
          let fields = w.in-Each.fields.now in
          let got = w.in_ok-times-in-Each.ensures.cases in
          let inv = w.loop.invariant in
          let j = w.loop.index in
          let os = counted n ∷ inv.0 in
          let items : vec_items c.match-of.operands ≡ os = ap vec_items w.operands-is ∙ inv.1 ∙ ap (λ os. os ++ inv.0) (got.0 ∙ ap (λ os. os ++ counted n ∷ []) none) in
          let end : w.loop.counter ≡ n = omega arith in
          let rounds = run_join b i w.read_count.new.index j (count ∷ []) (repeated w.loop.counter fields) (counted n ∷ []) inv.0 got.1 inv.2 in
          let run = subst (λ t. Run b i j (asked t os) os) w.in-Each.ensures.value (subst (λ m. Run b i j (count ∷ repeated m fields) os) end rounds) in
          record { cases = rw (w.index-is, items) run }
    ]

pub returns-in_err-times-in-Each : goal.returns-in_err-times-in-Each
returns-in_err-times-in-Each c =
    let p = err_from_is_err_and c.from_residual-in_err-times-in-Each.result c.from_residual-in_err-times-in-Each.ensures.1 in
    let b = held c.args.buffer.now in
    let i = c.args.index.now in
    let row = table c.args.opcode in
    let whole : (ps : List Operand) → (tail : List Field) × (count ∷ tail ≡ asked row ps) = λ ps. (repeated (first ps) c.in-Each.fields.now, ap (λ t. asked t ps) c.in-Each.ensures.value) in
    record { cases = rw (p.1, p.2) (fails_after b i i c.read_count.new.index [] (count ∷ []) [] (asked row) c.in_err-times-in-Each.field-0.0 (run_none b i c.requires.within) c.in_err-times-in-Each.ensures.cases whole) }

pub returns-in_err-read_fields-in-Each : goal.returns-in_err-read_fields-in-Each
returns-in_err-read_fields-in-Each c =
    let p = err_from_is_err_and c.from_residual-in_err-read_fields-in-Each.result c.from_residual-in_err-read_fields-in-Each.ensures.1 in
    let b = held c.args.buffer.now in
    let i = c.args.index.now in
    let at = c.read_count.new.index in
    let j = c.loop.index in
    let k = c.read_fields-in-loop.new.index in
    let n = c.loop.counter in
    let times = c.in_ok-times-in-Each.times in
    let fields = c.in-Each.fields.now in
    let row = table c.args.opcode in
    let e = c.in_err-read_fields-in-Each.field-0.0 in
    let got = c.in_ok-times-in-Each.ensures.cases in
    let inv = c.loop.invariant in
    let left = times - n - 1 in
    let rounds : n + suc left ≡ times = omega arith in
    let later = repeated-split n left fields ∙ ap (λ m. repeated m fields) rounds in
    let inner = fails_after b at j k (repeated n fields) fields inv.0 (λ _. repeated times fields) e inv.2 c.in_err-read_fields-in-Each.ensures.cases (λ ps. (repeated left fields, later)) in
    let whole : (ps : List Operand) → (tail : List Field) × (count ∷ (repeated times fields ++ tail) ≡ asked row (counted times ∷ ps)) = λ ps. ([], ap (λ fs. count ∷ fs) (append-nil (repeated times fields)) ∙ ap (λ t. asked t (counted times ∷ ps)) c.in-Each.ensures.value) in
    record { cases = rw (p.1, p.2) (fails_after b i at k (count ∷ []) (repeated times fields) (counted times ∷ []) (asked row) e got.1 inner whole) }
