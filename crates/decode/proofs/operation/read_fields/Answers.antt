use Rattle.std.proofs.Common.{◌≡◌, ◌+◌, [], ◌∷◌, ◌++◌, get_or, take, drop, vec_items, sym, ap, ◌∙◌, subst, append_assoc, append-nil, take-append-drop}
use Rattle.std.proofs.lemmas.List.{drop_more, take_more}
use Rattle.std.proofs.lemmas.Result.{err_from_is_err_and}
use Rattle.layout.specs.Reads.{held}
use Rattle.decode.specs.declared.operand.Field.{Field}
use Rattle.decode.specs.declared.operand.Kind.TheVariants as kinds
use Rattle.decode.specs.declared.operand.Label.TheVariants as labels
use Rattle.decode.specs.declared.operand.Operand.{Operand}
use Rattle.decode.specs.declared.operand.Value.{Value}
use Rattle.decode.specs.Runs.{Run}
use Rattle.decode.proofs.Runs.{run_join, run-one, stops-after, stops-here}
use Rattle.decode.proofs.operation.read_fields.Goals as goal

abbrev none : Field
none = record { label = labels.Trace; kind = kinds.Trace }

abbrev read : Field → Value → Operand
read f v = record { label = f.label; value = v }

pub returns-in_err-value : goal.returns-in_err-value
returns-in_err-value c =
    let p = err_from_is_err_and c.from_residual.result c.from_residual.ensures.1 in
    let b = held c.args.buffer.now in
    let i = c.loop-field.index in
    let j = c.read.new.index in
    let n = c.loop-field.field-index in
    let fields = c.args.fields.now in
    let e = c.in_err-value.field-0.0 in
    let inv = c.loop-field.invariant in
    let more = drop_more fields n none c.loop-field-test.true in
    let here = stops-here b i j (λ _. drop n fields) (get_or fields n none) (drop (n + 1) fields) e inv.2.stand.1 c.in_err-value.ensures.cases (sym more) in
    let whole = ap (λ fs. take n fields ++ fs) (append-nil (drop n fields)) ∙ take-append-drop n fields in
    record { cases = rw (p.1, p.2) (stops-after b c.args.index.now i j (take n fields) (drop n fields) inv.0 (λ _. fields) e inv.2 here (λ _. ([], whole))) }

pub loop-field-preserved : goal.loop-field-preserved
loop-field-preserved c =
    let b = held c.args.buffer.now in
    let i = c.loop-field.index in
    let j = c.read.new.index in
    let n = c.loop-field.field-index in
    let fields = c.args.fields.now in
    let f = get_or fields n none in
    let inv = c.loop-field.invariant in
    let v = c.in_ok-value.value in
    let one = run-one b i j f v c.in_ok-value.ensures.cases in
    let run = run_join b c.args.index.now i j (take n fields) (f ∷ []) inv.0 (read f v ∷ []) inv.2 one in
    let items : vec_items c.push.new.self ≡ vec_items c.args.operands.now ++ (inv.0 ++ read f v ∷ []) = c.in_ok-push.ensures.items ∙ ap (λ os. os ++ read f v ∷ []) inv.1 ∙ append_assoc (vec_items c.args.operands.now) inv.0 (read f v ∷ []) in
    let more = take_more fields n none c.loop-field-test.true in
    (inv.0 ++ read f v ∷ [], items, subst (λ fs. Run b c.args.index.now j fs (inv.0 ++ read f v ∷ [])) (sym more) run)
