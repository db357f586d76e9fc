use Rattle.std.proofs.Common.{ℕ, refl, ap}
use Rattle.std.proofs.lemmas.Result.{err_from_is_err_and}
use Rattle.layout.specs.Reads.{held}
use Rattle.book.specs.Book.{metric, bits_of}
use Rattle.book.specs.Acts.{reached}
use Rattle.tables.specs.Shows.{Shows}
use Rattle.recorder.specs.Answers.{refusal}
use Rattle.recorder.specs.Strings.{with_strings}
use Rattle.interpret.specs.Attributes.{pair_attribute}
use Rattle.interpret.proofs.Reading.{text_reads, text_fails, bits_reads, bits_misses}
use Rattle.interpret.proofs.Playing.{as_attribute, meta_reads, meta_no_value, metric_reads, metric_no_value, pair_no_key}
use Rattle.interpret.proofs.operands.read_pair.Goals as goal

pub returns-in_err-key-clause-reads : goal.returns-in_err-key-clause-reads
returns-in_err-key-clause-reads g c =
    let p = err_from_is_err_and c.from_residual.result c.from_residual.ensures.1 in
    rw (p.1, p.2) (λ m.
    pair_no_key (held c.args.buffer.now) _ c.args.index.now c.args.kind (refusal c.in_err-key.field-0.0)
    (text_fails g.T.Text.bytes (held c.args.buffer.now) (with_strings c.args.strings.now m) c.args.index.now c.read_string.new.index c.in_err-key.field-0.0 c.in_err-key.ensures.cases))

pub returns-in_err-value-in-Meta-clause-reads : goal.returns-in_err-value-in-Meta-clause-reads
returns-in_err-value-in-Meta-clause-reads g c =
    let p = err_from_is_err_and c.from_residual-in_err-value-in-Meta.result c.from_residual-in_err-value-in-Meta.ensures.1 in
    rw (p.1, p.2) (λ m.
    let b = g.T.Text.bytes in
    let buffer = held c.args.buffer.now in
    let ss = with_strings c.args.strings.now m in
    as_attribute buffer _ c.args.index.now _ _ _ _ (ap pair_attribute c.in-Meta.is) refl
    (meta_no_value buffer _ c.args.index.now c.read_string.new.index (b c.in_ok-key.key) (refusal c.in_err-value-in-Meta.field-0.0)
    (text_reads b buffer ss c.args.index.now c.read_string.new.index c.in_ok-key.key c.in_ok-key.ensures.cases)
    (text_fails b buffer ss c.read_string.new.index c.read_string-in-Meta.new.index c.in_err-value-in-Meta.field-0.0 c.in_err-value-in-Meta.ensures.cases)))

pub returns-in_ok-value-in-Meta-clause-reads : goal.returns-in_ok-value-in-Meta-clause-reads
returns-in_ok-value-in-Meta-clause-reads g c = λ m.
    let b = g.T.Text.bytes in
    let buffer = held c.args.buffer.now in
    let ss = with_strings c.args.strings.now m in
    as_attribute buffer _ c.args.index.now _ _ _ _ (ap pair_attribute c.in-Meta.is) refl
    (meta_reads buffer _ c.args.index.now c.read_string.new.index c.read_string-in-Meta.new.index (b c.in_ok-key.key) (b c.in_ok-value-in-Meta.value)
    (text_reads b buffer ss c.args.index.now c.read_string.new.index c.in_ok-key.key c.in_ok-key.ensures.cases)
    (text_reads b buffer ss c.read_string.new.index c.read_string-in-Meta.new.index c.in_ok-value-in-Meta.value c.in_ok-value-in-Meta.ensures.cases))

pub returns-in_err-value-in-Metric-clause-reads : goal.returns-in_err-value-in-Metric-clause-reads
returns-in_err-value-in-Metric-clause-reads g c =
    let p = err_from_is_err_and c.from_residual-in_err-value-in-Metric.result c.from_residual-in_err-value-in-Metric.ensures.1 in
    rw (p.1, p.2) (λ m.
    let b = g.T.Text.bytes in
    let buffer = held c.args.buffer.now in
    let ss = with_strings c.args.strings.now m in
    as_attribute buffer _ c.args.index.now _ _ _ _ (ap pair_attribute c.in-Metric.is) refl
    (metric_no_value buffer _ c.args.index.now c.read_string.new.index (b c.in_ok-key.key) (refusal c.in_err-value-in-Metric.field-0.0)
    (text_reads b buffer ss c.args.index.now c.read_string.new.index c.in_ok-key.key c.in_ok-key.ensures.cases)
    (bits_misses buffer (Shows b ss) c.read_string.new.index c.read.new.index c.in_err-value-in-Metric.field-0.0 c.in_err-value-in-Metric.ensures.cases)))

pub returns-in_ok-value-in-Metric-clause-reads : goal.returns-in_ok-value-in-Metric-clause-reads
returns-in_ok-value-in-Metric-clause-reads g c = λ m.
    let b = g.T.Text.bytes in
    let buffer = held c.args.buffer.now in
    let ss = with_strings c.args.strings.now m in
    as_attribute buffer _ c.args.index.now _ _ _ _ (ap pair_attribute c.in-Metric.is) (ap (λ (n : ℕ). reached c.read.new.index (metric (b c.in_ok-key.key) n)) c.float_bits.ensures)
    (metric_reads buffer (Shows b ss) c.args.index.now c.read_string.new.index c.read.new.index (b c.in_ok-key.key) (bits_of c.in_ok-value-in-Metric.value)
    (text_reads b buffer ss c.args.index.now c.read_string.new.index c.in_ok-key.key c.in_ok-key.ensures.cases)
    (bits_reads buffer (Shows b ss) c.read_string.new.index c.read.new.index c.in_ok-value-in-Metric.value c.in_ok-value-in-Metric.ensures.cases))
