use Rattle.std.proofs.Common.{◌≡◌, ◌+◌, ◌*◌, ◌^◌, ◌∷◌, ℤ, sym, subst, w64, to_z, of_z, rules}
use Rattle.std.proofs.lemmas.Result.{err_from_is_err_and}
use Rattle.layout.specs.Reads.{held}
use Rattle.book.specs.Book.{trace, parent, word, ◌≔◌}
use Rattle.book.specs.Acts.{reached, Acts}
use Rattle.tables.specs.Shows.{Shows}
use Rattle.recorder.specs.Answers.{refusal}
use Rattle.recorder.specs.Strings.{with_strings}
use Rattle.interpret.specs.Creation.{fields_of, read_create, fields_written}
use Rattle.interpret.proofs.Reading.{number-misses}
use Rattle.interpret.proofs.Creations.{plain_reads, trace_reads, create_no_trace, create_no_segment, create_no_parent, create_no_fields, create_reads}
use Rattle.interpret.proofs.creation.read_creation.Goals as goal

pub returns-in_err-trace-clause-reads : goal.returns-in_err-trace-clause-reads
returns-in_err-trace-clause-reads g c =
    let p = err_from_is_err_and c.from_residual.result c.from_residual.ensures.1 in
    rw (p.1, p.2) (λ m.
    let buffer = held c.args.buffer.now in
    let ss = Shows g.T.Text.bytes (with_strings c.args.strings.now m) in
    create_no_trace buffer ss (fields_of c.args.extra) c.args.index.now (refusal c.in_err-trace.field-0.0) (number-misses buffer ss 16 c.args.index.now c.read.new.index c.in_err-trace.field-0.0 c.in_err-trace.ensures.cases))

pub returns-in_err-segment-clause-reads : goal.returns-in_err-segment-clause-reads
returns-in_err-segment-clause-reads g c =
    let p = err_from_is_err_and c.from_residual-in_err-segment.result c.from_residual-in_err-segment.ensures.1 in
    rw (p.1, p.2) (λ m.
    let buffer = held c.args.buffer.now in
    let ss = Shows g.T.Text.bytes (with_strings c.args.strings.now m) in
    create_no_segment buffer ss (fields_of c.args.extra) c.args.index.now c.read.new.index _ (trace_reads buffer ss c.args.index.now c.read.new.index c.in_ok-trace.trace c.in_ok-trace.ensures.cases)
    (refusal c.in_err-segment.field-0.0) (number-misses buffer ss 8 c.read.new.index c.read-2.new.index c.in_err-segment.field-0.0 c.in_err-segment.ensures.cases))

pub returns-in_err-parent-clause-reads : goal.returns-in_err-parent-clause-reads
returns-in_err-parent-clause-reads g c =
    let p = err_from_is_err_and c.from_residual-in_err-parent.result c.from_residual-in_err-parent.ensures.1 in
    rw (p.1, p.2) (λ m.
    let buffer = held c.args.buffer.now in
    let ss = Shows g.T.Text.bytes (with_strings c.args.strings.now m) in
    create_no_parent buffer ss (fields_of c.args.extra) c.args.index.now c.read.new.index _ (trace_reads buffer ss c.args.index.now c.read.new.index c.in_ok-trace.trace c.in_ok-trace.ensures.cases)
    c.read-2.new.index c.in_ok-segment.segment (plain_reads buffer ss 8 c.read.new.index c.read-2.new.index c.in_ok-segment.segment c.in_ok-segment.ensures.cases)
    (refusal c.in_err-parent.field-0.0) (number-misses buffer ss 8 c.read-2.new.index c.read-3.new.index c.in_err-parent.field-0.0 c.in_err-parent.ensures.cases))

pub returns-in_err-fields-clause-reads : goal.returns-in_err-fields-clause-reads
returns-in_err-fields-clause-reads g c =
    let p = err_from_is_err_and c.from_residual-in_err-fields.result c.from_residual-in_err-fields.ensures.1 in
    rw (p.1, p.2) (λ m.
    let buffer = held c.args.buffer.now in
    let ss = Shows g.T.Text.bytes (with_strings c.args.strings.now m) in
    create_no_fields buffer ss (fields_of c.args.extra) c.args.index.now c.read.new.index _ (trace_reads buffer ss c.args.index.now c.read.new.index c.in_ok-trace.trace c.in_ok-trace.ensures.cases)
    c.read-2.new.index c.in_ok-segment.segment (plain_reads buffer ss 8 c.read.new.index c.read-2.new.index c.in_ok-segment.segment c.in_ok-segment.ensures.cases)
    c.read-3.new.index c.in_ok-parent.parent (plain_reads buffer ss 8 c.read-2.new.index c.read-3.new.index c.in_ok-parent.parent c.in_ok-parent.ensures.cases)
    (refusal c.in_err-fields.field-0.0) (c.in_err-fields.ensures.reads m))

pub returns-clause-reads : goal.returns-clause-reads
returns-clause-reads g c =
    let e : to_z w64 (of_z w64 c.in_ok-fields.fields.start) ≡ c.in_ok-fields.fields.start = search rules in
    let f = c.in_ok-fields.fields in
    (λ m.
    let b = g.T.Text.bytes in
    let buffer = held c.args.buffer.now in
    let ss = Shows b (with_strings c.args.strings.now m) in
    subst (λ (z : ℤ). Acts (read_create (fields_of c.args.extra)) buffer ss c.args.index.now ss (reached c.read_made_fields.new.index (c.in_ok-segment.segment, trace ≔ word (c.in_ok-trace.trace.low + 2 ^ 64 * c.in_ok-trace.trace.high) ∷ parent ≔ word c.in_ok-parent.parent ∷ fields_written b c.args.extra f.service f.name f.resource f.kind z))) (sym e)
    (create_reads buffer ss (fields_of c.args.extra) c.args.index.now c.read.new.index _ (trace_reads buffer ss c.args.index.now c.read.new.index c.in_ok-trace.trace c.in_ok-trace.ensures.cases)
    c.read-2.new.index c.in_ok-segment.segment (plain_reads buffer ss 8 c.read.new.index c.read-2.new.index c.in_ok-segment.segment c.in_ok-segment.ensures.cases)
    c.read-3.new.index c.in_ok-parent.parent (plain_reads buffer ss 8 c.read-2.new.index c.read-3.new.index c.in_ok-parent.parent c.in_ok-parent.ensures.cases)
    c.read_made_fields.new.index _ (c.in_ok-fields.ensures.reads m)))
