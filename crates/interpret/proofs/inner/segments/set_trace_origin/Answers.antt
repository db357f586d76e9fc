use Rattle.std.proofs.lemmas.Result.{err_from_is_err_and}
use Rattle.layout.specs.Reads.{held}
use Rattle.book.specs.Book.{origin}
use Rattle.book.specs.Flush.{◌by◌, S}
use Rattle.recorder.specs.Answers.{refusal}
use Rattle.recorder.specs.Strings.{with_strings}
use Rattle.operations.specs.Parts.{with_segments, with_seats}
use Rattle.interpret.proofs.Reading.{text_reads, text_fails}
use Rattle.interpret.proofs.Playing.{text_field_reads, text_field_fails, note-unread, note_done}
use Rattle.interpret.proofs.inner.segments.set_trace_origin.Goals as goal

pub returns-in_err-value : goal.returns-in_err-value
returns-in_err-value g c =
    let p = err_from_is_err_and c.from_residual.result c.from_residual.ensures.1 in
    rw (p.1, p.2) (record {
      played = λ m o.
          let ss = with_strings c.args.strings.now (with_seats (g.G.Index.content c.args.by_segment.now).held (with_segments c.args.segments.now m)) in
          note-unread g.T.Text.bytes (held c.args.buffer.now) ss c.args.index.now (origin by S) c.args.segment c.read_string.new.index c.in_err-value.field-0.0 o
          (text_field_fails (held c.args.buffer.now) _ c.args.index.now origin (refusal c.in_err-value.field-0.0)
          (text_fails g.T.Text.bytes (held c.args.buffer.now) ss c.args.index.now c.read_string.new.index c.in_err-value.field-0.0 c.in_err-value.ensures.cases));
    })

pub returns : goal.returns
returns g c = record {
  played = λ m o.
      let ss = with_strings c.args.strings.now (with_seats (g.G.Index.content c.args.by_segment.now).held (with_segments c.args.segments.now m)) in
      note_done g.T.Text.bytes (held c.args.buffer.now) ss c.args.index.now (origin by S) c.args.segment _ c.read_string.new.index _ _
      (text_field_reads (held c.args.buffer.now) _ c.args.index.now origin c.read_string.new.index _
      (text_reads g.T.Text.bytes (held c.args.buffer.now) ss c.args.index.now c.read_string.new.index c.in_ok-value.value c.in_ok-value.ensures.cases))
      (c.set_origin.ensures.done (with_strings c.args.strings.now m) o);
}
