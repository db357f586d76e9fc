use Rattle.std.proofs.Common.{◌≡◌, ℕ, List, length, Ok, Err, Result, sym, subst, arith}
use Rattle.std.proofs.lemmas.Result.{err_from_is_err_and}
use Rattle.index.specs.declared.entry.Entry.{Entry}
use Rattle.refusals.specs.declared.ChangeBufferError.{ChangeBufferError}
use Rattle.book.specs.Limits.{span_text_row}
use Rattle.tables.specs.declared.span.Span.{Span}
use Rattle.operations.specs.Parts.{create_parts}
use Rattle.operations.specs.Done.{gone}
use Rattle.operations.specs.Made.{RecordFor, SpanPlace, Roomy, Makes, Enters}
use Rattle.operations.proofs.Taking.{ids-within, seats-within}
use Rattle.operations.proofs.Writing.{rows_within}
use Rattle.operations.proofs.Creating.{record_within, ids-roomy, seats-roomy, done_no_record, done_no_seat, created}
use Rattle.operations.proofs.inner.create.create.Goals as goal

-- a place found in a slice of the tables' spans is one of theirs
of_tables : {T : Type 0} (es : List Entry) {seen xs : List (Span T)} → seen ≡ xs → (id : ℕ) (place : Result Entry ChangeBufferError) → SpanPlace es seen id place → SpanPlace es xs id place
of_tables es e id place found = subst (λ ys. SpanPlace es ys id place) e found

pub returns-in_err-place-clause-done : goal.returns-in_err-place-clause-done
returns-in_err-place-clause-done g c =
    let p = err_from_is_err_and c.from_residual.result c.from_residual.ensures.1 in
    rw (p.1, p.2, c.in_err-place.ensures.0) (λ m ws o gives.
    done_no_record _ o (g.met.S.Index.once c.args.by_id.now) (g.met.G.Index.once c.args.by_segment.now) g.T.Text.bytes c.args.id c.args.segment ws (of_tables _ c.spans.ensures c.args.id (Err c.in_err-place.field-0.0) c.in_err-place.ensures).1)

pub seat_for-requires : goal.seat_for-requires
seat_for-requires g c = seats-within _ c.requires.order.1

pub returns-in_err-seat-clause-done : goal.returns-in_err-seat-clause-done
returns-in_err-seat-clause-done g c =
    let p = err_from_is_err_and c.from_residual-in_err-seat.result c.from_residual-in_err-seat.ensures.1 in
    rw (p.1, p.2, c.in_err-seat.ensures.0) (λ m ws o gives.
    done_no_seat _ o (g.met.S.Index.once c.args.by_id.now) (g.met.G.Index.once c.args.by_segment.now) g.T.Text.bytes c.args.id c.args.segment ws
    c.in_ok-place.place.number (of_tables _ c.spans.ensures c.args.id (Ok c.in_ok-place.place) c.in_ok-place.ensures).1 c.in_err-seat.ensures.1)

pub make_span-requires-clause-row : goal.make_span-requires-clause-row
make_span-requires-clause-row g c =
    let w = record_within _ _ c.args.tables.now.spans.now c.args.id c.in_ok-place.place.number (ids-within _ c.requires.order.1) (of_tables _ c.spans.ensures c.args.id (Ok c.in_ok-place.place) c.in_ok-place.ensures).1 in
    record { within = w; row = rows_within c.in_ok-place.place.number (length c.args.tables.now.spans.now) span_text_row _ w c.requires.order.1.span_lengths.text_rows }

pub make_span-requires-clause-pairs : goal.make_span-requires-clause-pairs
make_span-requires-clause-pairs g c =
    let d = c.requires.order.1.others.default_table in
    let f = c.requires.order.1.others.few_defaults in
    omega (arith, d, f)

pub make_span-requires-clause-bound : goal.make_span-requires-clause-bound
make_span-requires-clause-bound g c = c.requires.order.1.others.few_defaults

pub make_span-requires-clause-room : goal.make_span-requires-clause-room
make_span-requires-clause-room g c =
    let content = g.S.Index.content c.args.by_id.now in
    subst (λ (q : ℕ). Roomy content.held content.room q) (sym c.in_ok-place.ensures.0)
    (ids-roomy _ c.requires.order.1 (g.met.S.Index.once c.args.by_id.now) (g.met.G.Index.once c.args.by_segment.now) c.args.id c.in_ok-place.place.number (of_tables _ c.spans.ensures c.args.id (Ok c.in_ok-place.place) c.in_ok-place.ensures).1)

pub enter_segment-requires-clause-within : goal.enter_segment-requires-clause-within
enter_segment-requires-clause-within g c = record_within _ _ c.args.segments.now c.args.segment c.in_ok-seat.seat.number (seats-within _ c.requires.order.1) c.in_ok-seat.ensures.1.0

pub enter_segment-requires-clause-own : goal.enter_segment-requires-clause-own
enter_segment-requires-clause-own g c =
    subst (λ (q : ℕ). RecordFor gone (g.G.Index.content c.args.by_segment.now).held c.args.segments.now q c.in_ok-seat.seat.number) (sym c.in_ok-seat.ensures.0) c.in_ok-seat.ensures.1.0

pub enter_segment-requires-clause-room : goal.enter_segment-requires-clause-room
enter_segment-requires-clause-room g c =
    let content = g.G.Index.content c.args.by_segment.now in
    subst (λ (q : ℕ). Roomy content.held content.room q) (sym c.in_ok-seat.ensures.0)
    (seats-roomy _ c.requires.order.1 (g.met.S.Index.once c.args.by_id.now) (g.met.G.Index.once c.args.by_segment.now) c.args.segment c.in_ok-seat.seat.number c.in_ok-seat.ensures.1.0)

pub returns-clause-done : goal.returns-clause-done
returns-clause-done g c = λ m ws o gives.
    let before = create_parts c.args.tables.now c.args.segments.now c.args.settings.now (g.S.Index.content c.args.by_id.now) (g.G.Index.content c.args.by_segment.now) m in
    rw c.make_span.ensures.only.defaults
    (created before o (g.met.S.Index.once c.args.by_id.now) (g.met.G.Index.once c.args.by_segment.now) g.T.Text.bytes c.args.id c.args.segment c.in_ok-place.place.number c.in_ok-seat.seat.number c.args.making
    (of_tables _ c.spans.ensures c.args.id (Ok c.in_ok-place.place) c.in_ok-place.ensures).1 c.in_ok-seat.ensures.1 c.make_span.new.tables.spans.now c.make_span.new.tables.span_meta.now c.enter_segment.new.segments c.make_span.new.settings
    _ _ _ _ c.make_span.ensures.long c.make_span.ensures.capacity c.enter_segment.ensures.capacity
    (subst (λ (q : ℕ). Makes c.args.tables.now.spans.now c.make_span.new.tables.spans.now c.args.tables.now.span_meta.now c.make_span.new.tables.span_meta.now c.args.tables.now.defaults.now c.args.settings.now c.make_span.new.settings (g.S.Index.content c.args.by_id.now).held (g.S.Index.content c.make_span.new.by_id).held q c.args.segment c.in_ok-place.place.number c.args.making) c.in_ok-place.ensures.0 c.make_span.ensures.makes)
    (subst (λ (q : ℕ). Enters c.args.segments.now c.enter_segment.new.segments (g.G.Index.content c.args.by_segment.now).held (g.G.Index.content c.enter_segment.new.by_segment).held q c.in_ok-seat.seat.number) c.in_ok-seat.ensures.0 c.enter_segment.ensures.enters) ws gives)
