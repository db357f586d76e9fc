use Rattle.std.proofs.Common.{refl}
use Rattle.std.proofs.lemmas.Result.{err_from_is_err_and}
use Rattle.book.specs.Calls.{change_buffer}
use Rattle.recorder.proofs.Performing.{turned-away}
use Rattle.operations.proofs.Keeping.{records-same}
use Rattle.flush.proofs.Operating.{shared_start}
use Rattle.flush.proofs.change_buffer.flush_change_buffer.Goals as goal

pub returns-in_err-check_order-clause-call : goal.returns-in_err-check_order-clause-call
returns-in_err-check_order-clause-call g c =
    let p = err_from_is_err_and c.from_residual.result c.from_residual.ensures.1 in
    rw (p.1, p.2, c.in_err-check_order.ensures.1) (record {
      call = turned-away g.T.Text.bytes (change_buffer c.args.buffer.now) _ c.in_err-check_order.ensures.0;
      order = λ o. o;
      spans = records-same _ _ _ _ _ _;
      segments = records-same _ _ _ _ _ _;
    })

pub returns-in_err-check_order-clause-after : goal.returns-in_err-check_order-clause-after
returns-in_err-check_order-clause-after g c =
    let p = err_from_is_err_and c.from_residual.result c.from_residual.ensures.1 in
    rw p.1 refl

pub returns-in_err-check_order-clause-shared : goal.returns-in_err-check_order-clause-shared
returns-in_err-check_order-clause-shared g c = shared_start _

pub returns-clause-call : goal.returns-clause-call
returns-clause-call g c = record {
  call = record {
    untouched = λ n. absurd (n c.in_ok-check_order.ensures);
    shows = c.flush_lent.ensures.flushes.shows;
  };
  order = λ o. c.flush_lent.ensures.flushes.order;
  spans = c.flush_lent.ensures.flushes.spans_kept;
  segments = c.flush_lent.ensures.flushes.segments_kept;
}
