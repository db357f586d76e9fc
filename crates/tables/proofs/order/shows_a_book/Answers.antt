use Rattle.tables.proofs.Booked.{booked}
use Rattle.tables.proofs.order.shows_a_book.Goals as goal

pub returns : goal.returns
returns g c = (
  (λ t. booked g.T.Text.bytes _ (c.tables_in_order.ensures.0 t) (g.met.S.Index.once c.args.by_id.now) (g.met.G.Index.once c.args.by_segment.now)),
  λ s. c.tables_in_order.ensures.1 s.1.order,
)
