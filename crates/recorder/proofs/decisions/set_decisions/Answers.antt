use Rattle.std.proofs.Common.{◌<◌, length, rules, sym, refl, ◌∙◌}
use Rattle.book.specs.Calls.{decisions}
use Rattle.recorder.specs.Decisions.{decided_in}
use Rattle.recorder.proofs.Performing.{turned-back}
use Rattle.recorder.proofs.Sampling.{found-within, sampled}
use Rattle.recorder.proofs.decisions.set_decisions.Goals as goal

pub returns-in_err-check_order-clause-call : goal.returns-in_err-check_order-clause-call
returns-in_err-check_order-clause-call g c =
    turned-back g.T.Text.bytes (decisions c.args.id c.args.sampling.rule c.args.sampling.limit c.args.sampling.agent) (decided_in c.args.id c.args.sampling) _ (λ e. refl)
    c.from_residual.result _ c.from_residual.ensures.1 c.in_err-check_order.ensures

pub offset_bounds-segments-place : goal.offset_bounds-segments-place
offset_bounds-segments-place g c =
    let within : c.in_ok-place.place < length c.args.segments.now = found-within _ c.args.id c.in_ok-place.place c.in_ok-check_order.ensures (sym c.find.ensures ∙ c.in_ok-place.ensures.ok_part) in
    search rules

pub bounds-segments-place : goal.bounds-segments-place
bounds-segments-place g c = found-within _ c.args.id c.in_ok-place.place c.in_ok-check_order.ensures (sym c.find.ensures ∙ c.in_ok-place.ensures.ok_part)

pub returns-clause-call : goal.returns-clause-call
returns-clause-call g c =
    sampled c.args.sampling g.T.Text.bytes _ c.args.id c.in_ok-place.place c.index-segments-place.result c.decide.new.segment
    c.in_ok-check_order.ensures (sym c.find.ensures ∙ c.in_ok-place.ensures.ok_part) c.decide.ensures
