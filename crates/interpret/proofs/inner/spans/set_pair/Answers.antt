use Rattle.std.proofs.Common.{sym, subst}
use Rattle.std.proofs.lemmas.Result.{err_from_is_err_and}
use Rattle.layout.specs.Reads.{held}
use Rattle.recorder.specs.Strings.{with_strings}
use Rattle.operations.specs.Fields.{kind_of, pair_written}
use Rattle.operations.specs.Done.{OnSpanHeld}
use Rattle.operations.specs.Parts.{HasRow, PairOnly, with_pairs}
use Rattle.interpret.specs.Attributes.{pair_attribute}
use Rattle.interpret.proofs.Playing.{attribute_unread, attribute_done}
use Rattle.interpret.proofs.Following.{only_start, beside_strings}
use Rattle.interpret.proofs.inner.spans.set_pair.Goals as goal

pub returns-in_err-pair-clause-played : goal.returns-in_err-pair-clause-played
returns-in_err-pair-clause-played g c =
    let p = err_from_is_err_and c.from_residual.result c.from_residual.ensures.1 in
    let t = c.args.tables.now in
    rw (p.1, p.2) (λ m o own.
    attribute_unread g.T.Text.bytes (held c.args.buffer.now) _ c.args.index.now (pair_attribute c.args.kind) c.args.found.id c.read_pair.new.index c.in_err-pair.field-0.0 o (c.in_err-pair.ensures.reads (with_pairs c.args.kind t m)))

pub returns-clause-played : goal.returns-clause-played
returns-clause-played g c =
    let b = g.T.Text.bytes in
    let f = c.args.found in
    let t = c.args.tables.now in
    let n = c.add_pair.new.tables in
    let pair = c.in_ok-pair.pair in
    λ m o own.
    attribute_done b (held c.args.buffer.now) _ c.args.index.now (pair_attribute c.args.kind) f.id _ c.read_pair.new.index _ _ (c.in_ok-pair.ensures.reads (with_pairs c.args.kind t m))
    (subst (λ k. OnSpanHeld b f.id f.number (pair_written b pair) (λ m. with_strings t.strings.now (with_pairs k t m)) (λ m. with_strings n.strings.now (with_pairs k n m)) c.add_pair.result) c.in_ok-pair.ensures.kind
    (beside_strings b f.id (pair_written b pair) t n c.add_pair.result f.number (kind_of pair) c.add_pair.ensures.only c.add_pair.ensures.done) m o own)

pub add_pair-requires : goal.add_pair-requires
add_pair-requires g c = record { row = subst (λ k. HasRow k c.args.tables.now c.args.found.number) (sym c.in_ok-pair.ensures.kind) c.requires.row }

pub returns-clause-row : goal.returns-clause-row
returns-clause-row g c = subst (λ k. HasRow k c.add_pair.new.tables c.args.found.number) c.in_ok-pair.ensures.kind c.add_pair.ensures.row

pub returns-in_err-pair-clause-only : goal.returns-in_err-pair-clause-only
returns-in_err-pair-clause-only g c = only_start c.args.kind _

pub returns-clause-only : goal.returns-clause-only
returns-clause-only g c = subst (λ k. PairOnly k c.args.tables.now c.add_pair.new.tables) c.in_ok-pair.ensures.kind c.add_pair.ensures.only
