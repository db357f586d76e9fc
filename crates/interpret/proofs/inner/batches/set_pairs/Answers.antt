use Rattle.std.proofs.Common.{◌≡◌, suc, ◌+◌, ◌-◌, arith}
use Rattle.std.proofs.lemmas.Result.{err_from_is_err_and}
use Rattle.layout.specs.Reads.{held}
use Rattle.book.specs.Flush.{set_attribute}
use Rattle.operations.specs.Done.{NoneMade}
use Rattle.interpret.specs.Attributes.{pair_attribute}
use Rattle.interpret.proofs.Following.{only_start, only_then, played_start, played_more, played_turned}
use Rattle.interpret.proofs.inner.batches.set_pairs.Goals as goal

pub loop-init : goal.loop-init
loop-init g c = record { only = only_start c.args.kind _; row = c.requires.row; played = λ m o own. played_start g.T.Text.bytes (set_attribute (pair_attribute c.args.kind) c.args.found.id) (held c.args.buffer.now) NoneMade _ c.args.index.now o }

pub returns-in_err-set_pair : goal.returns-in_err-set_pair
returns-in_err-set_pair g c =
    let p = err_from_is_err_and c.from_residual.result c.from_residual.ensures.1 in
    let same : c.loop.counter + suc (c.args.count - suc c.loop.counter) ≡ c.args.count = omega arith in
    rw (p.1, p.2) (record {
      row = c.set_pair.ensures.row;
      only = only_then c.args.kind c.args.tables.now c.loop.tables c.set_pair.new.tables c.loop.invariant.only c.set_pair.ensures.only;
      played = λ m o own.
          let before = c.loop.invariant.played m o own in
          played_turned g.T.Text.bytes (set_attribute (pair_attribute c.args.kind) c.args.found.id) (held c.args.buffer.now) NoneMade _ c.args.index.now NoneMade (λ id e. e) _ _ c.loop.counter c.loop.index c.set_pair.new.index before
          (c.args.count - suc c.loop.counter) c.args.count c.in_err-set_pair.field-0.0 same (c.in_err-set_pair.ensures.played m before.order own);
    })

pub loop-preserved : goal.loop-preserved
loop-preserved g c = record {
  only = only_then c.args.kind c.args.tables.now c.loop.tables c.set_pair.new.tables c.loop.invariant.only c.set_pair.ensures.only;
  row = c.set_pair.ensures.row;
  played = λ m o own.
      let before = c.loop.invariant.played m o own in
      played_more g.T.Text.bytes (set_attribute (pair_attribute c.args.kind) c.args.found.id) (held c.args.buffer.now) NoneMade _ c.args.index.now NoneMade (λ id e. e) _ _ c.loop.counter c.loop.index c.set_pair.new.index before
      (c.in_ok-set_pair.ensures.played m before.order own);
}
