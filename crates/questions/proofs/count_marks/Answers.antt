use Rattle.std.proofs.Common.{◌≡◌, ◌-◌, length, ◌∙◌, arith}
use Rattle.tables.specs.Store.{handed, free, tally}
use Rattle.questions.proofs.Tallies.{count_tally, tallies-sum}
use Rattle.questions.proofs.count_marks.Goals as goal

pub overflow_sub-result : goal.overflow_sub-result
overflow_sub-result g c = omega (arith, c.requires, tallies-sum c.args.spans.now)

pub overflow_sub-result-2 : goal.overflow_sub-result-2
overflow_sub-result-2 g c =
    let xs = c.args.spans.now in
    let h = c.count_of-handed_out.ensures ∙ count_tally handed xs in
    omega (arith, c.requires, h, tallies-sum xs)

pub returns : goal.returns
returns g c =
    let xs = c.args.spans.now in
    let l = c.requires in
    let h = c.count_of-handed_out.ensures ∙ count_tally handed xs in
    let f : length xs - c.args.held - c.count_of-handed_out.result ≡ tally free xs = omega (arith, l, h, tallies-sum xs) in
    cc
