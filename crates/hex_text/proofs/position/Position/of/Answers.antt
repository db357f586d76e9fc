use Rattle.std.proofs.Common.{◌≡◌, ◌+◌, reverse, take, count_by, rules, refl, ap, ◌∙◌, arith}
use borrow.Author.Tests.{tests}
use Rattle.std.specs.List.{suffix_len}
use Rattle.std.proofs.lemmas.Iterator.Adapters.{YieldsList-from_rev_slice}
use Rattle.std.proofs.lemmas.Iterator.Consumers.{count_from_yields_List}
use Rattle.std.proofs.lemmas.Iterator.Search.{YieldsList-from_take_while}
use Rattle.std.proofs.lemmas.List.{length-take-le, length-reverse, take_min}
use Rattle.std.proofs.lemmas.List.Sums.{suffix_len-le-length}
use Rattle.hex_text.specs.Places.{newline}
use Rattle.hex_text.proofs.Positions.{same, inside}
use Rattle.hex_text.proofs.position.Position.of.Goals as goal

pub returns : goal.returns
returns c =
    let xs = c.iter-2.result.rest.now in
    let lines : c.count-newlines.result ≡ count_by newline xs = search rules in
    let source : c.take_while.result.iter.iter.rest.now ≡ xs = ap (λ s. s.iter.rest.now) c.take_while.ensures.source ∙ ap (λ s. s.rest.now) c.rev.ensures.source in
    let column = count_from_yields_List c.take_while.result c.count-since.result c.count-since.ensures.ran (YieldsList-from_take_while _ inside (YieldsList-from_rev_slice xs source) refl c.take_while.ensures.done (λ x b q k. search (rules, tests))) in
    let since : c.count-since.result ≡ suffix_len inside xs = column ∙ length-take-le (suffix_len inside xs) (reverse xs) (omega (arith, suffix_len-le-length inside xs, length-reverse xs)) in
    let text = c.args.text.now in
    let part : xs ≡ take c.args.offset text = c.iter-2.ensures.rest ∙ (ap (λ n. take n text) c.min.ensures ∙ take_min c.args.offset text) in
    record {
      value =
          same
          (ap (λ n. 1 + n) lines ∙ ap (λ ys. 1 + count_by newline ys) part)
          (ap (λ n. 1 + n) since ∙ ap (λ ys. 1 + suffix_len inside ys) part);
    }
