use Rattle.std.proofs.Common.{◌≡◌, rules, ap, ◌∙◌}
use borrow.Author.Tests.{tests}
use Rattle.std.proofs.lemmas.Iterator.Adapters.{YieldsList-from_rev_slice}
use Rattle.std.proofs.lemmas.Iterator.Search.{find_from_yields_List}
use Rattle.std.specs.Option.{option_map}
use Rattle.vec_map.proofs.Lookups.{last-found}
use Rattle.vec_map.proofs.row.value_of.Goals as goal

pub returns : goal.returns
returns g c =
    let same = g.K.Key.alike in
    let k = c.args.key.now in
    let xs = c.args.row.now in
    let e = find_from_yields_List (λ p. same p.0 k) _ _ c.find.result c.find.ensures.ran (YieldsList-from_rev_slice xs cc) (λ x b q k. search (rules, tests)) in
    let m : option_map (λ x. x.now) c.map.result ≡ option_map (λ p. p.1) (option_map (λ p. p.now) c.find.result) = search rules in
    m ∙ (ap (λ o. option_map (λ p. p.1) o) e ∙ last-found same g.K.Key.fair k xs)
