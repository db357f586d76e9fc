use Rattle.std.proofs.Common.{◌≡◌, eqb, length, Some, None, Decides, sym, ap, ◌∙◌, subst, arith, rules}
use Rattle.std.proofs.lemmas.Bool.Decides.{Decides-eqb}
use Rattle.std.proofs.lemmas.List.{get_or_past}
use Rattle.std.proofs.lemmas.Option.{none-some}
use Rattle.index.specs.Held.{at}
use Rattle.index.specs.Holding.{placed}
use Rattle.index.proofs.Entries.{same_some}
use Rattle.index.proofs.Holding.{many-none, many-more-some, many-more-none, found-more, found_all}
use Rattle.index.proofs.holds.holds.Goals as goal

pub loop-i-init : goal.loop-i-init
loop-i-init g c = (λ i k lt e. absurd (omega arith), sym (many-none (placed c.args.records.now)), omega arith)

pub loop-i-preserved : goal.loop-i-preserved
loop-i-preserved g c =
    let es = (g.I.Index.content c.args.index.now).held in
    let id-of = placed c.args.records.now in
    let i = c.loop-i.i in
    let v = c.loop-i.invariant in
    elim c.match-record.branch [
      | goal.in-Some+else-ne w ↦
          let found : at es w.in-Some.id ≡ Some i = search rules in (
            found-more es id-of i v.0 (λ k e. ap (at es) (sym (same_some (id-of i) w.in-Some.id k w.in-Some.is e)) ∙ found),
            omega (arith, w.ids-is, v.1, many-more-some id-of i w.in-Some.id w.in-Some.is),
            omega (arith, w.ids-is, v.2),
          )
      | goal.in_default w ↦ (
        found-more es id-of i v.0 (λ k e. absurd (none-some k (sym w.in_default.is ∙ e))),
        omega (arith, w.ids-is, v.1, many-more-none id-of i w.in_default.is),
        omega (arith, w.ids-is, v.2),
      )
    ]

pub returns : goal.returns
returns g c =
    let es = (g.I.Index.content c.args.index.now).held in
    let rs = c.args.records.now in
    let v = c.loop-i.invariant in
    found_all es (placed rs) c.loop-i.i (g.met.I.Index.once c.args.index.now) (λ i ge. get_or_past rs i None (omega (arith, ge))) v.0
    _ c.loop-i.ids v.1 (subst (λ n. Decides (eqb n c.loop-i.ids) (length es ≡ c.loop-i.ids)) (sym c.count.ensures) (Decides-eqb (length es) c.loop-i.ids))
