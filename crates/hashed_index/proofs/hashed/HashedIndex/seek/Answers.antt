use Rattle.std.proofs.Common.{◌≡◌, ◌%◌, ◌<◌, ◌≤◌, length, get_or, None, sym, ap, ◌∙◌, subst, arith, rules}
use Rattle.hashed_index.specs.Places.{dist}
use Rattle.hashed_index.proofs.Seeks as seeks
use Rattle.hashed_index.proofs.hashed.HashedIndex.seek.Goals as goal

pub returns-in_default : goal.returns-in_default
returns-in_default c =
    let s = c.args.self.now in
    let ps = s.places.items in
    let i = c.along-i.result in
    let n : c.len-n.result ≡ length ps = omega (arith, s.long, c.len-n.ensures) in
    let within : i < length ps = omega (arith, n, c.along-i.ensures.within) in
    let some : 0 < length ps = omega (arith, s.some, s.long) in
    let free : get_or ps i None ≡ None = search rules in
    let there : dist (length ps) (c.args.id % length ps) i ≡ c.loop-step.step =
    subst (λ m. dist m (c.args.id % m) i ≡ c.loop-step.step) n
    (ap (λ z. dist c.len-n.result z i) (sym c.start-from.ensures.value) ∙ c.along-i.ensures.value) in (
      within,
      free,
      seeks.free-missing ps some c.args.id c.loop-step.step i s.reached c.loop-step.invariant within there free,
      λ b hb lt. (c.loop-step.invariant b hb (omega (arith, lt, there))).0,
    )

pub returns : goal.returns
returns c =
    let s = c.args.self.now in
    let ps = s.places.items in
    let some : 0 < length ps = omega (arith, s.some, s.long) in
    let round : length ps ≤ c.loop-step.step = omega (arith, s.long, c.len-n.ensures, c.loop-step-test.false) in (
      seeks.all-missing ps some c.args.id c.loop-step.step round c.loop-step.invariant,
      seeks.all-taken ps some c.args.id c.loop-step.step round c.loop-step.invariant,
    )
