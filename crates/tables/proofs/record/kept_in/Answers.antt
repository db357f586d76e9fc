use Rattle.std.proofs.Common.{rules, ◌≡◌, ℕ, not, false, true, nat_eq, Some, None, Decides, Option, sym, refl, ap, ◌∙◌, subst, arith}
use Rattle.std.specs.Option.{option_eq}
use Rattle.std.proofs.lemmas.Bool.{false≢true, eqb-true, not-false, eq-eqb}
use Rattle.std.proofs.lemmas.Bool.Decides.{Decides-eqb}
use Rattle.std.proofs.lemmas.Option.{none-some, slice_get_read, slice_get_past, slice_get_within}
use Rattle.index.specs.Held.{at}
use Rattle.index.proofs.Entries.{same_some}
use Rattle.index.proofs.Holding.{many-none, many-more-some, many-more-none, found-more, found_all}
use Rattle.tables.specs.Store.{chained, key_at}
use Rattle.tables.proofs.record.kept_in.Goals as goal

-- a number found is the one that is compared with
same_number : (o : Option ℕ) (n : ℕ) → not (option_eq nat_eq o (Some n)) ≡ false → o ≡ Some n
same_number None n e = absurd (false≢true (sym e))
same_number (Some m) n e = ap Some (eqb-true m n (not-false (nat_eq m n) e))

pub loop-i-init : goal.loop-i-init
loop-i-init g c = let none = many-none (key_at g.R.Record.key_of c.args.records.now) in search rules

pub returns-then-not-keeps_limits : goal.returns-then-not-keeps_limits
returns-then-not-keeps_limits g c =
    let there = slice_get_read c.args.records.now _ c.loop-i.i c.index-records-i.result refl c.loop-i-test.true c.index-records-i.is in
    search rules

pub returns-then-ne : goal.returns-then-ne
returns-then-ne g c =
    let i = c.loop-i.i in
    let there = slice_get_read c.args.records.now _ i c.index-records-i.result refl c.loop-i-test.true c.index-records-i.is in
    let own : key_at g.R.Record.key_of c.args.records.now i ≡ Some c.in-Some.id = ap (chained g.R.Record.key_of) there ∙ (sym c.key.ensures ∙ c.in-Some.is) in
    let same : option_eq nat_eq (Some i) (Some i) ≡ true = eq-eqb i i refl in
    grind arith

pub loop-i-preserved : goal.loop-i-preserved
loop-i-preserved g c =
    let key = g.R.Record.key_of in
    let xs = c.args.records.now in
    let es = (g.I.Index.content c.args.index.now).held in
    let i = c.loop-i.i in
    let x = c.index-records-i.result in
    let there = slice_get_read xs _ i x refl c.loop-i-test.true c.index-records-i.is in
    let own : key_at key xs i ≡ key x = ap (chained key) there in
    let v = c.loop-i.invariant in
    elim c.match-key.branch [
      | goal.in-Some+else-ne w ↦
          let id = w.in-Some.id in
          let is : key_at key xs i ≡ Some id = own ∙ (sym c.key.ensures ∙ w.in-Some.is) in
          let found : at es id ≡ Some i = sym w.find.ensures ∙ same_number w.find.result i (sym w.ne.ensures ∙ w.if-ne.false) in
          record {
            limits = search rules;
            found = found-more es (key_at key xs) i v.found (λ k e. ap (at es) (sym (same_some (key_at key xs i) id k is e)) ∙ found);
            counted = omega (arith, w.used-is, v.counted, many-more-some (key_at key xs) i id is);
            fits = search rules;
          }
      | goal.in_default w ↦
          let none : key_at key xs i ≡ None = own ∙ sym w.in_default.ensures in
          record {
            limits = search rules;
            found = found-more es (key_at key xs) i v.found (λ k e. absurd (none-some k (sym none ∙ e)));
            counted = omega (arith, w.used-is, v.counted, many-more-none (key_at key xs) i none);
            fits = search rules;
          }
    ]

pub returns : goal.returns
returns g c =
    let key = g.R.Record.key_of in
    let xs = c.args.records.now in
    let es = (g.I.Index.content c.args.index.now).held in
    let v = c.loop-i.invariant in
    let held =
    found_all es (key_at key xs) c.loop-i.i (g.met.I.Index.once c.args.index.now)
    (λ r ge. ap (chained key) (slice_get_past xs r (omega (arith, ge)))) v.found (nat_eq c.count.result c.loop-i.used) c.loop-i.used v.counted
    (subst (λ (n : ℕ). Decides (nat_eq c.count.result c.loop-i.used) (n ≡ c.loop-i.used)) c.count.ensures (Decides-eqb c.count.result c.loop-i.used)) in (
      (λ t. record { limits = λ r x e. let within = slice_get_within xs r x e in v.limits r x (omega arith) e; indexed = held.0 t }),
      λ kept. held.1 kept.indexed,
    )
