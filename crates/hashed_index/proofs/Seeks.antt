-- What a walk through the places shows.
use Rattle.std.proofs.Common.{◌≡◌, ℕ, ◌+◌, ◌%◌, ◌<◌, ◌≤◌, ◌⊎◌, List, length, get_or, is_some, Some, None, Option, sym, ap, ◌∙◌, subst, inl, inr, mod-lt, arith}
use Rattle.std.proofs.lemmas.List.{get_or_past}
use Rattle.std.proofs.lemmas.Bool.{cases_eq, cases_order, cases_lt, both_ways}
use Rattle.index.specs.declared.entry.Entry.{Entry}
use Rattle.hashed_index.specs.Places.{dist, Taken, Reached, Nearly, Missing}
use Rattle.std.proofs.lemmas.Option.{none-some}
use Rattle.index.proofs.Entries.{same_some}
use Rattle.hashed_index.proofs.Rounds.{dist_lt, dist_self, dist_inj, dist_via, dist-back}

pub none-taken : (ps : List (Option Entry)) (i : ℕ) → get_or ps i None ≡ None → Taken ps i → ⊥
none-taken ps i n t = both_ways (is_some (get_or ps i None)) (ap is_some n) t

pub within : (ps : List (Option Entry)) (i : ℕ) (e : Entry) → get_or ps i None ≡ Some e → i < length ps
within ps i e h =
    elim (cases_lt i (length ps)) [ inl lt ↦ lt | inr ge ↦ absurd (none-some e (sym (get_or_past ps i None ge) ∙ h)) ]

module _ (ps : List (Option Entry)) (some : 0 < length ps) (k : ℕ) where
  abbrev pub Passed : ℕ → Type 0
  Passed s = (b : ℕ) → b < length ps → dist (length ps) (k % length ps) b < s → Taken ps b × ((e : Entry) → get_or ps b None ≡ Some e → e.id ≡ k → ⊥)

  hk : k % length ps < length ps
  hk = mod-lt k some

  pub passed-more : (s i : ℕ) (e : Entry) → Passed s → i < length ps → dist (length ps) (k % length ps) i ≡ s → get_or ps i None ≡ Some e → (e.id ≡ k → ⊥) → Passed (s + 1)
  passed-more s i e p hi d is ne b hb lt =
      elim (cases_lt (dist (length ps) (k % length ps) b) s) [
        | inl l ↦ p b hb l
        | inr g ↦
            let x : i ≡ b = dist_inj (length ps) (k % length ps) i b hk hi hb (omega arith) in
            let is' : get_or ps b None ≡ Some e = ap (λ (z : ℕ). get_or ps z None) (sym x) ∙ is in
            (ap is_some is', λ f q r. ne (let y : e.id ≡ f.id = (let w = same_some (get_or ps b None) e f is' q in ap (λ z. z.id) w) in y ∙ r))
      ]

  pub free-missing : (s i : ℕ) → Reached ps → Passed s → i < length ps → dist (length ps) (k % length ps) i ≡ s → get_or ps i None ≡ None → Missing ps k
  free-missing s i reached p hi d free j e is r =
      let hj = within ps j e is in
      elim (cases_order (dist (length ps) (k % length ps) j) s) [
        | inl x ↦
            let y : j ≡ i = dist_inj (length ps) (k % length ps) j i hk hj hi (omega arith) in
            none-some e (sym free ∙ (ap (λ (z : ℕ). get_or ps z None) (sym y) ∙ is))
        | inr o ↦ elim o [
          | inl lt ↦ (p j hj lt).1 e is r
          | inr gt ↦
              let q : dist (length ps) (e.id % length ps) i < dist (length ps) (e.id % length ps) j =
              subst (λ (z : ℕ). dist (length ps) (z % length ps) i < dist (length ps) (z % length ps) j) (sym r) (omega arith) in
              none-taken ps i free (reached j i (e, is, hi, q))
        ]
      ]

  pub all-missing : (s : ℕ) → length ps ≤ s → Passed s → Missing ps k
  all-missing s h p j e is r =
      let hj = within ps j e is in (p j hj (omega (arith, dist_lt (length ps) (k % length ps) j hk hj))).1 e is r

  pub all-taken : (s : ℕ) → length ps ≤ s → Passed s → (b : ℕ) → b < length ps → Taken ps b
  all-taken s h p b hb = (p b hb (omega (arith, dist_lt (length ps) (k % length ps) b hk hb))).0

-- the walk on from a hole
module _ (ps : List (Option Entry)) (h : ℕ) (hh : h < length ps) (free : get_or ps h None ≡ None) (nearly : Nearly ps h) where
  abbrev pub Fine : ℕ → Type 0
  Fine s = (b : ℕ) (e : Entry) → b < length ps → 0 < dist (length ps) h b → dist (length ps) h b < s → get_or ps b None ≡ Some e → dist (length ps) (e.id % length ps) b < dist (length ps) h b

  some : 0 < length ps
  some = omega arith

  pub fine_more : (s i : ℕ) (e : Entry) → Fine s → i < length ps → dist (length ps) h i ≡ s → get_or ps i None ≡ Some e → dist (length ps) (e.id % length ps) i < s → Fine (s + 1)
  fine_more s i e f hi d is lt b g hb pos lt' is' =
      elim (cases_lt (dist (length ps) h b) s) [
        | inl l ↦ f b g hb pos l is'
        | inr ge ↦
            let x : i ≡ b = dist_inj (length ps) h i b hh hi hb (omega arith) in
            let w : e ≡ g = same_some (get_or ps b None) e g (ap (λ (z : ℕ). get_or ps z None) (sym x) ∙ is) is' in
            let q : dist (length ps) (e.id % length ps) b < s = subst (λ (z : ℕ). dist (length ps) (e.id % length ps) z < s) x lt in
            let r : dist (length ps) (g.id % length ps) b < s = subst (λ (z : Entry). dist (length ps) (z.id % length ps) b < s) w q in
            omega arith
      ]

  -- all is reached, if what is fine ends at a free place or comes round
  pub closed : (s : ℕ) → Fine s → ((length ps ≤ s) ⊎ ((j : ℕ) × (j < length ps) × (dist (length ps) h j ≡ s) × (0 < s) × (get_or ps j None ≡ None))) → Reached ps
  closed s fine ends p b v =
      let e = v.0 in
      let hp = within ps p e v.1 in
      let he : e.id % length ps < length ps = mod-lt e.id some in
      elim (cases_eq b h) [
        | inr ne ↦ nearly p b e (v.1, v.2, v.3) ne
        | inl x ↦
            let lt : dist (length ps) (e.id % length ps) h < dist (length ps) (e.id % length ps) p =
            subst (λ (z : ℕ). dist (length ps) (e.id % length ps) z < dist (length ps) (e.id % length ps) p) x v.3 in
            let via = dist_via (length ps) (e.id % length ps) h p he hh hp lt in
            let pos : 0 < dist (length ps) h p = omega arith in
            let no-fine : dist (length ps) h p < s → ⊥ = λ l. omega (arith, fine p e hp pos l v.1) in
            absurd
            (elim ends [
              | inl far ↦ no-fine (omega (arith, dist_lt (length ps) h p hh hp))
              | inr j ↦
                  elim (cases_order (dist (length ps) h p) s) [
                    | inl q ↦
                        let y : p ≡ j.0 = dist_inj (length ps) h p j.0 hh hp j.1 (omega (arith, j.2)) in
                        none-some e (sym (ap (λ (z : ℕ). get_or ps z None) y ∙ j.4) ∙ v.1)
                    | inr o ↦ elim o [
                      | inl l ↦ no-fine l
                      | inr gt ↦
                          let d = dist_via (length ps) h j.0 p hh j.1 hp (omega (arith, j.2)) in
                          let u = dist-back (length ps) (e.id % length ps) j.0 p he j.1 hp (omega (arith, d, via)) in
                          let apart : j.0 ≡ h → ⊥ = λ y. omega (arith, j.2, j.3, dist_self (length ps) h, ap (λ (z : ℕ). dist (length ps) h z) y) in
                          none-taken ps j.0 j.4 (nearly p j.0 e (v.1, j.1, omega (arith, u, d, j.2)) apart)
                    ]
                  ]
            ])
      ]
