-- What a move of an entry back over a free place does.
use Rattle.std.proofs.Common.{◌≡◌, ℕ, zero, suc, ◌+◌, ◌%◌, ◌<◌, ◌≤◌, cond, eqb, ◌⊎◌, List, length, get_or, set, is_some, Some, None, Option, sym, refl, ap, ◌∙◌, subst, inl, inr, mod-lt, arith}
use Rattle.std.specs.List.{swap}
use Rattle.std.proofs.lemmas.List.Edits.{length-swap, swap_is}
use Rattle.std.proofs.lemmas.List.{length-set, get_or-set_same, get_or-set_other}
use Rattle.std.proofs.lemmas.Bool.{cases_eq, eq-eqb, ne_eqb}
use Rattle.index.specs.declared.entry.Entry.{Entry}
use Rattle.index.specs.Held.{at}
use Rattle.hashed_index.specs.Places.{dist, Taken, Alone, Nearly, kept}
use Rattle.hashed_index.proofs.Rounds.{dist_zero, dist-back}
use Rattle.std.proofs.lemmas.Option.{none-some}
use Rattle.index.proofs.Entries.{same_some}
use Rattle.hashed_index.specs.Keeps.{kept_same, kept_fill, kept-drop}

-- how far an entry at the place p is from where its search starts
abbrev away : ℕ → ℕ → Option Entry → ℕ
away n p None = 0
away n p (Some e) = dist n (e.id % n) p

-- the sum of a function over the numbers below m
abbrev total : (ℕ → ℕ) → ℕ → ℕ
total f zero = 0
total f (suc m) = total f m + f m

-- how far all entries are from where their searches start: each move lessens it
abbrev pub spread : List (Option Entry) → ℕ
spread ps = total (λ i. away (length ps) i (get_or ps i None)) (length ps)

-- ---- sums
total-same : (f g : ℕ → ℕ) (n : ℕ) → ((m : ℕ) → m < n → g m ≡ f m) → total g n ≡ total f n
total-same f g zero h = refl
total-same f g (suc n) h = omega (arith, total-same f g n (λ m l. h m (omega arith)), h n (omega arith))

total-one : (f g : ℕ → ℕ) (i n : ℕ) → i < n → ((m : ℕ) → (m ≡ i → ⊥) → g m ≡ f m) → total g n + f i ≡ total f n + g i
total-one f g i zero l h = omega arith
total-one f g i (suc n) l h =
    elim (cases_eq n i) [
      | inl x ↦
          omega (arith, total-same f g n (λ m k. h m (λ y. omega arith)), ap f x, ap g x)
      | inr ne ↦ omega (arith, total-one f g i n (omega arith) h, h n ne)
    ]

total_two : (f g : ℕ → ℕ) (i j n : ℕ) → i < n → j < n → (i ≡ j → ⊥) → ((m : ℕ) → (m ≡ i → ⊥) → (m ≡ j → ⊥) → g m ≡ f m) → total g n + (f i + f j) ≡ total f n + (g i + g j)
total_two f g i j n hi hj ne h =
    let k : ℕ → ℕ = λ m. cond (eqb m i) (g m) (f m) in
    let ki : k i ≡ g i = rw (eq-eqb i i refl) refl in
    let kj : k j ≡ f j = rw (ne_eqb j i (λ x. ne (sym x))) refl in
    let a : total k n + f i ≡ total f n + k i = total-one f k i n hi (λ m x. rw (ne_eqb m i x) refl) in
    let b : total g n + k j ≡ total k n + g j =
    total-one k g j n hj
    (λ m x. elim (cases_eq m i) [ inl y ↦ sym (rw (eq-eqb m i y) refl) | inr y ↦ h m y x ∙ sym (rw (ne_eqb m i y) refl) ]) in
    omega (arith, a, b, ki, kj)

-- ---- an entry moves back over a hole
module _ (ps : List (Option Entry)) (h j : ℕ) (e : Entry) (is : get_or ps j None ≡ Some e) (hj : j < length ps) (apart : j ≡ h → ⊥)
    (cut : dist (length ps) h j ≤ dist (length ps) (e.id % length ps) j)
    (hh : h < length ps) (free : get_or ps h None ≡ None) (nearly : Nearly ps h) (alone : Alone ps)
    (qs : List (Option Entry)) (swapped : qs ≡ swap ps h j) where
  moved : qs ≡ set (set ps h (get_or ps j None)) j None
  moved = swapped ∙ sym (swap_is ps h j None hh hj) ∙ ap (λ (x : Option Entry). set (set ps h (get_or ps j None)) j x) free

  pub moved-len : length qs ≡ length ps
  moved-len = ap length swapped ∙ length-swap ps h j

  hj' : j < length (set ps h (get_or ps j None))
  hj' = simp length-set hj

  pub moved-free : get_or qs j None ≡ None
  moved-free = ap (λ zs. get_or zs j None) moved ∙ get_or-set_same (set ps h (get_or ps j None)) j None None hj'

  read_h : get_or qs h None ≡ Some e
  read_h = ap (λ zs. get_or zs h None) moved ∙ get_or-set_other (set ps h (get_or ps j None)) j h None None (λ x. apart (sym x)) ∙ get_or-set_same ps h (get_or ps j None) None hh ∙ is

  read-other : (i : ℕ) → (i ≡ h → ⊥) → (i ≡ j → ⊥) → get_or qs i None ≡ get_or ps i None
  read-other i x y = ap (λ zs. get_or zs i None) moved ∙ get_or-set_other (set ps h (get_or ps j None)) j i None None y ∙ get_or-set_other ps h i (get_or ps j None) None x

  abbrev From : ℕ → Entry → Type 0
  From i x = (m : ℕ) × (get_or ps m None ≡ Some x) × (((i ≡ h) × (m ≡ j) × (x ≡ e)) ⊎ ((m ≡ i) × (i ≡ h → ⊥) × (i ≡ j → ⊥)))

  from : (i : ℕ) (x : Entry) → get_or qs i None ≡ Some x → From i x
  from i x s =
      elim (cases_eq i h) [
        | inl y ↦
            let q : e ≡ x = same_some (get_or qs h None) e x read_h (ap (λ (z : ℕ). get_or qs z None) (sym y) ∙ s) in
            (j, is ∙ ap Some q, inl (y, refl, sym q))
        | inr y ↦
            elim (cases_eq i j) [
              | inl z ↦ absurd (none-some x (sym (ap (λ (w : ℕ). get_or qs w None) z ∙ moved-free) ∙ s))
              | inr z ↦ (i, sym (read-other i y z) ∙ s, inr (refl, y, z))
            ]
      ]

  into : (i : ℕ) (x : Entry) → get_or ps i None ≡ Some x → (m : ℕ) × (get_or qs m None ≡ Some x)
  into i x s =
      elim (cases_eq i j) [
        | inl y ↦ (h, read_h ∙ ap Some (same_some (get_or ps j None) e x is (ap (λ (z : ℕ). get_or ps z None) (sym y) ∙ s)))
        | inr y ↦
            elim (cases_eq i h) [
              | inl z ↦ absurd (none-some x (sym (ap (λ (w : ℕ). get_or ps w None) z ∙ free) ∙ s))
              | inr z ↦ (i, read-other i z y ∙ s)
            ]
      ]

  pub moved_alone : Alone qs
  moved_alone i k w =
      let a = from i w.0 w.1 in
      let b = from k w.2 w.3 in
      let q : a.0 ≡ b.0 = alone a.0 b.0 (w.0, a.1, w.2, b.1, w.4) in
      elim a.2 [
        | inl u ↦ elim b.2 [ inl v ↦ u.0 ∙ sym v.0 | inr v ↦ absurd (v.2 (sym v.0 ∙ sym q ∙ u.1)) ]
        | inr u ↦ elim b.2 [ inl v ↦ absurd (u.2 (sym u.0 ∙ q ∙ v.1)) | inr v ↦ sym u.0 ∙ q ∙ v.0 ]
      ]

  pub moved_at : (q : ℕ) → at (kept qs) q ≡ at (kept ps) q
  moved_at = kept_same ps qs moved_alone into (λ i x s. let a = from i x s in (a.0, a.1))

  pub moved-count : length (kept qs) ≡ length (kept ps)
  moved-count =
      let one : length (kept (set ps h (get_or ps j None))) ≡ length (kept ps) + 1 =
      ap (λ (z : Option Entry). length (kept (set ps h z))) is ∙ kept_fill ps h e hh free in
      let two : length (kept qs) + 1 ≡ length (kept (set ps h (get_or ps j None))) =
      ap (λ zs. length (kept zs) + 1) moved ∙ kept-drop (set ps h (get_or ps j None)) j e (get_or-set_other ps h j (get_or ps j None) None apart ∙ is) in
      omega (arith, one, two)

  some : 0 < length ps
  some = omega arith

  back : dist (length ps) (e.id % length ps) h + dist (length ps) h j ≡ dist (length ps) (e.id % length ps) j
  back = dist-back (length ps) (e.id % length ps) h j (mod-lt e.id some) hh hj cut

  nearly' : (p b : ℕ) (x : Entry) → get_or qs p None ≡ Some x → b < length ps → dist (length ps) (x.id % length ps) b < dist (length ps) (x.id % length ps) p → (b ≡ j → ⊥) → Taken qs b
  nearly' p b x s hb lt ne =
      elim (cases_eq b h) [
        | inl y ↦ ap is_some (ap (λ (z : ℕ). get_or qs z None) y ∙ read_h)
        | inr y ↦
            let a = from p x s in
            let t : Taken ps b =
            elim a.2 [
              | inl u ↦
                  let lt' : dist (length ps) (e.id % length ps) b < dist (length ps) (e.id % length ps) h =
                  subst (λ (z : Entry). dist (length ps) (z.id % length ps) b < dist (length ps) (z.id % length ps) h) u.2
                  (subst (λ (z : ℕ). dist (length ps) (x.id % length ps) b < dist (length ps) (x.id % length ps) z) u.0 lt) in
                  nearly j b e (is, hb, omega (arith, lt', back)) y
              | inr u ↦ nearly p b x (ap (λ (z : ℕ). get_or ps z None) (sym u.0) ∙ a.1, hb, lt) y
            ] in
            ap is_some (read-other b y ne) ∙ t
      ]

  pub moved-nearly : Nearly qs j
  moved-nearly p b x w ne =
      let P : ℕ → Type 0 = λ n. (b < n) → dist n (x.id % n) b < dist n (x.id % n) p → Taken qs b in
      subst P (sym moved-len) (λ hb lt. nearly' p b x w.0 hb lt ne) w.1 w.2

  pub moved-spread : spread qs < spread ps
  moved-spread =
      let f : ℕ → ℕ = λ i. away (length ps) i (get_or ps i None) in
      let g : ℕ → ℕ = λ i. away (length ps) i (get_or qs i None) in
      let n = length ps in
      let fh : f h ≡ 0 = ap (away n h) free in
      let fj : f j ≡ dist n (e.id % n) j = ap (away n j) is in
      let gh : g h ≡ dist n (e.id % n) h = ap (away n h) read_h in
      let gj : g j ≡ 0 = ap (away n j) moved-free in
      let t : total g n + (f h + f j) ≡ total f n + (g h + g j) =
      total_two f g h j n hh hj (λ x. apart (sym x)) (λ m x y. ap (away n m) (read-other m x y)) in
      let pos : dist n h j ≡ 0 → ⊥ = λ z. apart (sym (dist_zero n h j hh hj z)) in
      let lt : total g n < total f n = omega (arith, t, fh, fj, gh, gj, back, pos) in
      let P : ℕ → Type 0 = λ m. total (λ i. away m i (get_or qs i None)) m < total f n in
      subst P (sym moved-len) lt
