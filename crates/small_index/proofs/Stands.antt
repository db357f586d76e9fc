-- What stands in a small index after one write to its list.
use Rattle.std.proofs.Common.{◌≡◌, ℕ, zero, suc, ◌+◌, ◌-◌, ◌<◌, ◌≤◌, List, [], ◌∷◌, ◌++◌, length, get_or, take, set, Some, None, Option, sym, refl, ap, ◌∙◌, subst, add-one, arith, MatchOption}
use Rattle.std.specs.List.{slice_get}
use Rattle.std.proofs.lemmas.Bool.{eq-eqb, ne_eqb}
use Rattle.std.proofs.lemmas.List.{length-take-le, get_or-take, take_more_set, take-take}
use Rattle.index.specs.declared.entry.Entry.{Entry}
use Rattle.index.specs.Held.{at, Once, blank}
use Rattle.index.proofs.Entries.{Absent, at_here, at_place, at-absent, once_tail}
use Rattle.small_index.specs.declared.segment.SmallSegmentMap.{SmallSegmentMap}
use Rattle.small_index.specs.Standing.{standing, puts, outs, last_first}
use Rattle.small_index.specs.Stood.{stood, listed}

-- ---- puts and outs, by the place of the id
puts-miss : (es : List Entry) (e : Entry) → Absent es e.id → puts es e ≡ es ++ e ∷ []
puts-miss [] e a = refl
puts-miss (x ∷ es) e a =
    rw (ne_eqb x.id e.id (λ q. a 0 (omega arith) q))
    (ap (λ ys. x ∷ ys) (puts-miss es e (λ i h q. a (suc i) (omega arith) q)))

puts-hit : (es : List Entry) (e : Entry) (i : ℕ) → i < length es → (get_or es i blank).id ≡ e.id → ((j : ℕ) → j < i → (get_or es j blank).id ≡ e.id → ⊥) → puts es e ≡ set es i e
puts-hit [] e i h q f = absurd (omega arith)
puts-hit (x ∷ es) e zero h q f = rw (eq-eqb x.id e.id q) refl
puts-hit (x ∷ es) e (suc i) h q f =
    rw (ne_eqb x.id e.id (λ y. f 0 (omega arith) y))
    (ap (λ ys. x ∷ ys) (puts-hit es e i (omega arith) q (λ j l y. f (suc j) (omega arith) y)))

outs-miss : (es : List Entry) (k : ℕ) → Absent es k → outs es k ≡ es
outs-miss [] k a = refl
outs-miss (x ∷ es) k a =
    rw (ne_eqb x.id k (λ q. a 0 (omega arith) q))
    (ap (λ ys. x ∷ ys) (outs-miss es k (λ i h q. a (suc i) (omega arith) q)))

last_set : (x : Entry) (es : List Entry) → last_first es ≡ take (length es) (set (x ∷ es) 0 (get_or (x ∷ es) (length es) blank))
last_set x [] = refl
last_set x (y ∷ ys) = refl

outs-hit : (es : List Entry) (k i : ℕ) → i < length es → (get_or es i blank).id ≡ k → ((j : ℕ) → j < i → (get_or es j blank).id ≡ k → ⊥)
    → outs es k ≡ take (length es - 1) (set es i (get_or es (length es - 1) blank))
outs-hit [] k i h q f = absurd (omega arith)
outs-hit (x ∷ es) k zero h q f =
    let l : suc (length es) - 1 ≡ length es = omega arith in
    rw (eq-eqb x.id k q)
    (last_set x es ∙ ap (λ (z : ℕ). take z (set (x ∷ es) 0 (get_or (x ∷ es) z blank))) (sym l))
outs-hit (x ∷ []) k (suc i) h q f = absurd (omega arith)
outs-hit (x ∷ y ∷ ys) k (suc i) h q f =
    let l : suc (suc (length ys)) - 1 ≡ suc (suc (length ys) - 1) = omega arith in
    rw (ne_eqb x.id k (λ z. f 0 (omega arith) z))
    (ap (λ zs. x ∷ zs) (outs-hit (y ∷ ys) k i (omega arith) q (λ j m z. f (suc j) (omega arith) z))
    ∙ ap (λ (z : ℕ). take z (set (x ∷ y ∷ ys) (suc i) (get_or (x ∷ y ∷ ys) z blank))) (sym l))

take_set_in : (n : ℕ) (xs : List Entry) (i : ℕ) (e : Entry) → i < n → take n (set xs i e) ≡ set (take n xs) i e
take_set_in zero xs i e h = absurd (omega arith)
take_set_in (suc n) [] i e h = refl
take_set_in (suc n) (x ∷ xs) zero e h = refl
take_set_in (suc n) (x ∷ xs) (suc i) e h = ap (λ ys. x ∷ ys) (take_set_in n xs i e (omega arith))

-- the last of a list, moved up before the others
up_is : (xs : List Entry) (n : ℕ) → n ≤ length xs → 0 < n → get_or xs (n - 1) blank ∷ take (n - 1) xs ≡ last_first (take n xs)
up_is xs zero le h = absurd (omega arith)
up_is [] (suc n) le h = absurd (omega arith)
up_is (x ∷ xs) (suc n) le h =
    let p : suc n - 1 ≡ n = omega arith in
    let l : length (take n xs) ≡ n = length-take-le n xs (omega arith) in
    let a : get_or (x ∷ take n xs) n blank ≡ get_or (x ∷ xs) n blank = get_or-take (suc n) (x ∷ xs) n blank (omega arith) in
    let b : take n (x ∷ take n xs) ≡ take n (x ∷ xs) = take-take n (suc n) (x ∷ xs) (omega arith) in
    ap (λ (z : ℕ). get_or (x ∷ xs) z blank ∷ take z (x ∷ xs)) p
    ∙ ap (λ y. y ∷ take n (x ∷ xs)) (sym a) ∙ ap (λ ys. get_or (x ∷ take n xs) n blank ∷ ys) (sym b)
    ∙ ap (λ (z : ℕ). get_or (x ∷ take n xs) z blank ∷ take z (x ∷ take n xs)) (sym l)

-- a list and a count that a call left
left : (o : Option Entry) {xs ys : List Entry} {m n : ℕ} → ys ≡ xs → m ≡ n → standing o ys m ≡ standing o xs n
left o {xs} {ys} {m} {n} e f = ap (λ zs. standing o zs m) e ∙ ap (λ (z : ℕ). standing o xs z) f

once_after : (o : Option Entry) (xs : List Entry) (n : ℕ) → Once (standing o xs n) → Once (take n xs)
once_after None xs n once = once
once_after (Some f) xs n once = once_tail f (take n xs) once

nth_standing : (o : Option Entry) (xs : List Entry) (n p : ℕ) → (o ≡ None → n ≡ 0) → (p ≡ 0 → ⊥) → slice_get (take n xs) (p - 1) ≡ slice_get (standing o xs n) p
nth_standing None xs n p packed ne =
    let z = packed refl in ap (λ (m : ℕ). slice_get (take m xs) (p - 1)) z ∙ sym (ap (λ (m : ℕ). slice_get (take m xs) p) z)
nth_standing (Some f) xs n zero packed ne = absurd (ne refl)
nth_standing (Some f) xs n (suc p) packed ne =
    let q : suc p - 1 ≡ p = omega arith in ap (λ (i : ℕ). slice_get (take n xs) i) q

module _ (s : SmallSegmentMap) where
  abbrev xs : List Entry
  xs = s.overflow.entries

  abbrev n : ℕ
  n = s.overflow.len

  le : n ≤ length xs
  le = omega (arith, s.overflow.short, s.overflow.sized)

  len : length (take n xs) ≡ n
  len = length-take-le n xs le

  pub once-listed : Once (listed s)
  once-listed = once_after s.first xs n s.once

  -- what the last leaves that is taken off the list, and put first
  pub moved_up : (o : Option Entry) (ys : List Entry) (m : ℕ) → MatchOption o (n ≡ 0) (λ e. (0 < n) × (e ≡ get_or xs (n - 1) blank))
      → ys ≡ xs → m ≡ n - 1 → standing o ys m ≡ last_first (listed s)
  moved_up None ys m z items l =
      left None items l ∙ ap (λ (k : ℕ). take (k - 1) xs) z ∙ sym (ap (λ (k : ℕ). last_first (take k xs)) z)
  moved_up (Some e) ys m v items l =
      left (Some e) items l ∙ ap (λ z. z ∷ take (n - 1) xs) v.1 ∙ up_is xs n le v.0

  pub nth_stood : (p : ℕ) → (p ≡ 0 → ⊥) → slice_get (listed s) (p - 1) ≡ slice_get (stood s) p
  nth_stood p ne = nth_standing s.first xs n p s.packed ne

  module _ (f : Entry) (is : s.first ≡ Some f) where
    stood-is : stood s ≡ f ∷ take n xs
    stood-is = ap (λ (o : Option Entry). standing o xs n) is

    once-es : Once (f ∷ take n xs)
    once-es = subst Once stood-is s.once

    read : (i : ℕ) → i < n → get_or (f ∷ take n xs) (suc i) blank ≡ get_or xs i blank
    read i h = get_or-take n xs i blank h

    pub full : length (stood s) ≡ n + 1
    full = ap length stood-is ∙ ap suc len ∙ sym (add-one n)

    pub hit-first : (k : ℕ) → f.id ≡ k → at (stood s) k ≡ Some f.number
    hit-first k e = ap (λ es. at es k) stood-is ∙ at_here f (take n xs) k (sym e)

    pub hit_list : (i k : ℕ) → i < n → (get_or xs i blank).id ≡ k → at (stood s) k ≡ Some (get_or xs i blank).number
    hit_list i k h e =
        ap (λ es. at es k) stood-is
        ∙ at_place (f ∷ take n xs) (suc i) k once-es (omega (arith, len)) (ap (λ x. x.id) (read i h) ∙ e)
        ∙ ap (λ x. Some x.number) (read i h)

    pub put_first : (e : Entry) → f.id ≡ e.id → standing (Some e) xs n ≡ puts (stood s) e
    put_first e q = sym (ap (λ es. puts es e) stood-is ∙ rw (eq-eqb f.id e.id q) refl)

    pub out_first : (k : ℕ) → f.id ≡ k → last_first (listed s) ≡ outs (stood s) k
    out_first k q = sym (ap (λ es. outs es k) stood-is ∙ rw (eq-eqb f.id k q) refl)

    -- an id that stands nowhere
    module _ (k : ℕ) (ne : f.id ≡ k → ⊥) (none : (i : ℕ) → i < n → (get_or xs i blank).id ≡ k → ⊥) where
      absent-at : (i : ℕ) → i < length (f ∷ take n xs) → (get_or (f ∷ take n xs) i blank).id ≡ k → ⊥
      absent-at zero h e = ne e
      absent-at (suc i) h e = let l : i < n = omega (arith, len) in none i l (sym (ap (λ x. x.id) (read i l)) ∙ e)

      pub miss : at (stood s) k ≡ None
      miss = ap (λ es. at es k) stood-is ∙ at-absent (f ∷ take n xs) k absent-at

      pub out_none : stood s ≡ outs (stood s) k
      out_none = stood-is ∙ sym (ap (λ es. outs es k) stood-is ∙ outs-miss (f ∷ take n xs) k absent-at)

    pub put-end : (e : Entry) → (f.id ≡ e.id → ⊥) → ((i : ℕ) → i < n → (get_or xs i blank).id ≡ e.id → ⊥)
        → (ys : List Entry) (m : ℕ) → n < 255 → ys ≡ set xs n e → m ≡ n + 1 → standing s.first ys m ≡ puts (stood s) e
    put-end e ne none ys m lt items l =
        left s.first items l
        ∙ ap (λ (o : Option Entry). standing o (set xs n e) (n + 1)) is
        ∙ ap (λ zs. f ∷ zs) (take_more_set xs n e (omega (arith, s.overflow.sized)))
        ∙ sym (ap (λ es. puts es e) stood-is ∙ puts-miss (f ∷ take n xs) e (absent-at e.id ne none))

    -- an id that stands in the list
    module _ (i k : ℕ) (lt : i < n) (here : (get_or xs i blank).id ≡ k) where
      before : (j : ℕ) → j < suc i → (get_or (f ∷ take n xs) j blank).id ≡ k → ⊥
      before j l e = once-es j (suc i) (l, omega (arith, len), e ∙ sym (ap (λ x. x.id) (read i lt) ∙ here))

      stands : (get_or (f ∷ take n xs) (suc i) blank).id ≡ k
      stands = ap (λ x. x.id) (read i lt) ∙ here

      pub out_list : (ys : List Entry) (m : ℕ) → ys ≡ set xs i (get_or xs (n - 1) blank) → m ≡ n - 1 → standing s.first ys m ≡ outs (stood s) k
      out_list ys m items l =
          let d = get_or xs (n - 1) blank in
          let p : length (f ∷ take n xs) - 1 ≡ n = omega (arith, len) in
          let q : n ≡ suc (n - 1) = omega arith in
          let a : get_or (f ∷ take n xs) n blank ≡ d =
          ap (λ (z : ℕ). get_or (f ∷ take n xs) z blank) q ∙ get_or-take n xs (n - 1) blank (omega arith) in
          let b : take (n - 1) (set (take n xs) i d) ≡ take (n - 1) (set xs i d) =
          ap (λ zs. take (n - 1) zs) (sym (take_set_in n xs i d lt)) ∙ take-take (n - 1) n (set xs i d) (omega arith) in
          left s.first items l
          ∙ ap (λ (o : Option Entry). standing o (set xs i d) (n - 1)) is
          ∙ sym
          (ap (λ es. outs es k) stood-is
          ∙ outs-hit (f ∷ take n xs) k (suc i) (omega (arith, len)) stands before
          ∙ ap (λ (z : ℕ). take z (set (f ∷ take n xs) (suc i) (get_or (f ∷ take n xs) z blank))) p
          ∙ ap (λ y. take n (set (f ∷ take n xs) (suc i) y)) a
          ∙ ap (λ (z : ℕ). take z (f ∷ set (take n xs) i d)) q
          ∙ ap (λ zs. f ∷ zs) b)

    pub put_list : (e : Entry) (i : ℕ) → i < n → (get_or xs i blank).id ≡ e.id
        → (ys : List Entry) (m : ℕ) → ys ≡ set xs i e → m ≡ n → standing s.first ys m ≡ puts (stood s) e
    put_list e i lt here ys m items l =
        left s.first items l
        ∙ ap (λ (o : Option Entry). standing o (set xs i e) n) is
        ∙ ap (λ zs. f ∷ zs) (take_set_in n xs i e lt)
        ∙ sym (ap (λ es. puts es e) stood-is
        ∙ puts-hit (f ∷ take n xs) e (suc i) (omega (arith, len)) (stands i e.id lt here) (before i e.id lt here))
