-- What one write to the places does.
use Rattle.std.proofs.Common.{◌≡◌, ℕ, zero, suc, ◌%◌, ◌<◌, eqb, ◌⊎◌, List, [], length, get_or, set, replicate, is_some, Some, None, Ok, Option, sym, refl, ap, ◌∙◌, subst, inl, inr, arith}
use Rattle.std.specs.Map.{update}
use Rattle.std.proofs.lemmas.List.{length-set, length-replicate, get_or-set_same, get_or-set_other}
use Rattle.std.proofs.lemmas.Bool.{cases_eq}
use Rattle.index.specs.declared.entry.Entry.{Entry}
use Rattle.index.specs.Held.{at, Put, Removed}
use Rattle.hashed_index.specs.declared.probe.Spot.TheVariants.{At, Free}
use Rattle.hashed_index.specs.Spots.{Spotted}
use Rattle.hashed_index.specs.Places.{dist, Taken, Alone, Reached, Nearly, Missing, kept}
use Rattle.std.proofs.lemmas.Option.{none-some}
use Rattle.index.proofs.Entries.{same_some}
use Rattle.hashed_index.proofs.Seeks.{within}
use Rattle.hashed_index.specs.Keeps.{kept-is, kept-missing, kept_update, kept_fill, kept_swap, kept-drop, spot_at}

-- ---- places that are all free
pub free-read : (n i : ℕ) → get_or (replicate {A = Option Entry} n None) i None ≡ None
free-read zero i = refl
free-read (suc n) zero = refl
free-read (suc n) (suc i) = free-read n i

pub free-kept : (n : ℕ) → kept (replicate n None) ≡ []
free-kept zero = refl
free-kept (suc n) = free-kept n

pub free_alone : (n : ℕ) → Alone (replicate n None)
free_alone n i j w = absurd (none-some w.0 (sym (free-read n i) ∙ w.1))

pub free-reached : (n : ℕ) → Reached (replicate n None)
free-reached n p b w = absurd (none-some w.0 (sym (free-read n p) ∙ w.1))

pub all-free : (ps : List (Option Entry)) (n : ℕ) → ps ≡ replicate n None → (length ps ≡ n) × Alone ps × Reached ps × (0 ≡ length (kept ps))
all-free ps n is = (
  ap length is ∙ length-replicate n None,
  subst Alone (sym is) (free_alone n),
  subst Reached (sym is) (free-reached n),
  sym (ap (λ qs. length (kept qs)) is ∙ ap length (free-kept n)),
)

-- a fact about places with one write, told by the length before
sized : (ps : List (Option Entry)) (i : ℕ) (v : Option Entry) (p b : ℕ) (k : ℕ) (Q : Type 0)
    → (b < length ps → dist (length ps) (k % length ps) b < dist (length ps) (k % length ps) p → Q)
    → b < length (set ps i v) → dist (length (set ps i v)) (k % length (set ps i v)) b < dist (length (set ps i v)) (k % length (set ps i v)) p → Q
sized ps i v p b k Q h =
    let P : ℕ → Type 0 = λ n. b < n → dist n (k % n) b < dist n (k % n) p → Q in subst P (sym (length-set ps i v)) h

-- ---- an entry over one with its id
module _ (ps : List (Option Entry)) (i : ℕ) (e f : Entry) (is : get_or ps i None ≡ Some f) (same : f.id ≡ e.id) (alone : Alone ps) (reached : Reached ps) where
  here : get_or (set ps i (Some e)) i None ≡ Some e
  here = get_or-set_same ps i (Some e) None (within ps i f is)

  from : (j : ℕ) (x : Entry) → get_or (set ps i (Some e)) j None ≡ Some x → (y : Entry) × (get_or ps j None ≡ Some y) × (y.id ≡ x.id)
  from j x s =
      elim (cases_eq j i) [
        | inl q ↦ (
          f,
          ap (λ (z : ℕ). get_or ps z None) q ∙ is,
          same ∙ ap (λ (z : Entry). z.id) (same_some (get_or (set ps i (Some e)) i None) e x here (ap (λ (z : ℕ). get_or (set ps i (Some e)) z None) (sym q) ∙ s)),
        )
        | inr ne ↦ (x, sym (get_or-set_other ps i j (Some e) None ne) ∙ s, refl)
      ]

  pub over_alone : Alone (set ps i (Some e))
  over_alone j k w =
      let a = from j w.0 w.1 in
      let b = from k w.2 w.3 in
      alone j k (a.0, a.1, b.0, b.1, a.2 ∙ w.4 ∙ sym b.2)

  taken : (b : ℕ) → Taken ps b → Taken (set ps i (Some e)) b
  taken b t =
      elim (cases_eq b i) [
        | inl q ↦ ap is_some (ap (λ (z : ℕ). get_or (set ps i (Some e)) z None) q ∙ here)
        | inr ne ↦ ap is_some (get_or-set_other ps i b (Some e) None ne) ∙ t
      ]

  pub over_reached : Reached (set ps i (Some e))
  over_reached p b w =
      let a = from p w.0 w.1 in
      sized ps i (Some e) p b w.0.id (Taken (set ps i (Some e)) b)
      (λ hb lt. taken b (reached p b (
        a.0,
        a.1,
        hb,
        subst (λ (z : ℕ). dist (length ps) (z % length ps) b < dist (length ps) (z % length ps) p) (sym a.2) lt,
      )))
      w.2 w.3

  pub over_at : (q : ℕ) → at (kept (set ps i (Some e))) q ≡ update eqb (at (kept ps)) e.id (Some e.number) q
  over_at =
      kept_update ps (set ps i (Some e)) e.id (Some e.number) over_alone
      (λ j x s ne. elim (cases_eq j i) [
        | inl q ↦ absurd (ne (ap (λ (z : Entry). z.id) (same_some (get_or ps i None) x f (ap (λ (z : ℕ). get_or ps z None) (sym q) ∙ s) is) ∙ same))
        | inr o ↦ (j, get_or-set_other ps i j (Some e) None o ∙ s)
      ])
      (λ j x s ne. elim (cases_eq j i) [
        | inl q ↦ absurd (ne (ap (λ (z : Entry). z.id) (same_some (get_or (set ps i (Some e)) i None) x e (ap (λ (z : ℕ). get_or (set ps i (Some e)) z None) (sym q) ∙ s) here)))
        | inr o ↦ (j, sym (get_or-set_other ps i j (Some e) None o) ∙ s)
      ])
      (kept-is (set ps i (Some e)) i e over_alone here)

-- ---- an entry into a free place
module _ (ps : List (Option Entry)) (i : ℕ) (e : Entry) (hi : i < length ps) (free : get_or ps i None ≡ None) (missing : Missing ps e.id)
    (way : (b : ℕ) → b < length ps → dist (length ps) (e.id % length ps) b < dist (length ps) (e.id % length ps) i → Taken ps b)
    (alone : Alone ps) (reached : Reached ps) where
  new : get_or (set ps i (Some e)) i None ≡ Some e
  new = get_or-set_same ps i (Some e) None hi

  old : (j : ℕ) (x : Entry) → get_or (set ps i (Some e)) j None ≡ Some x → ((j ≡ i) × (x ≡ e)) ⊎ ((j ≡ i → ⊥) × (get_or ps j None ≡ Some x))
  old j x s =
      elim (cases_eq j i) [
        | inl q ↦ inl (q, same_some (get_or (set ps i (Some e)) i None) x e (ap (λ (z : ℕ). get_or (set ps i (Some e)) z None) (sym q) ∙ s) new)
        | inr ne ↦ inr (ne, sym (get_or-set_other ps i j (Some e) None ne) ∙ s)
      ]

  pub fill_alone : Alone (set ps i (Some e))
  fill_alone j k w =
      elim (old j w.0 w.1) [
        | inl a ↦ elim (old k w.2 w.3) [
          | inl b ↦ a.0 ∙ sym b.0
          | inr b ↦ absurd (missing k w.2 b.1 (sym w.4 ∙ ap (λ (z : Entry). z.id) a.1))
        ]
        | inr a ↦ elim (old k w.2 w.3) [
          | inl b ↦ absurd (missing j w.0 a.1 (w.4 ∙ ap (λ (z : Entry). z.id) b.1))
          | inr b ↦ alone j k (w.0, a.1, w.2, b.1, w.4)
        ]
      ]

  fill_taken : (b : ℕ) → ((b ≡ i → ⊥) → Taken ps b) → Taken (set ps i (Some e)) b
  fill_taken b t =
      elim (cases_eq b i) [
        | inl q ↦ ap is_some (ap (λ (z : ℕ). get_or (set ps i (Some e)) z None) q ∙ new)
        | inr ne ↦ ap is_some (get_or-set_other ps i b (Some e) None ne) ∙ t ne
      ]

  pub fill_reached : Reached (set ps i (Some e))
  fill_reached p b w =
      sized ps i (Some e) p b w.0.id (Taken (set ps i (Some e)) b)
      (λ hb lt. fill_taken b (λ ne.
      elim (old p w.0 w.1) [
        | inl a ↦
            way b hb
            (subst (λ (z : ℕ). dist (length ps) (e.id % length ps) b < dist (length ps) (e.id % length ps) z) a.0
            (subst (λ (z : Entry). dist (length ps) (z.id % length ps) b < dist (length ps) (z.id % length ps) p) a.1 lt))
        | inr a ↦ reached p b (w.0, a.1, hb, lt)
      ]))
      w.2 w.3

  pub fill_at : (q : ℕ) → at (kept (set ps i (Some e))) q ≡ update eqb (at (kept ps)) e.id (Some e.number) q
  fill_at =
      kept_update ps (set ps i (Some e)) e.id (Some e.number) fill_alone
      (λ j x s ne. elim (cases_eq j i) [
        | inl q ↦ absurd (none-some x (sym free ∙ (ap (λ (z : ℕ). get_or ps z None) (sym q) ∙ s)))
        | inr o ↦ (j, get_or-set_other ps i j (Some e) None o ∙ s)
      ])
      (λ j x s ne. elim (old j x s) [ inl a ↦ absurd (ne (ap (λ (z : Entry). z.id) a.1)) | inr a ↦ (j, a.1) ])
      (kept-is (set ps i (Some e)) i e fill_alone new)

-- ---- an entry out
module _ (ps : List (Option Entry)) (i : ℕ) (f : Entry) (is : get_or ps i None ≡ Some f) (alone : Alone ps) (reached : Reached ps) where
  pub drop-free : get_or (set ps i None) i None ≡ None
  drop-free = get_or-set_same ps i None None (within ps i f is)

  left : (j : ℕ) (x : Entry) → get_or (set ps i None) j None ≡ Some x → (j ≡ i → ⊥) × (get_or ps j None ≡ Some x)
  left j x s =
      elim (cases_eq j i) [
        | inl q ↦ absurd (none-some x (sym drop-free ∙ (ap (λ (z : ℕ). get_or (set ps i None) z None) (sym q) ∙ s)))
        | inr ne ↦ (ne, sym (get_or-set_other ps i j None None ne) ∙ s)
      ]

  pub drop_alone : Alone (set ps i None)
  drop_alone j k w = alone j k (w.0, (left j w.0 w.1).1, w.2, (left k w.2 w.3).1, w.4)

  pub drop-nearly : Nearly (set ps i None) i
  drop-nearly p b x w ne =
      sized ps i None p b x.id (Taken (set ps i None) b)
      (λ hb lt. ap is_some (get_or-set_other ps i b None None ne) ∙ reached p b (x, (left p x w.0).1, hb, lt))
      w.1 w.2

  pub drop_at : (q : ℕ) → at (kept (set ps i None)) q ≡ update eqb (at (kept ps)) f.id None q
  drop_at =
      kept_update ps (set ps i None) f.id None drop_alone
      (λ j x s ne. elim (cases_eq j i) [
        | inl q ↦ absurd (ne (ap (λ (z : Entry). z.id) (same_some (get_or ps i None) x f (ap (λ (z : ℕ). get_or ps z None) (sym q) ∙ s) is)))
        | inr o ↦ (j, get_or-set_other ps i j None None o ∙ s)
      ])
      (λ j x s ne. (j, (left j x s).1))
      (kept-missing (set ps i None) f.id
      (λ j x s r. let l = left j x s in l.0 (alone j i (x, l.1, f, is, r))))

-- what is like `None`
pub none_only : (Q : Option Entry → Type 0) → ((x : Entry) → Q (Some x) → ⊥) → (y : Option Entry) → Q y → y ≡ None
none_only Q no' None h = refl
none_only Q no' (Some x) h = absurd (no' x h)

-- ---- what the contracts ask
module _ (ps : List (Option Entry)) (k n : ℕ) (alone : Alone ps) (reached : Reached ps) where
  abbrev new_entry : Entry
  new_entry = record { id = k; number = n }

  -- a put of an id that is held
  module _ (i m : ℕ) (spot : Spotted ps k (At i m)) where
    abbrev old_entry : Entry
    old_entry = record { id = k; number = m }

    pub put_over : Alone (set ps i (Some new_entry)) × Reached (set ps i (Some new_entry))
    put_over = (
      over_alone ps i new_entry old_entry spot.1 refl alone reached,
      over_reached ps i new_entry old_entry spot.1 refl alone reached,
    )

    pub over_means : (room : ℕ) → Put (kept ps) (kept (set ps i (Some new_entry))) room k n (Ok (Some m))
    over_means room = (
      sym (spot_at ps k i m alone spot),
      over_at ps i new_entry old_entry spot.1 refl alone reached,
      omega (arith, kept_swap ps i new_entry old_entry spot.1),
    )

  -- a put of an id that is not held
  module _ (i : ℕ) (spot : Spotted ps k (Free i)) where
    pub put-free : Alone (set ps i (Some new_entry)) × Reached (set ps i (Some new_entry))
    put-free = (
      fill_alone ps i new_entry spot.0 spot.1 spot.2 spot.3 alone reached,
      fill_reached ps i new_entry spot.0 spot.1 spot.2 spot.3 alone reached,
    )

    pub free_means : (room : ℕ) → Put (kept ps) (kept (set ps i (Some new_entry))) room k n (Ok None)
    free_means room = (
      sym (kept-missing ps k spot.2),
      fill_at ps i new_entry spot.0 spot.1 spot.2 spot.3 alone reached,
      omega (arith, kept_fill ps i new_entry spot.0 spot.1),
    )

-- what is left in place of the places qs, in which the place i was made free
pub out_means : (ps qs ws : List (Option Entry)) (i k n : ℕ) → Alone ps → Reached ps → Spotted ps k (At i n) → qs ≡ set ps i None
    → ((q : ℕ) → at (kept ws) q ≡ at (kept qs) q) → length (kept ws) ≡ length (kept qs) → Removed (kept ps) (kept ws) k (Some n)
out_means ps qs ws i k n alone reached spot is same len =
    let e : Entry = record { id = k; number = n } in (
      sym (kept-is ps i e alone spot.1),
      λ q. same q ∙ ap (λ z. at (kept z) q) is ∙ drop_at ps i e spot.1 alone reached q,
      omega (arith, len, ap (λ z. length (kept z)) is, kept-drop ps i e spot.1),
    )
