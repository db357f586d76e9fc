-- Steps round the end.
use Rattle.std.proofs.Common.{◌≡◌, ℕ, ◌+◌, ◌-◌, ◌<◌, ◌≤◌, ◌⊎◌, refl, inl, inr, arith}
use Rattle.std.proofs.lemmas.Bool.Decides.{leb_tells, nat_tests}
use Rattle.hashed_index.specs.Places.{dist}

pub dist-is : (n a b : ℕ) → ((a ≤ b) × (dist n a b ≡ b - a)) ⊎ ((b < a) × (dist n a b ≡ b + n - a))
dist-is n a b =
    elim (leb_tells a b) [
      | inl h ↦ inl (h.1, rw h.0 refl)
      | inr h ↦ inr (h.1, rw h.0 refl)
    ]

module _ (n a b : ℕ) (ha : a < n) (hb : b < n) where
  pub dist_lt : dist n a b < n
  dist_lt = elim (dist-is n a b) [ inl h ↦ omega (arith, h.0, h.1) | inr h ↦ omega (arith, h.0, h.1) ]

  pub dist_zero : dist n a b ≡ 0 → a ≡ b
  dist_zero z = elim (dist-is n a b) [ inl h ↦ omega (arith, h.0, h.1) | inr h ↦ omega (arith, h.0, h.1) ]

pub dist_self : (n a : ℕ) → dist n a a ≡ 0
dist_self n a = elim (dist-is n a a) [ inl h ↦ omega (arith, h.0, h.1) | inr h ↦ omega (arith, h.0, h.1) ]

module _ (n a b c : ℕ) (ha : a < n) (hb : b < n) (hc : c < n) where
  pub dist_inj : dist n a b ≡ dist n a c → b ≡ c
  dist_inj e =
      elim (dist-is n a b) [
        | inl h ↦ elim (dist-is n a c) [ inl k ↦ omega (arith, h.0, h.1, k.0, k.1, e) | inr k ↦ omega (arith, h.0, h.1, k.0, k.1, e) ]
        | inr h ↦ elim (dist-is n a c) [ inl k ↦ omega (arith, h.0, h.1, k.0, k.1, e) | inr k ↦ omega (arith, h.0, h.1, k.0, k.1, e) ]
      ]

  -- b is on the way from a to c
  pub dist_via : dist n a b < dist n a c → dist n a b + dist n b c ≡ dist n a c
  dist_via e =
      elim (dist-is n a b) [
        | inl h ↦ elim (dist-is n a c) [
          | inl k ↦ elim (dist-is n b c) [ inl m ↦ omega (arith, h.0, h.1, k.0, k.1, m.0, m.1, e) | inr m ↦ omega (arith, h.0, h.1, k.0, k.1, m.0, m.1, e) ]
          | inr k ↦ elim (dist-is n b c) [ inl m ↦ omega (arith, h.0, h.1, k.0, k.1, m.0, m.1, e) | inr m ↦ omega (arith, h.0, h.1, k.0, k.1, m.0, m.1, e) ]
        ]
        | inr h ↦ elim (dist-is n a c) [
          | inl k ↦ elim (dist-is n b c) [ inl m ↦ omega (arith, h.0, h.1, k.0, k.1, m.0, m.1, e) | inr m ↦ omega (arith, h.0, h.1, k.0, k.1, m.0, m.1, e) ]
          | inr k ↦ elim (dist-is n b c) [ inl m ↦ omega (arith, h.0, h.1, k.0, k.1, m.0, m.1, e) | inr m ↦ omega (arith, h.0, h.1, k.0, k.1, m.0, m.1, e) ]
        ]
      ]

  pub dist-back : dist n b c ≤ dist n a c → dist n a b + dist n b c ≡ dist n a c
  dist-back e = grind (arith, nat_tests)
