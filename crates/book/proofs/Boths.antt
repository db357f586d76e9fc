-- Two options that are both there or neither.
use Rattle.std.proofs.Common.{◌≡◌, ℕ, Some, None, Option, sym, refl, subst, arith}
use Rattle.book.specs.Maps.{Both}

module _ {A B : Type 0} (R : A → B → Type 0) where
  pub both_some : (a : Option A) (b : Option B) (x : A) (y : B) → a ≡ Some x → b ≡ Some y → R x y → Both R a b
  both_some a b x y e f h = subst (λ z. Both R z b) (sym e) (subst (λ z. Both R (Some x) z) (sym f) h)

  pub both-none : (a : Option A) (b : Option B) → a ≡ None → b ≡ None → Both R a b
  both-none a b e f = subst (λ z. Both R z b) (sym e) (subst (λ (z : Option B). Both R None z) (sym f) tt)

  pub both-same : (a a' : Option A) (b b' : Option B) → a ≡ a' → b ≡ b' → Both R a' b' → Both R a b
  both-same a a' b b' e f h = subst (λ z. Both R z b) (sym e) (subst (λ z. Both R a' z) (sym f) h)

  -- what one being there says of the other
  pub both_left : (a : Option A) (b : Option B) (x : A) → Both R a b → a ≡ Some x → (y : B) × (b ≡ Some y) × R x y
  both_left None b x h e = let w : ◌≡◌ {A = ℕ} 0 1 = cc in let no_way : ⊥ = omega arith in absurd no_way
  both_left (Some a) None x h e = absurd h
  both_left (Some a) (Some b) x h e = (b, refl, (let z : a ≡ x = cc in subst (λ v. R v b) z h))

  pub both_right : (a : Option A) (b : Option B) (y : B) → Both R a b → b ≡ Some y → (x : A) × (a ≡ Some x) × R x y
  both_right a None y h e = let w : ◌≡◌ {A = ℕ} 0 1 = cc in let no_way : ⊥ = omega arith in absurd no_way
  both_right None (Some b) y h e = absurd h
  both_right (Some a) (Some b) y h e = (a, refl, (let z : b ≡ y = cc in subst (λ v. R a v) z h))

  pub both-left-none : (a : Option A) (b : Option B) → Both R a b → a ≡ None → b ≡ None
  both-left-none None None h e = refl
  both-left-none None (Some b) h e = absurd h
  both-left-none (Some a) b h e = let w : ◌≡◌ {A = ℕ} 0 1 = cc in let no_way : ⊥ = omega arith in absurd no_way

  pub both_right_none : (a : Option A) (b : Option B) → Both R a b → b ≡ None → a ≡ None
  both_right_none None None h e = refl
  both_right_none (Some a) None h e = absurd h
  both_right_none a (Some b) h e = let w : ◌≡◌ {A = ℕ} 0 1 = cc in let no_way : ⊥ = omega arith in absurd no_way

-- two that are each with a third
pub both_join : {A B C : Type 0} (R : A → C → Type 0) (Q : B → C → Type 0) (P : A → B → Type 0) → ((a : A) (b : B) (c : C) → R a c → Q b c → P a b) →
    (a : Option A) (b : Option B) (c : Option C) → Both R a c → Both Q b c → Both P a b
both_join R Q P f None None None x y = tt
both_join R Q P f None None (Some c) x y = tt
both_join R Q P f None (Some b) None x y = y
both_join R Q P f None (Some b) (Some c) x y = x
both_join R Q P f (Some a) None None x y = x
both_join R Q P f (Some a) None (Some c) x y = y
both_join R Q P f (Some a) (Some b) None x y = absurd x
both_join R Q P f (Some a) (Some b) (Some c) x y = f a b c x y

-- each with itself
pub both_self : {A : Type 0} (R : A → A → Type 0) → ((a : A) → R a a) → (o : Option A) → Both R o o
both_self R f None = tt
both_self R f (Some a) = f a
