-- Acts one after another and over and over, for code that promises to play them.
use Rattle.std.proofs.Common.{◌≡◌, ℕ, suc, ◌+◌, ◌-◌, ◌<◌, ◌≤◌, Bool, true, false, leb, List, length, take, drop, Some, None, Option, refl, ap, ◌∙◌, subst, arith, length-drop, drop-drop}
use Rattle.std.proofs.lemmas.Bool.{le-leb, lt-leb, cond-true, cond-false}
use Rattle.layout.specs.Numbers.{le}
use Rattle.book.specs.Book.{Book}
use Rattle.book.specs.Refusals.{Cause, Refusal, because, read_out_of_bounds}
use Rattle.book.specs.Actions.{short, fault, Out, went, stopped, Act, on, ◌>>=◌, give, look, change, the, ask, times, read}
use Rattle.book.specs.Acts.{Ending, reached, turned_down, Ended, Acts}
use Rattle.book.proofs.Cuts.{times_add}

module _ (buffer : List ℕ) where
  ended_same : {A : Type 0} (Q : Book → Type 0) (e : Ending A) (o o' : Out A) → o ≡ o' → Ended buffer Q e o' → Ended buffer Q e o
  ended_same Q (reached p a) o o' h x = (x.0, h ∙ x.1, x.2, x.3)
  ended_same Q (turned_down r) o o' h x = (x.0, (x.1.0, h ∙ x.1.1, x.1.2, x.1.3))

  ended-more : {A : Type 0} (Q R : Book → Type 0) (e : Ending A) (o : Out A) → ((b : Book) → Q b → R b) → Ended buffer Q e o → Ended buffer R e o
  ended-more Q R (reached p a) o h x = (x.0, x.1, x.2, h x.0 x.3)
  ended-more Q R (turned_down r) o h x = (x.0, (x.1.0, x.1.1, x.1.2, h x.1.0 x.1.3))

  -- less asked, more promised
  pub acts-from : {A : Type 0} (act : Act A) (P P' Q : Book → Type 0) (p : ℕ) (e : Ending A) → ((b : Book) → P' b → P b) → Acts act buffer P p Q e → Acts act buffer P' p Q e
  acts-from act P P' Q p e h j = record { acts = λ b k s. j.acts b k (h b s) }

  pub acts_to : {A : Type 0} (act : Act A) (P Q Q' : Book → Type 0) (p : ℕ) (e : Ending A) → ((b : Book) → Q b → Q' b) → Acts act buffer P p Q e → Acts act buffer P p Q' e
  acts_to act P Q Q' p e h j = record { acts = λ b k s. ended-more Q Q' e (act b (drop p buffer)) h (j.acts b k s) }

  -- an act that does the same
  pub acts_as : {A : Type 0} (act act' : Act A) (P Q : Book → Type 0) (p : ℕ) (e : Ending A) → ((b : Book) (rest : List ℕ) → act' b rest ≡ act b rest) → Acts act buffer P p Q e → Acts act' buffer P p Q e
  acts_as act act' P Q p e h j = record { acts = λ b k s. ended_same Q e _ _ (h b (drop p buffer)) (j.acts b k s) }

  -- ---- one after another: `let a = first()?; second(a)`

  pub acts_then : {A B : Type 0} (act : Act A) (f : A → Act B) (P Q R : Book → Type 0) (p p₁ : ℕ) (a : A) (e : Ending B) →
      Acts act buffer P p Q (reached p₁ a) → Acts (f a) buffer Q p₁ R e → Acts (act >>= f) buffer P p R e
  unfolding ◌>>=◌
  acts_then act f P Q R p p₁ a e h j = record {
    acts = λ b k s.
        let x = h.acts b k s in
        ended_same R e _ _ (ap (λ o. on o f) x.1) (j.acts x.0 x.2 x.3);
  }

  -- `first()?` is turned down
  pub acts_stop : {A B : Type 0} (act : Act A) (f : A → Act B) (P Q : Book → Type 0) (p : ℕ) (r : Refusal) →
      Acts act buffer P p Q (turned_down r) → Acts (act >>= f) buffer P p Q (turned_down r)
  unfolding ◌>>=◌
  acts_stop act f P Q p r h = record {
    acts = λ b k s.
        let x = h.acts b k s in
        (x.0, (x.1.0, ap (λ o. on o f) x.1.1, x.1.2, x.1.3));
  }

  -- ---- steps that read nothing

  pub acts-give : {A : Type 0} (P : Book → Type 0) (p : ℕ) (a : A) → Acts (give a) buffer P p P (reached p a)
  unfolding give
  acts-give P p a = record { acts = λ b k s. (b, refl, k, s) }

  -- a look gives each book its own value, which is then known of that book
  pub acts-look : {A B : Type 0} (f : Book → A) (g : A → Act B) (P Q : Book → Type 0) (p : ℕ) (e : Ending B) →
      ((a : A) → Acts (g a) buffer (λ b. P b × (f b ≡ a)) p Q e) → Acts (look f >>= g) buffer P p Q e
  unfolding look ◌>>=◌
  acts-look f g P Q p e h = record { acts = λ b k s. (h (f b)).acts b k (s, refl) }

  pub acts-the : {A : Type 0} (P : Book → Type 0) (p : ℕ) (o : Option A) (a : A) (c : Cause) → o ≡ Some a → Acts (the o c) buffer P p P (reached p a)
  unfolding the
  acts-the P p o a c e = record { acts = λ b k s. (b, ap (λ z. the z c b (drop p buffer)) e, k, s) }

  pub acts-none : {A : Type 0} (P : Book → Type 0) (p : ℕ) (o : Option A) (c : Cause) → o ≡ None → Acts (the o c) buffer P p P (turned_down (because c))
  unfolding the
  acts-none P p o c e = record { acts = λ b k s. (fault c, (b, ap (λ z. the z c b (drop p buffer)) e, refl, s)) }

  -- a find of which every book knows the answer
  pub acts-found : {A : Type 0} (f : Book → Option A) (a : A) (c : Cause) (P : Book → Type 0) (p : ℕ) → ((b : Book) → P b → f b ≡ Some a) → Acts (look f >>= (λ o. the o c)) buffer P p P (reached p a)
  unfolding look ◌>>=◌ the
  acts-found f a c P p h = record { acts = λ b k s. (b, ap (λ z. the z c b (drop p buffer)) (h b s), k, s) }

  -- a find that each book answers in its own way, and what follows with it
  pub acts-find : {A B : Type 0} (f : Book → Option A) (c : Cause) (g : A → Act B) (P Q : Book → Type 0) (p : ℕ) (e : Ending B) → ((b : Book) → P b → (a : A) × (f b ≡ Some a)) →
      ((a : A) → Acts (g a) buffer (λ b. P b × (f b ≡ Some a)) p Q e) → Acts ((look f >>= (λ o. the o c)) >>= g) buffer P p Q e
  unfolding look ◌>>=◌ the
  acts-find f c g P Q p e h j = record {
    acts = λ b k s.
        let x = h b s in
        ended_same Q e _ _ (ap (λ z. on (the z c b (drop p buffer)) g) x.1) ((j x.0).acts b k (s, x.1));
  }

  pub acts-missing : {A : Type 0} (f : Book → Option A) (c : Cause) (P : Book → Type 0) (p : ℕ) → ((b : Book) → P b → f b ≡ None) → Acts (look f >>= (λ o. the o c)) buffer P p P (turned_down (because c))
  unfolding look ◌>>=◌ the
  acts-missing f c P p h = record { acts = λ b k s. (fault c, (b, ap (λ z. the z c b (drop p buffer)) (h b s), refl, s)) }

  pub acts_yes : (P : Book → Type 0) (p : ℕ) (t : Bool) (c : Cause) → t ≡ true → Acts (ask t c) buffer P p P (reached p tt)
  unfolding ask
  acts_yes P p t c e = record { acts = λ b k s. (b, ap (λ z. ask z c b (drop p buffer)) e, k, s) }

  pub acts_no : (P : Book → Type 0) (p : ℕ) (t : Bool) (c : Cause) → t ≡ false → Acts (ask t c) buffer P p P (turned_down (because c))
  unfolding ask
  acts_no P p t c e = record { acts = λ b k s. (fault c, (b, ap (λ z. ask z c b (drop p buffer)) e, refl, s)) }

  pub acts-change : (P Q : Book → Type 0) (p : ℕ) (f : Book → Book) → ((b : Book) → P b → Q (f b)) → Acts (change f) buffer P p Q (reached p tt)
  unfolding change
  acts-change P Q p f h = record { acts = λ b k s. (f b, refl, k, h b s) }

  -- ---- reads

  read_in : (n p : ℕ) (b : Book) → p + n ≤ length buffer → read n b (drop p buffer) ≡ went (le (take n (drop p buffer))) b (drop (p + n) buffer)
  unfolding read
  read_in n p b h =
      let l : n ≤ length (drop p buffer) = simp length-drop (omega arith) in
      cond-true (leb n (length (drop p buffer))) _ _ (le-leb n (length (drop p buffer)) l)
      ∙ ap (λ z. went (le (take n (drop p buffer))) b z) (drop-drop n p buffer ∙ ap (λ (k : ℕ). drop k buffer) (omega arith))

  read_out : (n p : ℕ) (b : Book) → length buffer < p + n → p ≤ length buffer → read n b (drop p buffer) ≡ stopped (short (length buffer - p) n) b
  unfolding read
  read_out n p b h k =
      let l : length (drop p buffer) < n = simp length-drop (omega arith) in
      cond-false (leb n (length (drop p buffer))) _ _ (lt-leb n (length (drop p buffer)) l)
      ∙ ap (λ (z : ℕ). stopped (short z n) b) (length-drop p buffer)

  pub acts-read : (P : Book → Type 0) (p n : ℕ) → p + n ≤ length buffer → Acts (read n) buffer P p P (reached (p + n) (le (take n (drop p buffer))))
  acts-read P p n h = record { acts = λ b k s. (b, read_in n p b h, h, s) }

  pub acts_past : (P : Book → Type 0) (p n : ℕ) → length buffer < p + n → Acts (read n) buffer P p P (turned_down (read_out_of_bounds p n (length buffer)))
  acts_past P p n h = record {
    acts = λ b k s.
        let e : p ≡ length buffer - (length buffer - p) = omega arith in
        (short (length buffer - p) n, (b, read_out n p b h k, ap (λ (z : ℕ). read_out_of_bounds z n (length buffer)) e, s));
  }

  -- ---- over and over: before the first turn, after one more, and turned down in a turn with k more to come

  pub acts-start : (act : Act (Unit {0})) (P : Book → Type 0) (p : ℕ) → Acts (times 0 act) buffer P p P (reached p tt)
  unfolding times give
  acts-start act P p = record { acts = λ b k s. (b, refl, k, s) }

  once : (act : Act (Unit {0})) (P Q : Book → Type 0) (p p₁ : ℕ) → Acts act buffer P p Q (reached p₁ tt) → Acts (times 1 act) buffer P p Q (reached p₁ tt)
  unfolding times ◌>>=◌ give
  once act P Q p p₁ h = record { acts = λ b k s. let x = h.acts b k s in (x.0, ap (λ o. on o (λ _ b rest. went tt b rest)) x.1, x.2, x.3) }

  times_bind : (n k : ℕ) (act : Act (Unit {0})) (b : Book) (rest : List ℕ) → times (n + k) act b rest ≡ (times n act >>= (λ _. times k act)) b rest
  unfolding ◌>>=◌
  times_bind n k act b rest = times_add n k act b rest

  pub acts-more : (n : ℕ) (act : Act (Unit {0})) (P Q R : Book → Type 0) (p p₁ p₂ : ℕ) →
      Acts (times n act) buffer P p Q (reached p₁ tt) → Acts act buffer Q p₁ R (reached p₂ tt) → Acts (times (n + 1) act) buffer P p R (reached p₂ tt)
  acts-more n act P Q R p p₁ p₂ h j =
      acts_as (times n act >>= (λ _. times 1 act)) (times (n + 1) act) P R p (reached p₂ tt) (times_bind n 1 act)
      (acts_then (times n act) (λ _. times 1 act) P Q R p p₁ tt (reached p₂ tt) h (once act Q R p₁ p₂ j))

  pub acts-turned : (n k : ℕ) (act : Act (Unit {0})) (P Q R : Book → Type 0) (p p₁ : ℕ) (r : Refusal) →
      Acts (times n act) buffer P p Q (reached p₁ tt) → Acts act buffer Q p₁ R (turned_down r) → Acts (times (n + suc k) act) buffer P p R (turned_down r)
  unfolding times
  acts-turned n k act P Q R p p₁ r h j =
      acts_as (times n act >>= (λ _. times (suc k) act)) (times (n + suc k) act) P R p (turned_down r) (times_bind n (suc k) act)
      (acts_then (times n act) (λ _. times (suc k) act) P Q R p p₁ tt (turned_down r) h (acts_stop act (λ _. times k act) Q R p₁ r j))

  -- as many turns, counted otherwise
  pub acts-count : (n k : ℕ) (act : Act (Unit {0})) (P Q : Book → Type 0) (p : ℕ) (e : Ending (Unit {0})) → n ≡ k → Acts (times n act) buffer P p Q e → Acts (times k act) buffer P p Q e
  acts-count n k act P Q p e h j = subst (λ (z : ℕ). Acts (times z act) buffer P p Q e) h j
