-- Operands that stand one after another: none, one, two parts, and where they stop.
use Rattle.std.proofs.Common.{◌≡◌, ℕ, zero, suc, ◌+◌, ◌≤◌, List, [], ◌∷◌, ◌++◌, length, Ok, sym, refl, ap, ◌∙◌, subst, append_assoc, append-nil, suc-add, zero-add}
use Rattle.std.proofs.lemmas.List.{map-append}
use Rattle.refusals.specs.declared.ChangeBufferError.{ChangeBufferError}
use Rattle.layout.specs.Reads.{Misses, Reads, number_at}
use Rattle.decode.specs.declared.error.DecodeError.{DecodeError}
use Rattle.decode.specs.declared.error.DecodeError.TheVariants.{Memory, Refused}
use Rattle.decode.specs.declared.operand.Field.{Field}
use Rattle.decode.specs.declared.operand.Operand.{Operand}
use Rattle.decode.specs.declared.operand.Value.{Value}
use Rattle.decode.specs.Operands.{field, meant, operand_bytes, size}
use Rattle.decode.specs.Runs.{Fails, Run, Stand, Stops, operands_bytes, repeated}
use Rattle.decode.proofs.Stands.{kind-meant, stand_join, stand-none, stand_operand}

joined_append : (os ps : List Operand) → operands_bytes (os ++ ps) ≡ operands_bytes os ++ operands_bytes ps
joined_append [] ps = refl
joined_append (o ∷ os) ps =
    ap (λ bs. operand_bytes o ++ bs) (joined_append os ps) ∙ sym (append_assoc (operand_bytes o) (operands_bytes os) (operands_bytes ps))

module _ (buffer : List ℕ) where
  pub run_none : (place : ℕ) → place ≤ length buffer → Run buffer place place [] []
  run_none place h = record { named = refl; stand = stand-none buffer place h }

  -- an operand that was read
  pub run-one : (place after : ℕ) (f : Field) (v : Value) → Reads (meant f.kind) (size f.kind) buffer place after (Ok v) → Run buffer place after (f ∷ []) (record { label = f.label; value = v } ∷ [])
  run-one place after f v got =
      let n = number_at (size f.kind) buffer place in
      let at : Value → ℕ → Type 0 = λ w j. Run buffer place j (f ∷ []) (record { label = f.label; value = w } ∷ []) in
      let here : at (meant f.kind n) (place + size f.kind) = record {
        named = λ i. record { label = f.label; kind = kind-meant f.kind n i } ∷ [];
        stand = subst (Stand buffer place (place + size f.kind)) (sym (append-nil _)) (stand_operand buffer place f.label f.kind got.0);
      } in
      subst (at v) (sym got.2) (subst (λ w. at w (place + size f.kind)) (sym got.1) here)

  pub run_join : (i j k : ℕ) (fs gs : List Field) (os ps : List Operand) → Run buffer i j fs os → Run buffer j k gs ps → Run buffer i k (fs ++ gs) (os ++ ps)
  run_join i j k fs gs os ps r s =
      record {
        named = map-append field os ps ∙ (λ n. r.named n ++ s.named n);
        stand = subst (Stand buffer i k) (sym (joined_append os ps)) (stand_join buffer i j k (operands_bytes os) (operands_bytes ps) r.stand s.stand);
      }

  -- a read that does not fit, right here
  pub stops-here : (i j : ℕ) (asks : List Operand → List Field) (next : Field) (rest : List Field) (e : ChangeBufferError) → i ≤ length buffer → Misses (size next.kind) buffer i j e → next ∷ rest ≡ asks [] → Stops asks buffer i j e
  stops-here i j asks next rest e h m w =
      subst (λ n. Stops asks buffer i n e) (sym m.2) (record {
        operands = [];
        had = [];
        next = next;
        rest = rest;
        run = run_none i h;
        fields = w;
        misses = (m.0, m.1, refl);
      })

  -- what stops after some operands stops the whole
  pub stops-after : (i j k : ℕ) (fs gs : List Field) (os : List Operand) (asks : List Operand → List Field) (e : ChangeBufferError) → Run buffer i j fs os → Stops (λ _. gs) buffer j k e → ((ps : List Operand) → (tail : List Field) × (fs ++ (gs ++ tail) ≡ asks (os ++ ps))) → Stops asks buffer i k e
  stops-after i j k fs gs os asks e r s whole =
      let w = whole s.operands in
      record {
        operands = os ++ s.operands;
        had = fs ++ s.had;
        next = s.next;
        rest = s.rest ++ w.0;
        run = run_join i j k fs s.had os s.operands r s.run;
        fields = append_assoc fs s.had (s.next ∷ (s.rest ++ w.0)) ∙ ap (λ l. fs ++ l) (sym (append_assoc s.had (s.next ∷ s.rest) w.0) ∙ ap (λ l. l ++ w.0) s.fields) ∙ w.1;
        misses = s.misses;
      }

  pub fails_after : (i j k : ℕ) (fs gs : List Field) (os : List Operand) (asks : List Operand → List Field) (e : DecodeError) → Run buffer i j fs os → Fails (λ _. gs) buffer j k e → ((ps : List Operand) → (tail : List Field) × (fs ++ (gs ++ tail) ≡ asks (os ++ ps))) → Fails asks buffer i k e
  fails_after i j k fs gs os asks (Refused e) r s whole = stops-after i j k fs gs os asks e r s whole
  fails_after i j k fs gs os asks Memory r s whole = tt

-- one round more, and the rounds that are left
pub repeated-more : (n : ℕ) (fs : List Field) → repeated n fs ++ fs ≡ repeated (n + 1) fs
repeated-more zero fs = sym (append-nil fs)
repeated-more (suc n) fs = append_assoc fs (repeated n fs) fs ∙ ap (λ l. fs ++ l) (repeated-more n fs) ∙ ap (λ m. repeated m fs) (sym (suc-add n 1))

pub repeated-split : (n left : ℕ) (fs : List Field) → repeated n fs ++ (fs ++ repeated left fs) ≡ repeated (n + suc left) fs
repeated-split zero left fs = ap (λ m. repeated m fs) (sym (zero-add (suc left)))
repeated-split (suc n) left fs = append_assoc fs (repeated n fs) (fs ++ repeated left fs) ∙ ap (λ l. fs ++ l) (repeated-split n left fs) ∙ ap (λ m. repeated m fs) (sym (suc-add n (suc left)))
