-- What holds of every call.
use Rattle.std.proofs.Common.{◌≡◌, Err, IsErrAnd, Result, sym, refl}
use Rattle.std.proofs.lemmas.Result.{err_from_is_err_and}
use Rattle.refusals.specs.declared.ChangeBufferError.{ChangeBufferError}
use Rattle.refusals.specs.declared.ChangeBufferError.TheVariants.{OutOfOrder}
use Rattle.book.specs.Book.{Text}
use Rattle.book.specs.Calls.{Call}
use Rattle.book.specs.Refusals.{because, out_of_order, refused}
use Rattle.tables.specs.Store.{Store}
use Rattle.tables.specs.InOrder.{InOrder}
use Rattle.recorder.specs.Answers.{answer}
use Rattle.recorder.specs.Performs.{Performs, Changes}

-- where the tables are not in order
pub turned-away : {T : Type 0} (bytes : T → Text) (call : Call) (m : Store T) → (InOrder m → ⊥) → Performs bytes call m m (refused (because out_of_order))
turned-away bytes call m n = record { untouched = λ _. (refl, refl); shows = λ b s. absurd (n s.order) }

-- and so answered, at the exit of a `?`, by a call that leaves the memory where it is refused
pub turned-back : {T : Type 0} (bytes : T → Text) (call : Call) (by : Result (Unit {0}) ChangeBufferError → Store T → Store T) (m : Store T)
    → ((e : ChangeBufferError) → by (Err e) m ≡ m)
    → (r : Result (Unit {0}) ChangeBufferError) (e : ChangeBufferError) → IsErrAnd r (λ x. x ≡ e) → (InOrder m → ⊥) × (e ≡ OutOfOrder)
    → Changes bytes call (by r) m m (answer r)
turned-back bytes call by m same r e is out =
    let p = err_from_is_err_and r is in
    rw (p.1, p.2, out.1) (record { call = turned-away bytes call m out.0; after = sym (same OutOfOrder) })
