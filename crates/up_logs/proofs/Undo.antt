-- Logs without their last entry.
use Rattle.std.proofs.Common.{◌≡◌, ◌∙◌, ℕ, ◌-◌, ◌<◌, sym, ap, refl, List, [], ◌∷◌, ◌++◌, length, take, arith}
use Rattle.std.specs.Prelude.{set, zero, suc}
use Rattle.std.proofs.lemmas.List.{length-append, get_or-set_same, set-get_or}
use Rattle.std.proofs.Math.Seq.{take-append_seam}
use Rattle.salt_wire.specs.declared.message.Entry.{Entry}
use Rattle.up_logs.specs.UpLogs.{log_at, with_entry, with_entry_less, without_last}

-- what an entry was put behind is the log without it
pub but_last : (old new : List Entry) (entry : Entry) → old ≡ new ++ entry ∷ [] → new ≡ without_last old
but_last old new entry e =
    let size : length (new ++ entry ∷ []) - 1 ≡ length new = omega (arith, length-append new (entry ∷ [])) in
    sym (ap without_last e ∙ ap (λ n. take n (new ++ entry ∷ [])) size ∙ take-append_seam new (entry ∷ []))

set_twice : {X : Type 0} (xs : List X) (i : ℕ) (a b : X) → set (set xs i a) i b ≡ set xs i b
set_twice [] i a b = refl
set_twice (x ∷ xs) zero a b = refl
set_twice (x ∷ xs) (suc i) a b = ap (λ ys. x ∷ ys) (set_twice xs i a b)

-- an entry that was added and taken away leaves the logs as they were
pub undone : (logs : List (List Entry)) (i : ℕ) (entry : Entry) → i < length logs → with_entry_less i (with_entry i entry logs) ≡ logs
undone logs i entry l =
    let log = log_at logs i in
    let more = log ++ entry ∷ [] in
    ap (λ x. set (with_entry i entry logs) i (without_last x)) (get_or-set_same logs i more [] l)
    ∙ ap (λ x. set (with_entry i entry logs) i x) (sym (but_last more log entry refl))
    ∙ set_twice logs i more log
    ∙ set-get_or logs i []
