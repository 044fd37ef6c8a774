-- What is told of the record that a minion makes of a job. Nothing else of it is known here: neither matching nor functions.
use Rattle.std.proofs.Common.{◌≡◌, ℕ, ◌+◌, ◌<◌, ◌∙◌, ap, refl, inl, inr, Bool, true, false, List, [], ◌∷◌, ◌++◌, arith}
use Rattle.std.specs.Prelude.{Option, None, map, if◌then◌else◌}
use Rattle.std.specs.List.{AllByRecursion}
use Rattle.std.proofs.lemmas.Bool.Decides.{eqb_tells}
use Rattle.salt_value.specs.declared.outcome.Outcome.{Outcome}
use Rattle.exec_functions.specs.declared.holdings.Holdings.{Holdings}
use Rattle.exec_functions.specs.declared.holdings.Note.{Note}
use Rattle.exec_functions.specs.declared.holdings.Note.TheVariants as note
use Rattle.exec_functions.specs.declared.holdings.Ran.{Ran}
use Rattle.exec_functions.specs.Exec.{run, with_change}
use Rattle.salt_wire.specs.declared.message.Job.{Job}
use Rattle.salt_wire.specs.declared.message.Entry.{Entry}
use Rattle.salt_wire.specs.declared.message.Entry.TheVariants.{Return, Fired, Start, Mine}
use Rattle.salt_wire.specs.declared.deed.Changed.{Changed}
use Rattle.salt_wire.specs.declared.deed.Deed.{Deed}
use Rattle.salt_wire.specs.declared.deed.Deed.TheVariants.{Done}
use Rattle.minion_core.specs.Flat.{does_hold, entry_of, done_by, job_record, held_after, entries_in, flat_up, acts, return_of}

-- an entry of job number seq that is no start
abbrev pub IsOwn : ℕ → Entry → Type 0
IsOwn seq (Return n outcome) = n ≡ seq
IsOwn seq (Fired event) = Unit {0}
IsOwn seq (Start boot) = ⊥
IsOwn seq (Mine n mine grains pillar) = n ≡ seq

-- a log in which no job returns twice
abbrev pub NoTwice : List Entry → Type 0
NoTwice [] = Unit {0}
NoTwice (Return seq outcome ∷ es) = (return_of seq es ≡ None) × NoTwice es
NoTwice (Fired event ∷ es) = NoTwice es
NoTwice (Start boot ∷ es) = NoTwice es
NoTwice (Mine seq mine grains pillar ∷ es) = NoTwice es

pub record IsDone (seq : ℕ) (d : Deed) : Type 0 where
  pub changed : Option Changed
  pub entries : List Entry
  pub is : d ≡ Done seq changed entries
  pub own : AllByRecursion (IsOwn seq) entries
  pub once : NoTwice entries

own_by : (seq : ℕ) (held : Holdings) (o : Outcome) (notes : List Note) → AllByRecursion (IsOwn seq) (map (entry_of seq held) notes ++ Return seq o ∷ [])
own_by seq held o [] = (refl, tt)
own_by seq held o (note.Fired event ∷ notes) = (tt, own_by seq held o notes)
own_by seq held o (note.Mine ∷ notes) = (refl, own_by seq held o notes)

once_by : (seq : ℕ) (held : Holdings) (o : Outcome) (notes : List Note) → NoTwice (map (entry_of seq held) notes ++ Return seq o ∷ [])
once_by seq held o [] = (refl, tt)
once_by seq held o (note.Fired event ∷ notes) = once_by seq held o notes
once_by seq held o (note.Mine ∷ notes) = once_by seq held o notes

made : (seq : ℕ) (held : Holdings) (t : Bool) (ran : Ran) → IsDone seq (if t then done_by seq held ran else Done seq None [])
made seq held true ran = record {
  changed = _;
  entries = _;
  is = refl;
  own = own_by seq (with_change ran.change held) ran.outcome ran.notes;
  once = once_by seq (with_change ran.change held) ran.outcome ran.notes;
}
made seq held false ran = record { changed = None; entries = []; is = refl; own = tt; once = tt }

pub done_is : (seq : ℕ) (job : Job) (id : List ℕ) (held : Holdings) → IsDone seq (job_record seq job id held)
unfolding job_record
done_is seq job id held = made seq held (does_hold job id held) (run job.fun job.args held)

-- ---- what follows from that

acts_own : (seq : ℕ) (es : List Entry) → AllByRecursion (IsOwn seq) es → acts es ≡ es
acts_own seq [] h = refl
acts_own seq (Return n o ∷ es) h = ap (λ l. Return n o ∷ l) (acts_own seq es h.1)
acts_own seq (Fired e ∷ es) h = ap (λ l. Fired e ∷ l) (acts_own seq es h.1)
acts_own seq (Start b ∷ es) h = absurd h.0
acts_own seq (Mine n m g p ∷ es) h = ap (λ l. Mine n m g p ∷ l) (acts_own seq es h.1)

return_own : (k seq : ℕ) (es : List Entry) → k < seq → AllByRecursion (IsOwn seq) es → return_of k es ≡ None
return_own k seq [] l h = refl
return_own k seq (Return n o ∷ es) l h = elim (eqb_tells n k) [
  | inl y ↦ absurd (let e = y.1 in let g = h.0 in omega arith)
  | inr y ↦ rw y.0 (return_own k seq es l h.1)
]
return_own k seq (Fired e ∷ es) l h = return_own k seq es l h.1
return_own k seq (Start b ∷ es) l h = absurd h.0
return_own k seq (Mine n m g p ∷ es) l h = return_own k seq es l h.1

pub return_none : (k : ℕ) (xs ys : List Entry) → return_of k xs ≡ None → return_of k (xs ++ ys) ≡ return_of k ys
return_none k [] ys e = refl
return_none k (Return s x ∷ xs) ys e = elim (eqb_tells s k) [
  | inl y ↦ absurd (let g = rw y.0 at e in cc)
  | inr y ↦ rw y.0 (return_none k xs ys (rw y.0 at e))
]
return_none k (Fired x ∷ xs) ys e = return_none k xs ys e
return_none k (Start b ∷ xs) ys e = return_none k xs ys e
return_none k (Mine n m g p ∷ xs) ys e = return_none k xs ys e

once_own : (seq : ℕ) (es rest : List Entry) → AllByRecursion (IsOwn seq) es → NoTwice es → NoTwice rest → return_of seq rest ≡ None → NoTwice (es ++ rest)
once_own seq [] rest h n r e = r
once_own seq (Return k o ∷ es) rest h n r e = (return_none k es rest n.0 ∙ rw h.0 e, once_own seq es rest h.1 n.1 r e)
once_own seq (Fired x ∷ es) rest h n r e = once_own seq es rest h.1 n r e
once_own seq (Start b ∷ es) rest h n r e = absurd h.0
once_own seq (Mine k m g p ∷ es) rest h n r e = once_own seq es rest h.1 n r e

module _ (seq : ℕ) (d : Deed) (h : IsDone seq d) where
  pub entries_are : entries_in d ≡ h.entries
  entries_are = ap entries_in h.is

  pub acts_done : acts (entries_in d) ≡ entries_in d
  acts_done = rw entries_are (acts_own seq h.entries h.own)

  pub return_done : (k : ℕ) → k < seq → return_of k (entries_in d) ≡ None
  return_done k l = rw entries_are (return_own k seq h.entries l h.own)

  pub once_done : (rest : List Entry) → NoTwice rest → return_of seq rest ≡ None → NoTwice (entries_in d ++ rest)
  once_done rest r e = rw entries_are (once_own seq h.entries rest h.own h.once r e)

-- later jobs have no return of an earlier number
pub return_late : (k seq : ℕ) (id : List ℕ) (h : Holdings) (js : List Job) → k < seq → return_of k (flat_up seq id h js) ≡ None
return_late k seq id h [] l = refl
return_late k seq id h (j ∷ js) l =
    let d : Deed = job_record seq j id h in
    return_none k (entries_in d) (flat_up (seq + 1) id (held_after h d) js) (return_done seq d (done_is seq j id h) k l) ∙ return_late k (seq + 1) id (held_after h d) js (omega arith)
