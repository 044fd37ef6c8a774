-- What a store keeps, as the store that contracts see.
use Rattle.std.proofs.Common.{◌≡◌, ℕ, zero, suc, ◌+◌, ◌<◌, ◌∙◌, sym, ap, subst, refl, Bool, true, false, true≢false, take, List, [], ◌∷◌, ◌++◌, length, Option, None, Some, slice_get, bytes_eq, arith}
use Rattle.std.specs.Prelude.{slice_set, is_some, unwrap_or}
use Rattle.std.proofs.Math.Seq.{take-append_seam}
use Rattle.std.specs.Option.{option_copied, option_map_or}
use Rattle.std.specs.List.{AllByRecursion, IsDistinct}
use Rattle.std.specs.Map.{keys_of}
use Rattle.std.specs.Slice.{IsItemAt}
use Rattle.std.proofs.lemmas.List.{length-append, length-set}
use Rattle.std.proofs.lemmas.Option.{slice_get_past, slice_get-get_or}
use denote.Ref.{Bor}
use Rattle.indexmap.specs.IndexMap.{get, IsUnique}
use Rattle.salt_value.specs.declared.outcome.Outcome.{Outcome}
use Rattle.salt_value.specs.declared.outcome.Row.{Row}
use Rattle.salt_wire.specs.declared.message.Job.{Job}
use Rattle.minion_core.specs.Flat.{is_later}
use Rattle.job_store.specs.Store.{StoredJob, ReturnOnce, stored_jobs, stored_outcome, with_job, with_row, with_return}
use Rattle.job_store.specs.Tables.{ReturnTable, store_of, AreStored}
use Rattle.job_store.proofs.Rising.{rising_push}

-- what `get` of a slice answers
pub got : {X : Type 0} (xs : List X) (i : ℕ) (r : Option (Bor X)) → IsItemAt xs i r → option_copied r ≡ slice_get xs i
got xs i None h = sym (slice_get_past xs i h.3)
got xs i (Some x) h = ap Some (h.3.1 x.now) ∙ sym (slice_get-get_or xs i x.now h.3.0)

same_some : {X : Type 0} (a b : X) → Some a ≡ Some b → a ≡ b
same_some {X} a b e = ap (λ (o : Option X). unwrap_or o a) e

deeper : (first : StoredJob) (rest : List StoredJob) (i : ℕ) (row : Row) (o : Option StoredJob)
    → first ∷ option_map_or (λ (stored : StoredJob). slice_set rest i (with_row row stored)) o rest
    ≡ option_map_or (λ (stored : StoredJob). slice_set (first ∷ rest) (suc i) (with_row row stored)) o (first ∷ rest)
deeper first rest i row None = refl
deeper first rest i row (Some stored) = refl

-- nothing is lent where nothing is found
pub none_copied : {X : Type 0} (r : Option (Bor X)) (b : Bool) → b ≡ is_some r → b ≡ false → option_copied r ≡ None
none_copied None b e f = refl
none_copied (Some x) b e f = absurd (true≢false (sym e ∙ f))

-- a list is as before once what was put after it is cut off
pub cut_back : {X : Type 0} (n : ℕ) (xs ys zs : List X) → n ≡ length xs → ys ≡ xs ++ zs → take n ys ≡ xs
cut_back n xs ys zs long is = rw (long, is) (take-append_seam xs zs)

none_twice : IsDistinct {K = List ℕ} bytes_eq []
unfolding IsDistinct
none_twice = tt

all_push : {X : Type 0} (P : X → Type 0) (xs : List X) (x : X) → AllByRecursion P xs → P x → AllByRecursion P (xs ++ x ∷ [])
all_push P [] x h p = (p, tt)
all_push P (y ∷ xs) x h p = (h.0, all_push P xs x h.1 p)

all_set : {X : Type 0} (P : X → Type 0) (xs : List X) (i : ℕ) (x : X) → AllByRecursion P xs → P x → AllByRecursion P (slice_set xs i x)
all_set P [] i x h p = tt
all_set P (y ∷ xs) zero x h p = (p, h.1)
all_set P (y ∷ xs) (suc i) x h p = (h.0, all_set P xs i x h.1 p)

module _ {S : Type 0} where
  once_back : (jobs : List Job) (tables : List (ReturnTable S)) → AllByRecursion (λ (table : ReturnTable S). IsUnique bytes_eq table) tables → ReturnOnce (store_of jobs tables)
  once_back [] tables h = tt
  once_back (job ∷ jobs) [] h = tt
  once_back (job ∷ jobs) (table ∷ tables) h = (h.0, once_back jobs tables h.1)

  -- another table without an id twice keeps what holds of both
  pub stored_set : (jobs : List Job) (tables : List (ReturnTable S)) → AreStored jobs tables → (i : ℕ) (table : ReturnTable S) → IsUnique bytes_eq table → AreStored jobs (slice_set tables i table)
  stored_set jobs tables h i table unique = record {
    paired = length-set tables i table ∙ h.paired;
    rising = h.rising;
    few = h.few;
    once = all_set (λ (t : ReturnTable S). IsUnique bytes_eq t) tables i table h.once unique;
  }

  jobs_back : (jobs : List Job) (tables : List (ReturnTable S)) → length tables ≡ length jobs → jobs ≡ stored_jobs (store_of jobs tables)
  jobs_back [] tables e = refl
  jobs_back (job ∷ jobs) [] e = absurd (omega (arith, e))
  jobs_back (job ∷ jobs) (table ∷ tables) e = ap (λ (rest : List Job). job ∷ rest) (jobs_back jobs tables (omega (arith, e)))

  count_back : (jobs : List Job) (tables : List (ReturnTable S)) → length tables ≡ length jobs → length jobs ≡ length (store_of jobs tables)
  count_back [] tables e = refl
  count_back (job ∷ jobs) [] e = absurd (omega (arith, e))
  count_back (job ∷ jobs) (table ∷ tables) e = ap suc (count_back jobs tables (omega (arith, e)))

  outcome_back : (jobs : List Job) (tables : List (ReturnTable S)) → length tables ≡ length jobs → (i : ℕ) (id : List ℕ)
      → option_map_or (λ (table : ReturnTable S). get bytes_eq table id) (slice_get tables i) None ≡ stored_outcome (store_of jobs tables) i id
  outcome_back [] [] e i id = refl
  outcome_back [] (table ∷ tables) e i id = absurd (omega (arith, e))
  outcome_back (job ∷ jobs) [] e i id = absurd (omega (arith, e))
  outcome_back (job ∷ jobs) (table ∷ tables) e zero id = refl
  outcome_back (job ∷ jobs) (table ∷ tables) e (suc i) id = outcome_back jobs tables (omega (arith, e)) i id

  -- the store with a job and an empty table more
  pub job_more : (jobs : List Job) (tables : List (ReturnTable S)) → length tables ≡ length jobs → (job : Job) (table : ReturnTable S) → table.entries ≡ []
      → store_of (jobs ++ job ∷ []) (tables ++ table ∷ []) ≡ with_job job (store_of jobs tables)
  job_more [] [] e job table none = ap (λ (rows : List (List ℕ × Outcome)). record { job = job; returns = rows } ∷ []) none
  job_more [] (other ∷ tables) e job table none = absurd (omega (arith, e))
  job_more (first ∷ jobs) [] e job table none = absurd (omega (arith, e))
  job_more (first ∷ jobs) (other ∷ tables) e job table none =
      ap (λ (rest : List StoredJob). record { job = first; returns = other.entries } ∷ rest) (job_more jobs tables (omega (arith, e)) job table none)

  -- the store with other entries in one table
  pub return_more : (jobs : List Job) (tables : List (ReturnTable S)) → length tables ≡ length jobs → (i : ℕ) (old new : ReturnTable S) (row : Row)
      → slice_get tables i ≡ Some old → new.entries ≡ old.entries ++ (row.id, row.outcome) ∷ []
      → store_of jobs (slice_set tables i new) ≡ with_return i row (store_of jobs tables)
  return_more [] tables e i old new row at more = refl
  return_more (job ∷ jobs) [] e i old new row at more = absurd (omega (arith, e))
  return_more (job ∷ jobs) (table ∷ tables) e zero old new row at more =
      ap (λ (rows : List (List ℕ × Outcome)). record { job = job; returns = rows } ∷ store_of jobs tables)
      (more ∙ ap (λ (t : ReturnTable S). t.entries ++ (row.id, row.outcome) ∷ []) (sym (same_some table old at)))
  return_more (job ∷ jobs) (table ∷ tables) e (suc i) old new row at more =
      ap (λ (rest : List StoredJob). record { job = job; returns = table.entries } ∷ rest) (return_more jobs tables (omega (arith, e)) i old new row at more)
      ∙ deeper _ (store_of jobs tables) i row (slice_get (store_of jobs tables) i)

  -- the store with the same entries in one table
  pub return_kept : (jobs : List Job) (tables : List (ReturnTable S)) (i : ℕ) (old new : ReturnTable S)
      → slice_get tables i ≡ Some old → new.entries ≡ old.entries
      → store_of jobs (slice_set tables i new) ≡ store_of jobs tables
  return_kept [] tables i old new at kept = refl
  return_kept (job ∷ jobs) [] i old new at kept = refl
  return_kept (job ∷ jobs) (table ∷ tables) zero old new at kept =
      ap (λ (rows : List (List ℕ × Outcome)). record { job = job; returns = rows } ∷ store_of jobs tables)
      (kept ∙ ap (λ (t : ReturnTable S). t.entries) (sym (same_some table old at)))
  return_kept (job ∷ jobs) (table ∷ tables) (suc i) old new at kept =
      ap (λ (rest : List StoredJob). record { job = job; returns = table.entries } ∷ rest) (return_kept jobs tables i old new at kept)

  -- a job that is later, and a table, keep what holds of both
  pub stored_push : (jobs : List Job) (tables : List (ReturnTable S)) → AreStored jobs tables → (job : Job) (table : ReturnTable S) → table.entries ≡ []
      → is_later jobs job ≡ true → length jobs < 4_294_967_295 → AreStored (jobs ++ job ∷ []) (tables ++ table ∷ [])
  stored_push jobs tables h job table none later room = record {
    paired = length-append tables (table ∷ []) ∙ ap (λ n. n + 1) h.paired ∙ sym (length-append jobs (job ∷ []));
    rising = rising_push jobs job h.rising later;
    few = let more : length (jobs ++ job ∷ []) ≡ length jobs + 1 = length-append jobs (job ∷ []) in omega (arith, more, room);
    once = all_push (λ (t : ReturnTable S). IsUnique bytes_eq t) tables table h.once (subst (λ (es : List (List ℕ × Outcome)). IsDistinct bytes_eq (keys_of es)) (sym none) none_twice);
  }

  module _ (jobs : List Job) (tables : List (ReturnTable S)) (h : AreStored jobs tables) (store : List StoredJob) (is : store_of jobs tables ≡ store) where
    -- the jobs of the store
    pub jobs_of : jobs ≡ stored_jobs store
    jobs_of = jobs_back jobs tables h.paired ∙ ap stored_jobs is

    -- no minion returned one twice
    pub once_of : ReturnOnce store
    once_of = subst ReturnOnce is (once_back jobs tables h.once)

    -- their number
    pub count_of : length jobs ≡ length store
    count_of = count_back jobs tables h.paired ∙ ap (λ (s : List StoredJob). length s) is

    -- an outcome in a table
    pub outcome_some : (i : ℕ) (id : List ℕ) (table : ReturnTable S) → slice_get tables i ≡ Some table → get bytes_eq table id ≡ stored_outcome store i id
    outcome_some i id table at =
        sym (ap (λ (o : Option (ReturnTable S)). option_map_or (λ (t : ReturnTable S). get bytes_eq t id) o None) at)
        ∙ outcome_back jobs tables h.paired i id ∙ ap (λ (s : List StoredJob). stored_outcome s i id) is

    -- no table
    pub outcome_none : (i : ℕ) (id : List ℕ) → slice_get tables i ≡ None → None ≡ stored_outcome store i id
    outcome_none i id at =
        sym (ap (λ (o : Option (ReturnTable S)). option_map_or (λ (t : ReturnTable S). get bytes_eq t id) o None) at)
        ∙ outcome_back jobs tables h.paired i id ∙ ap (λ (s : List StoredJob). stored_outcome s i id) is
