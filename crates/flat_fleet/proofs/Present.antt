-- The flat fleet job by job, and each flat minion by itself.
use Rattle.std.proofs.Common.{◌≡◌, ℕ, zero, suc, ◌+◌, ◌<◌, ◌∙◌, sym, ap, refl, Bool, true, false, List, [], ◌∷◌, ◌++◌, length, take, drop, get_or, set, drop-cons, map, arith, add-one}
use Rattle.std.specs.Prelude.{Option, None, Some, slice_get, if◌then◌else◌}
use Rattle.std.specs.List.{cons_option}
use Rattle.std.proofs.lemmas.List.Elements.{filter_map-append}
use Rattle.std.proofs.lemmas.Bool.{eq-eqb}
use Rattle.std.proofs.lemmas.List.{take-append-drop, take_more, length-take}
use Rattle.salt_value.specs.declared.outcome.Outcome.{Outcome}
use Rattle.exec_functions.specs.declared.holdings.Holdings.{Holdings}
use Rattle.exec_functions.specs.declared.holdings.Note.{Note}
use Rattle.exec_functions.specs.declared.holdings.Note.TheVariants as note
use Rattle.exec_functions.specs.declared.holdings.Ran.{Ran}
use Rattle.exec_functions.specs.Exec.{run, with_change}
use Rattle.salt_wire.specs.declared.message.Job.{Job}
use Rattle.target_tree.specs.declared.kind.Kind.TheVariants.{Glob}
use Rattle.target_tree.specs.declared.target.Target.TheVariants.{IdGlob}
use Rattle.salt_value.specs.declared.outcome.Row.{Row}
use Rattle.salt_wire.specs.declared.message.Entry.TheVariants.{Return}
use Rattle.salt_wire.specs.declared.deed.Deed.{Deed}
use Rattle.salt_wire.specs.declared.deed.Deed.TheVariants.{Done}
use Rattle.minion_core.specs.Flat.{row_of, does_hold, entry_of, done_by, job_record, held_after, held_by, entries_in, flat_records, flat_up, flat_held, return_of}
use Rattle.minion_core.proofs.Changes.{changed_is}
use Rattle.minion_core.proofs.FlatSteps.{step_from, flat_push}
use Rattle.flat_fleet.specs.declared.report.FlatMinion.{FlatMinion}
use Rattle.flat_fleet.specs.Reports.{job_rows, reports_to, outcome_of, minion_after, rows_after}

-- ---- one step

its_return : (seq : ℕ) (held : Holdings) (o : Outcome) (notes : List Note) → return_of seq (map (entry_of seq held) notes ++ Return seq o ∷ []) ≡ Some o
its_return seq held o [] = let e = eq-eqb seq seq refl in rw e refl
its_return seq held o (note.Fired event ∷ notes) = its_return seq held o notes
its_return seq held o (note.Mine ∷ notes) = its_return seq held o notes

outcome_by : (seq : ℕ) (held : Holdings) (t : Bool) (ran : Ran)
    → return_of seq (entries_in (if t then done_by seq held ran else Done seq None [])) ≡ (if t then Some ran.outcome else None)
outcome_by seq held true ran = its_return seq (with_change ran.change held) ran.outcome ran.notes
outcome_by seq held false ran = refl

outcome_is : (seq : ℕ) (job : Job) (m : FlatMinion) → return_of seq (entries_in (job_record seq job m.id m.held)) ≡ outcome_of job m
unfolding job_record
outcome_is seq job m = outcome_by seq m.held (does_hold job m.id m.held) (run job.fun job.args m.held)

held_step : (seq : ℕ) (held : Holdings) (t : Bool) (ran : Ran)
    → held_after held (if t then done_by seq held ran else Done seq None []) ≡ (if t then with_change ran.change held else held)
held_step seq held true ran = changed_is ran.change held
held_step seq held false ran = refl

held_is : (seq : ℕ) (job : Job) (m : FlatMinion) → held_after m.held (job_record seq job m.id m.held) ≡ (minion_after job m).held
unfolding job_record
held_is seq job m = held_step seq m.held (does_hold job m.id m.held) (run job.fun job.args m.held)

-- ---- after some jobs

abbrev pub present : List Job → FlatMinion → FlatMinion
present jobs m = record m { held = flat_held 0 m.id m.held jobs }

held_by_push : (h : Holdings) (ds : List Deed) (d : Deed) → held_by h (ds ++ d ∷ []) ≡ held_after (held_by h ds) d
held_by_push h [] d = refl
held_by_push h (e ∷ ds) d = held_by_push (held_after h e) ds d

present_more : (xs : List Job) (job : Job) (m : FlatMinion) → minion_after job (present xs m) ≡ present (xs ++ job ∷ []) m
present_more xs job m =
    let h : Holdings = flat_held 0 m.id m.held xs in
    let next : flat_held 0 m.id m.held (xs ++ job ∷ []) ≡ held_after h (job_record (0 + length xs) job m.id h) =
    ap (held_by m.held) (flat_push 0 m.id m.held xs job) ∙ held_by_push m.held (flat_records 0 m.id m.held xs) (job_record (0 + length xs) job m.id h) in
    ap (λ (x : Holdings). record m { held = x }) (sym (next ∙ held_is (0 + length xs) job (present xs m)))

pub all_more : (xs : List Job) (job : Job) (ms : List FlatMinion) → map (minion_after job) (map (present xs) ms) ≡ map (present (xs ++ job ∷ [])) ms
all_more xs job [] = refl
all_more xs job (m ∷ ms) = rw (present_more xs job m, all_more xs job ms) refl

row_is : (xs : List Job) (job : Job) (ys : List Job) (m : FlatMinion)
    → row_of m.id (outcome_of job (present xs m)) ≡ row_of m.id (return_of (length xs) (flat_up 0 m.id m.held (xs ++ job ∷ ys)))
row_is xs job ys m =
    let e : 0 + length xs ≡ length xs = omega arith in
    let step = rw e at (step_from 0 m.id m.held xs job ys) in
    ap (row_of m.id) (sym (step ∙ outcome_is (length xs) job (present xs m)))

pub made_is : (xs : List Job) (job : Job) (ys : List Job) (ms : List FlatMinion) → rows_after job (map (present xs) ms) ≡ job_rows (length xs) ms (xs ++ job ∷ ys)
made_is xs job ys [] = refl
made_is xs job ys (m ∷ ms) = ap (λ r. cons_option r (rows_after job (map (present xs) ms))) (row_is xs job ys m) ∙ ap (cons_option _) (made_is xs job ys ms)

pub at_first : (ms : List FlatMinion) → map (present []) ms ≡ ms
at_first [] = refl
at_first (m ∷ ms) = ap (λ l. m ∷ l) (at_first ms)

at_place : (jobs : List Job) (i : ℕ) (d : Job) → i < length jobs → slice_get jobs i ≡ Some (get_or jobs i d)
at_place [] i d lt = absurd (omega arith)
at_place (j ∷ jobs) zero d lt = refl
at_place (j ∷ jobs) (suc i) d lt = at_place jobs i d (omega arith)

-- the report of the next job
pub report_more : (fleet ms : List FlatMinion) (jobs : List Job) (i : ℕ) (d : Job) (made_rows : List Row) → i < length jobs → d ≡ get_or jobs i d → ms ≡ map (present (take i jobs)) fleet
    → made_rows ≡ rows_after d ms → reports_to i fleet jobs ++ record { jid = d.jid; fun = d.fun; rows = made_rows } ∷ [] ≡ reports_to (i + 1) fleet jobs
report_more fleet ms jobs i d made_rows lt is p m =
    let cut : take i jobs ++ d ∷ drop (suc i) jobs ≡ jobs = ap (λ (x : Job). take i jobs ++ x ∷ drop (suc i) jobs) is ∙ ap (λ r. take i jobs ++ r) (sym (drop-cons jobs i d lt)) ∙ take-append-drop i jobs in
    let short : length (take i jobs) ≡ i = grind (arith, length-take) in
    let all : made_rows ≡ job_rows i fleet jobs = m ∙ ap (rows_after d) p ∙ made_is (take i jobs) d (drop (suc i) jobs) fleet ∙ rw (cut, short) refl in
    let here : slice_get jobs i ≡ Some d = at_place jobs i d lt ∙ ap Some (sym is) in
    rw (add-one i, here, all) refl

pub present_next : (fleet ms : List FlatMinion) (jobs : List Job) (i : ℕ) (d : Job) → i < length jobs → d ≡ get_or jobs i d → ms ≡ map (present (take i jobs)) fleet
    → map (minion_after d) ms ≡ map (present (take (i + 1) jobs)) fleet
present_next fleet ms jobs i d lt is p =
    let more : take (i + 1) jobs ≡ take i jobs ++ d ∷ [] = take_more jobs i d lt ∙ ap (λ (x : Job). take i jobs ++ x ∷ []) (sym is) in
    ap (map (minion_after d)) p ∙ all_more (take i jobs) d fleet ∙ ap (λ js. map (present js) fleet) (sym more)

-- ---- a list that is changed place by place

abbrev pub Half : (FlatMinion → FlatMinion) → ℕ → List FlatMinion → List FlatMinion
Half f i xs = map f (take i xs) ++ drop i xs

pub half_at : (f : FlatMinion → FlatMinion) (i : ℕ) (xs : List FlatMinion) (d : FlatMinion) → i < length xs → get_or (Half f i xs) i d ≡ get_or xs i d
half_at f i [] d lt = absurd (omega arith)
half_at f zero (x ∷ xs) d lt = refl
half_at f (suc i) (x ∷ xs) d lt = half_at f i xs d (omega arith)

pub half_set : (f : FlatMinion → FlatMinion) (i : ℕ) (xs : List FlatMinion) (d : FlatMinion) → i < length xs → set (Half f i xs) i (f (get_or xs i d)) ≡ Half f (i + 1) xs
half_set f i [] d lt = absurd (omega arith)
half_set f zero (x ∷ xs) d lt = refl
half_set f (suc i) (x ∷ xs) d lt =
    let e : suc i + 1 ≡ suc (i + 1) = omega arith in
    ap (λ l. f x ∷ l) (half_set f i xs d (omega arith)) ∙ ap (λ k. Half f k (x ∷ xs)) (sym e)

-- the rows with that of one minion more
pub rows_more : (job : Job) (xs : List FlatMinion) (i : ℕ) (m : FlatMinion) (before after : List Row) (outcome : Option Outcome) → i < length xs → m ≡ get_or xs i m
    → before ≡ rows_after job (take i xs) → outcome ≡ outcome_of job m → after ≡ before ++ cons_option (row_of m.id outcome) [] → after ≡ rows_after job (take (i + 1) xs)
rows_more job xs i m before after outcome lt is b o e =
    let grown : rows_after job (take (i + 1) xs) ≡ rows_after job (take i xs) ++ rows_after job (get_or xs i m ∷ []) =
    ap (rows_after job) (take_more xs i m lt) ∙ filter_map-append (λ (x : FlatMinion). row_of x.id (outcome_of job x)) (take i xs) (get_or xs i m ∷ []) in
    let last : rows_after job (get_or xs i m ∷ []) ≡ cons_option (row_of m.id outcome) [] = ap (λ (x : FlatMinion). rows_after job (x ∷ [])) (sym is) ∙ ap (λ (r : Option Outcome). cons_option (row_of m.id r) []) (sym o) in
    e ∙ ap (λ l. l ++ cons_option (row_of m.id outcome) []) b ∙ sym (grown ∙ ap (λ l. rows_after job (take i xs) ++ l) last)

-- ---- a report depends on the jobs up to its own

pub first_jobs : (fleet : List FlatMinion) (jobs : List Job) (k : ℕ) → k < length jobs → job_rows k fleet (take (k + 1) jobs) ≡ job_rows k fleet jobs
first_jobs fleet jobs k lt =
    let d : Job = get_or jobs k (record { jid = 0; kind = Glob; tgt = []; target = IdGlob []; fun = []; args = [] }) in
    let cut : take k jobs ++ d ∷ drop (suc k) jobs ≡ jobs = ap (λ r. take k jobs ++ r) (sym (drop-cons jobs k _ lt)) ∙ take-append-drop k jobs in
    let front : take (k + 1) jobs ≡ take k jobs ++ d ∷ [] = take_more jobs k _ lt in
    let short : length (take k jobs) ≡ k = grind (arith, length-take) in
    let one = rw short at (made_is (take k jobs) d [] fleet) in
    let all = rw (cut, short) at (made_is (take k jobs) d (drop (suc k) jobs) fleet) in
    ap (job_rows k fleet) front ∙ sym one ∙ all
