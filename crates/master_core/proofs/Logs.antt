-- What is found in the logs with an entry more.
use Rattle.std.proofs.Common.{◌≡◌, ℕ, ◌<◌, ◌∙◌, sym, ap, refl, subst, Bool, true, false, List, [], ◌∷◌, ◌++◌, length, Option, None, Some, bytes_eq, arith, if◌then◌else◌}
use Rattle.std.specs.Prelude.{is_some, get_or}
use Rattle.std.specs.Option.{option_map_or}
use Rattle.std.proofs.lemmas.List.{get_or-set_same, get_or-set_other}
use Rattle.std.proofs.lemmas.List.Quantifiers.{position-Some}
use Rattle.std.proofs.lemmas.Slice.Eq.{bytes_eq-Decides}
use Rattle.salt_wire.specs.declared.message.Entry.{Entry}
use Rattle.up_logs.specs.UpLogs.{log_at, with_entry}
use Rattle.master_core.specs.Master.{MasterState, place_in, log_of_id, master_with_entry}
use Rattle.master_core.specs.Laws.{FindsEntry}

-- the logs with an entry more at a place, if there is one
abbrev more : Entry → List (List Entry) → Option ℕ → List (List Entry)
more entry logs o = option_map_or (λ place. with_entry place entry logs) o logs

-- the id at the place of an id is that id
id_at : (ids : List (List ℕ)) (id : List ℕ) (i : ℕ) → place_in ids id ≡ Some i → get_or ids i [] ≡ id
id_at ids id i e = (bytes_eq-Decides (get_or ids i []) id).0 (position-Some (λ other. bytes_eq other id) ids i [] e).1

same_log : (ids : List (List ℕ)) (logs : List (List Entry)) (id : List ℕ) (entry : Entry) (o : Option ℕ) → place_in ids id ≡ o → is_some o ≡ true
    → length logs ≡ length ids → option_map_or (log_at (more entry logs o)) o [] ≡ option_map_or (log_at logs) o [] ++ entry ∷ []
same_log ids logs id entry None e below paired = absurd (cc)
same_log ids logs id entry (Some i) e below paired =
    let within : i < length ids = (position-Some (λ other. bytes_eq other id) ids i [] e).0 in
    get_or-set_same logs i (log_at logs i ++ entry ∷ []) [] (omega arith)

-- two ids that differ have two places
two_places : (ids : List (List ℕ)) (id other : List ℕ) (i j : ℕ) → place_in ids id ≡ Some i → place_in ids other ≡ Some j → bytes_eq id other ≡ false → j ≡ i → ⊥
two_places ids id other i j e f apart same =
    let one : id ≡ other = sym (id_at ids id i e) ∙ ap (λ k. get_or ids k []) (sym same) ∙ id_at ids other j f in
    let yes : bytes_eq id other ≡ true = (bytes_eq-Decides id other).1 one in
    let wrong : true ≡ false = sym yes ∙ apart in
    absurd (cc)

other_log : (ids : List (List ℕ)) (logs : List (List Entry)) (id other : List ℕ) (entry : Entry) (o p : Option ℕ) → place_in ids id ≡ o → place_in ids other ≡ p
    → bytes_eq id other ≡ false → option_map_or (log_at (more entry logs o)) p [] ≡ option_map_or (log_at logs) p []
other_log ids logs id other entry None p e f apart = refl
other_log ids logs id other entry (Some i) None e f apart = refl
other_log ids logs id other entry (Some i) (Some j) e f apart =
    get_or-set_other logs i j (log_at logs i ++ entry ∷ []) [] (two_places ids id other i j e f apart)

finds_case : (id other : List ℕ) (entry : Entry) (s : MasterState) → is_some (place_in s.ids id) ≡ true → length s.logs ≡ length s.ids → (b : Bool) → bytes_eq id other ≡ b
    → log_of_id other (master_with_entry id entry s) ≡ (if b then log_of_id other s ++ entry ∷ [] else log_of_id other s)
finds_case id other entry s below paired true e =
    subst (λ x. log_of_id x (master_with_entry id entry s) ≡ log_of_id x s ++ entry ∷ []) ((bytes_eq-Decides id other).0 e)
    (same_log s.ids s.logs id entry (place_in s.ids id) refl below paired)
finds_case id other entry s below paired false e = other_log s.ids s.logs id other entry (place_in s.ids id) (place_in s.ids other) refl refl e

pub finds_entry : FindsEntry
finds_entry id other entry s below paired = finds_case id other entry s below paired (bytes_eq id other) refl
