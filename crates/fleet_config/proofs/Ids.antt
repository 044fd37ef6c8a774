-- The ids of the minions at or below a node, and what is found by an id.
use Rattle.std.proofs.Common.{◌≡◌, ℕ, zero, suc, ◌+◌, ◌<◌, ◌≤◌, ◌^◌, ◌∙◌, sym, ap, refl, subst, inl, inr, Bool, true, false, ◌&&◌, ◌||◌, cond, List, [], ◌∷◌, ◌++◌, length, map, filter, Option, None, Some, unwrap_or, position, bytes_eq, arith, le_refl}
use Rattle.std.specs.Prelude.{is_some}
use Rattle.std.specs.List.{IsDistinct, position_from, list_any}
use Rattle.std.proofs.lemmas.Bool.{cases_lt}
use Rattle.std.proofs.lemmas.Cmp.{nat_list_eq_equiv}
use Rattle.std.proofs.lemmas.Iterator.Adapters.{position_from-zero}
use Rattle.std.proofs.lemmas.List.{append-nil, length_push, length-map, map-append}
use Rattle.std.proofs.lemmas.List.Elements.{filter-append}
use Rattle.std.proofs.lemmas.List.Folds.{list_any-append}
use Rattle.std.proofs.lemmas.List.Quantifiers.{position-Some}
use Rattle.std.proofs.lemmas.Map.Keys.{IsDistinct-push}
use Rattle.std.proofs.lemmas.Slice.Eq.{bytes_eq-Decides}
use Rattle.exec_functions.specs.Limits.{no_holdings}
use Rattle.fleet_config.specs.declared.fleet.Member.{Member}
use Rattle.fleet_config.specs.declared.fleet.Role.TheVariants as role
use Rattle.fleet_config.specs.Limits.{most_nodes}
use Rattle.fleet_config.specs.Tree.{Tree, IsTree, id_of, is_minion, is_within, minions, ids_below, up_to}
use Rattle.fleet_config.specs.Laws.{FindsMinionsBelow, FindsPlaces}
use Rattle.fleet_config.proofs.Owns.{minion_within}
use Rattle.fleet_config.proofs.Trees.{few_nodes}

-- the ids among one node more
ids_more : (t : Tree) (p : ℕ → Bool) (n : ℕ)
    → map (id_of t) (filter p (up_to (suc n))) ≡ map (id_of t) (filter p (up_to n)) ++ map (id_of t) (cond (p n) (n ∷ []) [])
ids_more t p n = ap (map (id_of t)) (filter-append p (up_to n) (n ∷ [])) ∙ map-append (id_of t) (filter p (up_to n)) (filter p (n ∷ []))

differ_case : (t : Tree) → IsTree t → (m n : ℕ) → m < length t → n < m → (b : Bool) → bytes_eq (id_of t m) (id_of t n) ≡ b → bytes_eq (id_of t m) (id_of t n) ≡ false
differ_case t h m n l before false e = e
differ_case t h m n l before true e = absurd (let same : m ≡ n = h.distinct m n l (omega arith) ((bytes_eq-Decides (id_of t m) (id_of t n)).0 e) in omega arith)

-- two nodes of a tree have different ids
differ : (t : Tree) → IsTree t → (m n : ℕ) → m < length t → n < m → bytes_eq (id_of t m) (id_of t n) ≡ false
differ t h m n l before = differ_case t h m n l before (bytes_eq (id_of t m) (id_of t n)) refl

absent_more : (t : Tree) (id : List ℕ) (n : ℕ) (b : Bool) (ids : List (List ℕ)) → list_any (bytes_eq id) ids ≡ false → bytes_eq id (id_of t n) ≡ false
    → list_any (bytes_eq id) (ids ++ map (id_of t) (cond b (n ∷ []) [])) ≡ false
absent_more t id n true ids h e = list_any-append (bytes_eq id) ids (id_of t n ∷ []) ∙ rw (h, e) refl
absent_more t id n false ids h e = ap (list_any (bytes_eq id)) (append-nil ids) ∙ h

-- the id of a node is not among those of the nodes before it
absent : (t : Tree) → IsTree t → (p : ℕ → Bool) (m : ℕ) → m < length t → (n : ℕ) → n ≤ m → list_any (bytes_eq (id_of t m)) (map (id_of t) (filter p (up_to n))) ≡ false
absent t h p m l zero before = refl
absent t h p m l (suc n) before =
    ap (list_any (bytes_eq (id_of t m))) (ids_more t p n)
    ∙ absent_more t (id_of t m) n (p n) (map (id_of t) (filter p (up_to n))) (absent t h p m l n (omega arith)) (differ t h m n l (omega arith))

distinct_more : (t : Tree) (n : ℕ) (b : Bool) (ids : List (List ℕ)) → IsDistinct bytes_eq ids → list_any (bytes_eq (id_of t n)) ids ≡ false
    → IsDistinct bytes_eq (ids ++ map (id_of t) (cond b (n ∷ []) []))
distinct_more t n true ids d new = IsDistinct-push nat_list_eq_equiv ids (id_of t n) d new
distinct_more t n false ids d new = subst (IsDistinct bytes_eq) (sym (append-nil ids)) d

none_distinct : IsDistinct bytes_eq []
unfolding IsDistinct
none_distinct = tt

distinct_up : (t : Tree) → IsTree t → (p : ℕ → Bool) (n : ℕ) → n ≤ length t → IsDistinct bytes_eq (map (id_of t) (filter p (up_to n)))
distinct_up t h p zero l = none_distinct
distinct_up t h p (suc n) l =
    subst (IsDistinct bytes_eq) (sym (ids_more t p n))
    (distinct_more t n (p n) (map (id_of t) (filter p (up_to n))) (distinct_up t h p n (omega arith)) (absent t h p n (omega arith) n (le_refl n)))

-- no id comes twice
pub distinct_ids : (t : Tree) (a : ℕ) → (0 < length t → IsTree t) → IsDistinct bytes_eq (ids_below t a)
distinct_ids [] a h = none_distinct
distinct_ids (m ∷ ms) a h = distinct_up (m ∷ ms) (h (omega arith)) _ (length (m ∷ ms)) (le_refl (length (m ∷ ms)))

few_more : (n k : ℕ) (b : Bool) (xs : List ℕ) → length xs ≤ k → length (xs ++ cond b (n ∷ []) []) ≤ suc k
few_more n k true xs h = let e : length (xs ++ n ∷ []) ≡ length xs + 1 = length_push xs n in omega arith
few_more n k false xs h = let e : length (xs ++ []) ≡ length xs = ap length (append-nil xs) in omega arith

few_up : (p : ℕ → Bool) (n : ℕ) → length (filter p (up_to n)) ≤ n
few_up p zero = le_refl 0
few_up p (suc n) = subst (λ xs. length xs ≤ suc n) (sym (filter-append p (up_to n) (n ∷ []))) (few_more n n (p n) (filter p (up_to n)) (few_up p n))

-- there are no more ids than nodes
pub few_ids : (t : Tree) (a : ℕ) → (0 < length t → IsTree t) → length (ids_below t a) < 2 ^ 32
few_ids t a h =
    let ids : length (ids_below t a) ≡ length (minions t a) = length-map (minions t a) (id_of t) in
    let few : length (minions t a) ≤ length t = few_up (λ m. is_minion t m && is_within t a m) (length t) in
    let nodes : length t ≤ most_nodes = few_nodes t h in
    omega arith

some_case : (k : ℕ) (o : Option ℕ) (b more : Bool) → (more ≡ true → is_some o ≡ true) → (b || more) ≡ true → is_some (cond b (Some k) o) ≡ true
some_case k o true more h e = refl
some_case k o false more h e = h e

-- what passes a test is found
some_from : (test : List ℕ → Bool) (k : ℕ) (ids : List (List ℕ)) → list_any test ids ≡ true → is_some (position_from test k ids) ≡ true
some_from test k [] e = absurd (cc)
some_from test k (id ∷ ids) e = some_case k (position_from test (k + 1) ids) (test id) (list_any test ids) (some_from test (k + 1) ids) e

pub some_place : (test : List ℕ → Bool) (ids : List (List ℕ)) → list_any test ids ≡ true → is_some (position test ids) ≡ true
some_place test ids e = ap is_some (position_from-zero test ids) ∙ some_from test 0 ids e

or_true : (b : Bool) → (b || true) ≡ true
or_true true = refl
or_true false = refl

found_last : (t : Tree) (n : ℕ) (b : Bool) (ids : List (List ℕ)) → b ≡ true
    → list_any (λ other. bytes_eq other (id_of t n)) (ids ++ map (id_of t) (cond b (n ∷ []) [])) ≡ true
found_last t n true ids e =
    let same : bytes_eq (id_of t n) (id_of t n) ≡ true = (bytes_eq-Decides (id_of t n) (id_of t n)).1 refl in
    list_any-append (λ other. bytes_eq other (id_of t n)) ids (id_of t n ∷ []) ∙ rw same (or_true _)
found_last t n false ids e = absurd (cc)

found_before : (test : List ℕ → Bool) (ids more : List (List ℕ)) → list_any test ids ≡ true → list_any test (ids ++ more) ≡ true
found_before test ids more e = list_any-append test ids more ∙ rw e refl

-- the id of a node that passes a test is among those of the nodes up to it
found_up : (t : Tree) (p : ℕ → Bool) (m : ℕ) → p m ≡ true → (n : ℕ) → m < n → list_any (λ other. bytes_eq other (id_of t m)) (map (id_of t) (filter p (up_to n))) ≡ true
found_up t p m passes zero l = absurd (omega arith)
found_up t p m passes (suc n) l =
    ap (list_any (λ other. bytes_eq other (id_of t m))) (ids_more t p n) ∙ elim (cases_lt m n) [
      | inl before ↦ found_before (λ other. bytes_eq other (id_of t m)) (map (id_of t) (filter p (up_to n))) _ (found_up t p m passes n before)
      | inr after ↦
          let here : m ≡ n = omega arith in
          subst (λ k. list_any (λ other. bytes_eq other (id_of t k)) (map (id_of t) (filter p (up_to n)) ++ map (id_of t) (cond (p n) (n ∷ []) [])) ≡ true) (sym here)
          (found_last t n (p n) (map (id_of t) (filter p (up_to n))) (subst (λ k. p k ≡ true) here passes))
    ]

pub finds_minions : FindsMinionsBelow
finds_minions t a m is within =
    some_place (λ other. bytes_eq other (id_of t m)) (ids_below t a)
    (found_up t (λ k. is_minion t k && is_within t a k) m (rw (is, within) refl) (length t) (minion_within t m is))

-- the node that is found has the id
found_at : (t : Tree) (id : List ℕ) (o : Option ℕ) → position (λ m. bytes_eq m.id id) t ≡ o → unwrap_or o (length t) < length t
    → id_of t (unwrap_or o (length t)) ≡ id
found_at t id None e l = absurd (omega arith)
found_at t id (Some i) e l =
    let past : Member = record { id = []; role = role.Top; parent = 0; port = 0; held = no_holdings } in
    (bytes_eq-Decides (id_of t i) id).0 (position-Some (λ m. bytes_eq m.id id) t i past e).1

pub finds_places : FindsPlaces
finds_places t id l = found_at t id (position (λ m. bytes_eq m.id id) t) refl l
