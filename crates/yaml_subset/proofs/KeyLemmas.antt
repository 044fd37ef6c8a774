-- A set of keys, seen as the list of their texts.
use Rattle.std.proofs.Common.{◌≡◌, ℕ, Bool, true, false, cond, List, [], ◌∷◌, ◌++◌, map, refl, ap, ◌∙◌}
use Rattle.std.specs.Prelude.{bytes_eq, ◌||◌}
use Rattle.std.specs.List.{list_any}
use Rattle.indexmap.specs.IndexSet.{insert_key}
use Rattle.yaml_subset.specs.Keys.{has_key, with_key}

any_map : {X : Type 0} (f : X → List ℕ) (test : List ℕ → Bool) (xs : List X) → list_any (λ x. test (f x)) xs ≡ list_any test (map f xs)
any_map f test [] = refl
any_map f test (x ∷ xs) = ap (λ b. test (f x) || b) (any_map f test xs)

-- a key is found among the texts
pub found_by_text : {X : Type 0} (f : X → List ℕ) (xs : List X) (x : X) (key : List ℕ) (all : List (List ℕ)) → f x ≡ key → map f xs ≡ all → list_any (λ y. bytes_eq (f x) (f y)) xs ≡ has_key all key
found_by_text f xs x key all e g = any_map f (bytes_eq (f x)) xs ∙ rw (e, g) refl

map_push : {X : Type 0} (f : X → List ℕ) (xs : List X) (x : X) → map f (xs ++ x ∷ []) ≡ map f xs ++ f x ∷ []
map_push f [] x = refl
map_push f (y ∷ xs) x = ap (λ t. f y ∷ t) (map_push f xs x)

inserted_by : {X : Type 0} (f : X → List ℕ) (xs : List X) (x : X) (there : Bool) → map f (cond there xs (xs ++ x ∷ [])) ≡ cond there (map f xs) (map f xs ++ f x ∷ [])
inserted_by f xs x true = refl
inserted_by f xs x false = map_push f xs x

-- the texts after a key was inserted
pub inserted_text : {X : Type 0} (f : X → List ℕ) (xs : List X) (x : X) (key : List ℕ) (all : List (List ℕ)) → f x ≡ key → map f xs ≡ all
    → map f (insert_key (λ a b. bytes_eq (f a) (f b)) xs x) ≡ with_key all key
inserted_text f xs x key all e g =
    inserted_by f xs x (list_any (λ y. bytes_eq (f x) (f y)) xs) ∙ rw (found_by_text f xs x key all e g, e, g) refl
