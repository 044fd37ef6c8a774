-- What a map is with a pair set or taken out.
use Rattle.std.specs.Prelude.{ℕ, not, List, ◌∷◌, ◌++◌, filter, bytes_eq}
use Rattle.salt_value.specs.Keys.{before}

-- the pairs with this one in its place, and no other under its key
abbrev pub with_pair : {A : Type 0} → List ℕ → A → List (List ℕ × A) → List (List ℕ × A)
with_pair key value ps = filter (λ p. before p.0 key) ps ++ (key, value) ∷ filter (λ p. before key p.0) ps

-- the pairs but the one under this key
abbrev pub without_key : {A : Type 0} → List ℕ → List (List ℕ × A) → List (List ℕ × A)
without_key key ps = filter (λ p. not (bytes_eq p.0 key)) ps
