-- Spaces at the front and at the end of a text.
use Rattle.std.proofs.Common.{◌≡◌, ◌≢◌, ℕ, ◌==◌, Bool, true, false, List, [], ◌∷◌, ◌++◌, refl, ap, ◌∙◌}
use Rattle.std.proofs.lemmas.Bool.{eqb-true}
use Rattle.yaml_words.specs.Spaces.{unindented, trimmed, onto_trimmed}

pub unindented-space : (text rest : List ℕ) → text ≡ 32 ∷ rest → unindented text ≡ unindented rest
unindented-space text rest e = rw e refl

no_space : (b : ℕ) (bytes : List ℕ) (is : Bool) → (b == 32) ≡ is → ((rest : List ℕ) → b ∷ bytes ≢ 32 ∷ rest) → unindented (b ∷ bytes) ≡ b ∷ bytes
no_space b bytes true e h = absurd (h bytes (ap (λ n. n ∷ bytes) (eqb-true b 32 e)))
no_space b bytes false e h = rw e refl

pub unindented-same : (text : List ℕ) → ((rest : List ℕ) → text ≢ 32 ∷ rest) → unindented text ≡ text
unindented-same [] h = refl
unindented-same (b ∷ bytes) h = no_space b bytes (b == 32) refl h

pub trimmed-more : (text : List ℕ) → trimmed (text ++ 32 ∷ []) ≡ trimmed text
trimmed-more [] = refl
trimmed-more (b ∷ bytes) = ap (onto_trimmed b) (trimmed-more bytes)

pub trimmed-space : (text rest : List ℕ) → text ≡ rest ++ 32 ∷ [] → trimmed text ≡ trimmed rest
trimmed-space text rest e = ap trimmed e ∙ trimmed-more rest

last_byte : (b : ℕ) (is : Bool) → (b == 32) ≡ is → ((front : List ℕ) → b ∷ [] ≢ front ++ 32 ∷ []) → trimmed (b ∷ []) ≡ b ∷ []
last_byte b true e h = absurd (h [] (ap (λ n. n ∷ []) (eqb-true b 32 e)))
last_byte b false e h = rw e refl

pub trimmed-same : (text : List ℕ) → ((front : List ℕ) → text ≢ front ++ 32 ∷ []) → trimmed text ≡ text
trimmed-same [] h = refl
trimmed-same (b ∷ []) h = last_byte b (b == 32) refl h
trimmed-same (b ∷ c ∷ bytes) h = ap (onto_trimmed b) (trimmed-same (c ∷ bytes) (λ front e. h (b ∷ front) (ap (λ t. b ∷ t) e)))
