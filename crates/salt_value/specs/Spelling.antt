-- The one spelling of each value as bytes, by cases on the value.
use Rattle.std.specs.Prelude.{ℕ, true, false, List, [], ◌∷◌, ◌++◌, length, map}
use Rattle.std.specs.Int.{w32, w64, to_be_bytes, cast_unsigned}
use Rattle.salt_value.specs.Tags as tag
use Rattle.salt_value.specs.Tags.{code_of}
use Rattle.salt_value.specs.declared.value.Value.{Value, fold-Value}
use Rattle.salt_value.specs.declared.value.Value.TheOpen.{Value-F}

-- the four bytes of a length, and the text's bytes
abbrev pub text : List ℕ → List ℕ
text t = to_be_bytes w32 (length t) ++ t

-- one spelling after the other
abbrev pub concatenation : List (List ℕ) → List ℕ
concatenation [] = []
concatenation (x ∷ xs) = x ++ concatenation xs

-- for each pair its key as a text, and then the value's bytes
abbrev pub pairs_spelling : List (List ℕ × List ℕ) → List ℕ
pairs_spelling [] = []
pairs_spelling (p ∷ ps) = text p.0 ++ (p.1 ++ pairs_spelling ps)

-- one layer of a value, with the bytes of each member in the member's place
abbrev pub spelling_layer : Value-F (List ℕ) → List ℕ
spelling_layer Value-F.Null = code_of tag.Null ∷ []
spelling_layer (Value-F.Flag false) = code_of tag.False ∷ []
spelling_layer (Value-F.Flag true) = code_of tag.True ∷ []
spelling_layer (Value-F.Int z) = code_of tag.Int ∷ to_be_bytes w64 (cast_unsigned w64 z)
spelling_layer (Value-F.Str t) = code_of tag.Str ∷ text t
spelling_layer (Value-F.List xs) = code_of tag.List ∷ (to_be_bytes w32 (length xs) ++ concatenation xs)
spelling_layer (Value-F.Map ps) = code_of tag.Map ∷ (to_be_bytes w32 (length ps) ++ pairs_spelling ps)

-- the spelling of a value
abbrev pub bytes : Value → List ℕ
bytes = fold-Value (List ℕ) spelling_layer

-- pairs with the bytes of each value in the value's place
abbrev pub spelled_pairs : List (List ℕ × Value) → List (List ℕ × List ℕ)
spelled_pairs ps = map (λ p. (p.0, bytes p.1)) ps
