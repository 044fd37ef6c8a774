-- Spaces and comments.
use Rattle.std.specs.Prelude.{ℕ, ◌==◌, ◌&&◌, List, [], ◌∷◌, take, if◌then◌else◌}
use Rattle.yaml_words.specs.declared.places.Delimiter.TheVariants.{Comment}
use Rattle.yaml_words.specs.Places.{begins_with, place}

-- without the spaces at the front
abbrev pub unindented : List ℕ → List ℕ
unindented [] = []
unindented (b ∷ bytes) = if b == 32 then unindented bytes else b ∷ bytes

-- a byte before others, none where it is a space and no other one follows
abbrev pub onto_trimmed : ℕ → List ℕ → List ℕ
onto_trimmed b [] = if b == 32 then [] else b ∷ []
onto_trimmed b (c ∷ bytes) = b ∷ c ∷ bytes

-- without the spaces at the end
abbrev pub trimmed : List ℕ → List ℕ
trimmed [] = []
trimmed (b ∷ bytes) = onto_trimmed b (trimmed bytes)

-- without the comment
abbrev pub uncommented : List ℕ → List ℕ
uncommented text = take (place Comment text) text

-- what stands after spaces, nothing where that is a comment: a `#` behind a space
abbrev pub after_spaces : List ℕ → List ℕ
after_spaces text = if begins_with 32 text && begins_with 35 (unindented text) then [] else unindented text
