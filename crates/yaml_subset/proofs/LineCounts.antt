-- How many lines a text has.
use Rattle.std.proofs.Common.{◌≡◌, ℕ, ◌+◌, ◌==◌, ◌≤◌, Bool, true, false, List, [], ◌∷◌, length, refl, arith}
use Rattle.std.specs.List.{onto_first}
use Rattle.yaml_subset.specs.Document.{lines_of}

onto_count : (b : ℕ) (lines : List (List ℕ)) → length (onto_first b lines) ≤ length lines + 1
onto_count b [] = omega arith
onto_count b (line ∷ lines) = omega arith

line_step : (b : ℕ) (bytes : List ℕ) (feeds : Bool) → (b == 10) ≡ feeds → length (lines_of bytes) ≤ length bytes → length (lines_of (b ∷ bytes)) ≤ length (b ∷ bytes)
line_step b bytes true e h = rw e (omega (arith, h))
line_step b bytes false e h = rw e (let o = onto_count b (lines_of bytes) in omega (arith, h, o))

-- a text has at most as many lines as bytes
pub line_count : (text : List ℕ) → length (lines_of text) ≤ length text
line_count [] = omega arith
line_count (b ∷ bytes) = line_step b bytes (b == 10) refl (line_count bytes)
