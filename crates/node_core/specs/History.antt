-- The records of a node, as proofs alone read them. No public contract cites these.
use Rattle.std.specs.Prelude.{List, map}

-- the first parts of these pairs, in order
abbrev pub first_parts : {A B : Type 0} → List (A × B) → List A
first_parts pairs = map (λ p. p.0) pairs
