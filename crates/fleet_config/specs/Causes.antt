-- The first of several causes.
use Rattle.std.specs.Prelude.{Bool, List, [], ◌∷◌, Option, None, Some, if◌then◌else◌}

-- the cause of the first test that does not hold
abbrev pub first_cause : {C : Type 0} → List (Bool × C) → Option C
first_cause [] = None
first_cause (test ∷ tests) = if test.0 then first_cause tests else Some test.1
