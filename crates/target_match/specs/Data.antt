-- What globs and patterns say of grains and pillar, by cases on a value and on the parts that are left.
use Rattle.std.specs.Prelude.{ℕ, Bool, false, List, [], ◌∷◌, Option, None, Some, codes, map}
use Rattle.std.specs.List.{list_any}
use Rattle.std.specs.Fmt.{signed_decimal}
use Rattle.salt_glob.specs.LowerCase.{glob_caseless}
use Rattle.salt_value.specs.Keys.{under}
use Rattle.salt_value.specs.Scalar.{flag_text}
use Rattle.salt_value.specs.declared.value.Value.{Value, fold-Value}
use Rattle.salt_value.specs.declared.value.Value.TheOpen.{Value-F}
use Rattle.target_match.specs.Paths.{joined_path}

-- whether a value passes, given the parts that are left
abbrev pub Test : Type 0
Test = List (List ℕ) → Bool

-- the child under a key passes with these parts, if there is one
abbrev pub child_passes : Option Test → Test
child_passes None ps = false
child_passes (Some test) ps = test ps

-- a map meets its last part by one of its keys, and more parts by the child under the first of them, as an exact key
abbrev pub map_meets : List (List ℕ × Test) → Test
map_meets pairs [] = false
map_meets pairs (p ∷ []) = list_any (λ pair. glob_caseless p pair.0) pairs
map_meets pairs (p ∷ q ∷ ps) = child_passes (under p pairs) (q ∷ ps)

-- a scalar meets the parts that are left, joined, by its text; a list by one of its members
abbrev pub meets_layer : Value-F Test → Test
meets_layer Value-F.Null ps = glob_caseless (joined_path ps) (codes "None")
meets_layer (Value-F.Flag flag) ps = glob_caseless (joined_path ps) (flag_text flag)
meets_layer (Value-F.Int number) ps = glob_caseless (joined_path ps) (signed_decimal number)
meets_layer (Value-F.Str text) ps = glob_caseless (joined_path ps) text
meets_layer (Value-F.List items) ps = list_any (λ item. item ps) items
meets_layer (Value-F.Map pairs) ps = map_meets pairs ps

-- a glob's parts meet the value
abbrev pub meets : Value → Test
meets = fold-Value Test meets_layer

-- Each pair with whether its value meets parts. No public contract cites it.
abbrev pub told_pairs : List (List ℕ × Value) → List (List ℕ × Test)
told_pairs pairs = map (λ p. (p.0, meets p.1)) pairs

-- The child under this key meets parts. No public contract cites it.
abbrev pub child_meets : List ℕ → List (List ℕ × Value) → Test
child_meets key pairs = child_passes (under key (told_pairs pairs))

-- a scalar passes at the end of the path alone
abbrev pub text_reaches : (List ℕ → Bool) → List ℕ → Test
text_reaches test text [] = test text
text_reaches test text (p ∷ ps) = false

-- at the end of the path a map passes where one of its keys does, and on the way where the child under the exact key does
abbrev pub map_reaches : (List ℕ → Bool) → List (List ℕ × Test) → Test
map_reaches test pairs [] = list_any (λ pair. test pair.0) pairs
map_reaches test pairs (p ∷ ps) = child_passes (under p pairs) ps

-- a scalar is reached as its text, a list by one of its members, a map by its keys and children
abbrev pub reaches_layer : (List ℕ → Bool) → Value-F Test → Test
reaches_layer test Value-F.Null ps = text_reaches test (codes "None") ps
reaches_layer test (Value-F.Flag flag) ps = text_reaches test (flag_text flag) ps
reaches_layer test (Value-F.Int number) ps = text_reaches test (signed_decimal number) ps
reaches_layer test (Value-F.Str text) ps = text_reaches test text ps
reaches_layer test (Value-F.List items) ps = list_any (λ item. item ps) items
reaches_layer test (Value-F.Map pairs) ps = map_reaches test pairs ps

-- what stands at the end of the path passes the test
abbrev pub reaches : (List ℕ → Bool) → Value → Test
reaches test = fold-Value Test (reaches_layer test)

-- Each pair with whether a path from its value on reaches such a text. No public contract cites it.
abbrev pub reaches_pairs : (List ℕ → Bool) → List (List ℕ × Value) → List (List ℕ × Test)
reaches_pairs test pairs = map (λ p. (p.0, reaches test p.1)) pairs

-- A path into a map of these pairs reaches such a text. No public contract cites it.
abbrev pub fields_reach : (List ℕ → Bool) → List (List ℕ × Value) → Test
fields_reach test pairs = map_reaches test (reaches_pairs test pairs)
