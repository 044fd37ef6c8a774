-- How scalars are written, so that they are read as they were.
use Rattle.std.specs.Prelude.{◌≡◌, ℕ, ◌==◌, ◌≤◌, List, [], ◌∷◌, ◌++◌, length, true, codes, Some, Ok, ℤ, false, FitsSigned, if◌then◌else◌}
use Rattle.std.specs.Int.{w64}
use Rattle.std.specs.Fmt.{signed_decimal}
use Rattle.salt_value.specs.declared.value.Value.TheVariants as v
use Rattle.yaml_words.specs.declared.flow.FlowNode.TheVariants as w
use Rattle.yaml_words.specs.declared.places.Delimiter.TheVariants.{Open}
use Rattle.yaml_words.specs.Places.{place}
use Rattle.yaml_words.specs.Spaces.{after_spaces}
use Rattle.yaml_words.specs.Plain.{most_scalar_bytes}
use Rattle.yaml_words.specs.Keys.{key, split_key}
use Rattle.yaml_words.specs.FlowNodes.{flow_node}

-- a byte in double quotes
abbrev pub spelled_byte : ℕ → List ℕ
spelled_byte b =
    if b == 92 then codes "\\\\"
    else if b == 34 then codes "\\\""
    else if b == 10 then codes "\\n"
    else if b == 13 then codes "\\r"
    else if b == 9 then codes "\\t"
    else b ∷ []

-- a text in double quotes, without them
abbrev pub spelled : List ℕ → List ℕ
spelled [] = []
spelled (b ∷ bytes) = spelled_byte b ++ spelled bytes

-- a text in double quotes
abbrev pub in_quotes : List ℕ → List ℕ
in_quotes text = 34 ∷ (spelled text ++ 34 ∷ [])

-- A scalar in its written form is read as it was, whatever its line: a text that is short enough in double quotes, a number of 64 bits with
-- its sign in decimal digits, null, flags.
pub record ScalarsReadBack : Type 0 where
  pub text : (levels line : ℕ) (t : List ℕ) → length t ≤ most_scalar_bytes → flow_node levels line (in_quotes t) ≡ Ok (w.Scalar (v.Str t))
  pub number : (levels line : ℕ) (z : ℤ) → FitsSigned w64 z → flow_node levels line (signed_decimal z) ≡ Ok (w.Scalar (v.Int z))
  pub null : (levels line : ℕ) → flow_node levels line (codes "null") ≡ Ok (w.Scalar v.Null)
  pub yes : (levels line : ℕ) → flow_node levels line (codes "true") ≡ Ok (w.Scalar (v.Flag true))
  pub no : (levels line : ℕ) → flow_node levels line (codes "false") ≡ Ok (w.Scalar (v.Flag false))

-- A key in double quotes is read as it was: it is told apart from what follows its colon, and has its text where that is short enough and
-- without a mark.
pub record KeysReadBack : Type 0 where
  pub parts : (t rest : List ℕ) → split_key (in_quotes t ++ 58 ∷ 32 ∷ rest) ≡ Some (in_quotes t, after_spaces (32 ∷ rest))
  pub text : (line : ℕ) (t : List ℕ) → length t ≤ most_scalar_bytes → place Open t ≡ length t → key line (in_quotes t) ≡ Ok t
