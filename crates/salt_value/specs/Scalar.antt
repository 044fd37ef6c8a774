-- The text of a scalar, which patterns are held against.
use Rattle.std.specs.Prelude.{ℕ, List, Bool, true, false, Option, None, Some, codes}
use Rattle.std.specs.Fmt.{signed_decimal}
use Rattle.salt_value.specs.declared.value.Value.{Value, fold-Value}
use Rattle.salt_value.specs.declared.value.Value.TheOpen.{Value-F}

-- the words that Python has for the two flags
abbrev pub flag_text : Bool → List ℕ
flag_text true = codes "True"
flag_text false = codes "False"

-- by cases on the value; a list and a map have none
abbrev pub scalar_layer : {A : Type 0} → Value-F A → Option (List ℕ)
scalar_layer Value-F.Null = Some (codes "None")
scalar_layer (Value-F.Flag flag) = Some (flag_text flag)
scalar_layer (Value-F.Int number) = Some (signed_decimal number)
scalar_layer (Value-F.Str text) = Some text
scalar_layer (Value-F.List items) = None
scalar_layer (Value-F.Map pairs) = None

-- the text of a scalar, and none of a list or a map
abbrev pub scalar_text : Value → Option (List ℕ)
scalar_text = fold-Value (Option (List ℕ)) scalar_layer
