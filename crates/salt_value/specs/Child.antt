-- The parts of a map.
use Rattle.std.specs.Prelude.{ℕ, List, Option, None}
use Rattle.salt_value.specs.declared.value.Value.{Value, out-Value}
use Rattle.salt_value.specs.declared.value.Value.TheOpen.{Value-F}
use Rattle.salt_value.specs.Keys.{under}

-- by cases on the value: a map alone has parts under keys
abbrev pub child_layer : List ℕ → Value-F Value → Option Value
child_layer key Value-F.Null = None
child_layer key (Value-F.Flag flag) = None
child_layer key (Value-F.Int number) = None
child_layer key (Value-F.Str text) = None
child_layer key (Value-F.List items) = None
child_layer key (Value-F.Map pairs) = under key pairs

-- the value under a key, and none where the value is no map or has no such key
abbrev pub child : List ℕ → Value → Option Value
child key value = child_layer key (out-Value value)
