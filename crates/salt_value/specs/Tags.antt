-- The tags of values, by one table: the first byte of each spelling.
use Rattle.std.specs.Prelude.{ℕ, List as Tags, [], ◌∷◌, Option, ◌==◌}
use Rattle.std.specs.List.{find}

-- what a tag tells: the kind of the value, and of a flag which one
pub data Tag : Type 0 where
  Null : Tag
  False : Tag
  True : Tag
  Int : Tag
  Str : Tag
  List : Tag
  Map : Tag

-- the table
abbrev pub code_of : Tag → ℕ
code_of Null = 0x00
code_of False = 0x01
code_of True = 0x02
code_of Int = 0x03
code_of Str = 0x04
code_of List = 0x05
code_of Map = 0x06

-- each tag
abbrev pub tags : Tags Tag
tags = Null ∷ False ∷ True ∷ Int ∷ Str ∷ List ∷ Map ∷ []

-- the tag of this code
abbrev pub tag_of : ℕ → Option Tag
tag_of code = find (λ tag. code == code_of tag) tags
