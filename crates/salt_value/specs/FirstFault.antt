-- The first fault from the left of bytes that begin with no value: whole parts, and then a part that has the fault.
use Rattle.std.specs.Prelude.{◌≡◌, ◌⊎◌, ◌<◌, ◌≤◌, ◌^◌, ◌+◌, ◌-◌, nat_lt, if◌then◌else◌, ℕ, zero, suc, true, false, List, [], ◌∷◌, ◌++◌, length, take, min, map, Option, Some, None}
use Rattle.std.specs.Str.{is_utf8}
use Rattle.std.specs.Int.{w32, to_be_bytes}
use Rattle.salt_value.specs.declared.fault.Misread.{Misread}
use Rattle.salt_value.specs.declared.fault.Misread.TheVariants.{NoMemory, Short, BadTag, Unsorted, NotUtf8, TooDeep}
use Rattle.salt_value.specs.declared.value.Value.{Value}
use Rattle.salt_value.specs.declared.fault.ValueFault.{ValueFault}
use Rattle.salt_value.specs.declared.fault.ValueFault.TheVariants as faults
use Rattle.salt_value.specs.Limits.{most_value_levels, most_value_bytes}
use Rattle.salt_value.specs.Tags as tag
use Rattle.salt_value.specs.Tags.{Tag, tag_of}
use Rattle.salt_value.specs.Keys.{keys_of, last_key, comes_after, Ascend}
use Rattle.salt_value.specs.Spelling.{bytes, text, concatenation, pairs_spelling, spelled_pairs}
use Rattle.salt_value.specs.WellFormed.{is_text, depth, greatest, AllWellFormed, PairsWellFormed}

-- what fault the bytes have at their front. A place is the number of bytes from there to the end
abbrev pub Faults : Type 1
Faults = List ℕ → Misread → Type 0

-- fewer bytes than the part has
abbrev pub IsCut : ℕ → Faults
IsCut size b f = (length b < size) × (f ≡ Short)

-- no whole number of 32 bits, or one and a fault of what it counts
abbrev pub CountedFault : (ℕ → Faults) → Faults
CountedFault fault b f = IsCut 4 b f ⊎ ((n : ℕ) × (rest : List ℕ) × (n < 2 ^ 32) × (b ≡ to_be_bytes w32 n ++ rest) × fault n rest f)

-- no whole text, or a whole one that is no UTF-8
abbrev pub TextFault : Faults
TextFault = CountedFault (λ n rest f. IsCut n rest f ⊎ ((n ≤ length rest) × (is_utf8 (take n rest) ≡ false) × (f ≡ NotUtf8 (length rest))))

-- a key that is no text, or that doesn't stand after the key before it
abbrev pub KeyFault : Option (List ℕ) → Faults
KeyFault last b f = TextFault b f
    ⊎ ((key : List ℕ) × (rest : List ℕ) × (is_text key ≡ true) × (b ≡ text key ++ rest) × (comes_after last key ≡ false) × (f ≡ Unsorted (length key + length rest)))

-- of values whose members may have d levels and have such a fault
module _ (d : ℕ) (fault : Faults) where
  -- in a list: some whole members, fewer than the count, and then one with a fault
  abbrev pub ItemsFault : ℕ → Faults
  ItemsFault n b f = (done : List Value) × (rest : List ℕ) × (length done < n) × AllWellFormed done × (greatest (map depth done) ≤ d) × (b ≡ concatenation (map bytes done) ++ rest) × fault rest f

  -- in a pair: no level for the value, a fault of the key, or a whole key and a fault of the value
  abbrev pub PairFault : Option (List ℕ) → Faults
  PairFault last b f = ((d ≡ 0) × (f ≡ TooDeep))
      ⊎ ((0 < d) × (KeyFault last b f ⊎ ((key : List ℕ) × (rest : List ℕ) × (is_text key ≡ true) × (comes_after last key ≡ true) × (b ≡ text key ++ rest) × fault rest f)))

  -- in a map: some whole pairs in order, fewer than the count, and then one with a fault
  abbrev pub PairsFault : ℕ → Faults
  PairsFault n b f = (done : List (List ℕ × Value)) × (rest : List ℕ) × (length done < n) × PairsWellFormed done × Ascend (keys_of done)
      × (greatest (map (λ (p : List ℕ × Value). depth p.1) done) ≤ d) × (b ≡ pairs_spelling (spelled_pairs done) ++ rest) × PairFault (last_key done) rest f

  -- after a tag, by cases on the tag
  abbrev pub TagFault : Option Tag → Faults
  TagFault (Some tag.Null) b f = ⊥
  TagFault (Some tag.False) b f = ⊥
  TagFault (Some tag.True) b f = ⊥
  TagFault (Some tag.Int) b f = IsCut 8 b f
  TagFault (Some tag.Str) b f = TextFault b f
  TagFault (Some tag.List) b f = CountedFault ItemsFault b f
  TagFault (Some tag.Map) b f = CountedFault PairsFault b f
  TagFault None b f = f ≡ BadTag (suc (length b))

-- in a value that may have so many levels
unfoldable pub ValueFaults : ℕ → Faults
ValueFaults zero b f = f ≡ TooDeep
ValueFaults (suc d) [] f = f ≡ Short
ValueFaults (suc d) (code ∷ b) f = TagFault d (ValueFaults d) (tag_of code) b f

-- a fault of an input of n bytes, of which so many were looked at, by its place from the front
abbrev pub value_fault : ℕ → ℕ → Misread → ValueFault
value_fault n seen NoMemory = faults.NoMemory
value_fault n seen Short = if nat_lt n most_value_bytes then faults.Short else faults.TooLarge
value_fault n seen (BadTag left) = faults.BadTag (seen - left)
value_fault n seen (Unsorted left) = faults.Unsorted (seen - left)
value_fault n seen (NotUtf8 left) = faults.NotUtf8 (seen - left)
value_fault n seen TooDeep = faults.TooDeep

-- the first fault of an input, of which the first 65,536 bytes alone are looked at
abbrev pub FirstFault : List ℕ → ValueFault → Type 0
FirstFault input e = (f : Misread) × ValueFaults most_value_levels (take most_value_bytes input) f × (e ≡ value_fault (length input) (min (length input) most_value_bytes) f)
