-- A whole text: its lines, and the tree that they are.
use Rattle.std.specs.Prelude.{ℕ, ◌+◌, ◌==◌, List, [], ◌∷◌, length, Option, None, Some, Result, Ok, if◌then◌else◌}
use Rattle.std.specs.List.{onto_first}
use Rattle.salt_value.specs.declared.value.Value.TheVariants as v
use Rattle.salt_value.specs.Readers.{◌>>=◌}
use Rattle.yaml_words.specs.declared.fault.YamlCause.TheVariants.{Tab, Unsupported}
use Rattle.yaml_words.specs.declared.fault.YamlFault.{YamlFault}
use Rattle.yaml_words.specs.Faults.{refused}
use Rattle.yaml_words.specs.Places.{begins_with, ends_or}
use Rattle.yaml_words.specs.Spaces.{unindented}
use Rattle.yaml_words.specs.Keys.{is_item, split_key}
use Rattle.yaml_subset.specs.declared.tree.Yaml.{Yaml}
use Rattle.yaml_subset.specs.Rows.{IndentedLine, is_document_start}
use Rattle.yaml_subset.specs.Blocks.{block, value_here, is_later_start, most_yaml_levels, scalar_on_line}

-- the lines of a text: each ends with a line feed, the last one with it or with the text
abbrev pub lines_of : List ℕ → List (List ℕ)
lines_of [] = []
lines_of (b ∷ bytes) = if b == 10 then [] ∷ lines_of bytes else onto_first b (lines_of bytes)

-- a line before others, and the line that a tab indents
abbrev pub onto_rows : IndentedLine → List IndentedLine × Option ℕ → List IndentedLine × Option ℕ
onto_rows r found = (r ∷ found.0, found.1)

-- The lines that are not passed over, up to the first one that a tab indents, and the number of that one.
abbrev pub read_lines : ℕ → List (List ℕ) → List IndentedLine × Option ℕ
read_lines number [] = ([], None)
read_lines number (line ∷ lines) =
    if begins_with 9 (unindented line) then ([], Some number)
    else if ends_or 35 (unindented line) then read_lines (number + 1) lines
    else onto_rows (record { number = number; width = length line; text = unindented line }) (read_lines (number + 1) lines)

-- a first line `---` is passed over
abbrev pub all_lines : ℕ → List (List ℕ) → List IndentedLine × Option ℕ
all_lines first [] = ([], None)
all_lines first (line ∷ lines) = if is_document_start line then read_lines (first + 1) lines else read_lines first (line ∷ lines)

-- a text that begins with no item: a map, or one scalar
abbrev pub by_key : IndentedLine → List IndentedLine → Option (List ℕ × List ℕ) → Result Yaml YamlFault
by_key r rs None = if is_later_start r then refused r.number Unsupported else value_here most_yaml_levels r r.text rs
by_key r rs (Some key) = block most_yaml_levels r rs

-- that text, by its first line
abbrev pub by_line : IndentedLine → List IndentedLine → Result Yaml YamlFault
by_line r rs = by_key r rs (split_key r.text)

-- one block, or one scalar
abbrev pub document : ℕ → List IndentedLine → Result Yaml YamlFault
document first [] = Ok (scalar_on_line first v.Null)
document first (r ∷ rs) = if is_item r.text then block most_yaml_levels r rs else by_line r rs

-- the line that a tab indents comes after all that was read
abbrev pub untabbed : Option ℕ → Yaml → Result Yaml YamlFault
untabbed None tree = Ok tree
untabbed (Some number) tree = refused number Tab

-- a whole tree has the number of the first line
abbrev pub numbered : ℕ → Yaml → Result Yaml YamlFault
numbered first tree = Ok (record { line = first; node = tree.node })

-- the tree of the lines that are not passed over
abbrev pub kept_tree : ℕ → List IndentedLine × Option ℕ → Result Yaml YamlFault
kept_tree first found = (document first found.0 >>= untabbed found.1) >>= numbered first

-- the tree that some lines are, or their first fault
abbrev pub lines_tree : ℕ → List (List ℕ) → Result Yaml YamlFault
lines_tree first lines = kept_tree first (all_lines first lines)

-- the tree that a text is, or its first fault
abbrev pub yaml_reading : ℕ → List ℕ → Result Yaml YamlFault
yaml_reading first text = lines_tree first (lines_of text)
