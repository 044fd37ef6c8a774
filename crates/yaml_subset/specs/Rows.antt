-- Lines, and the entries of a block.
use Rattle.std.specs.Prelude.{ℕ, ◌-◌, ◌==◌, length, nat_le, ◌&&◌, not, Bool, true, false, List, [], ◌∷◌, map, take, drop, bytes_eq, codes, if◌then◌else◌}
use Rattle.yaml_words.specs.Places.{ends_or, is_empty}
use Rattle.yaml_words.specs.Spaces.{after_spaces}
use Rattle.yaml_words.specs.Keys.{is_item}
use Rattle.yaml_subset.specs.declared.rows.Line.{Line}
use Rattle.yaml_subset.specs.declared.rows.Entry.{Entry as LinesEntry}

-- A line that is not passed over: its number, how many bytes it has, and its last bytes, those from where its reading begins.
pub record IndentedLine : Type 0 where
  pub number : ℕ
  pub width : ℕ
  pub text : List ℕ

-- the column at which its reading begins
abbrev pub column_of : IndentedLine → ℕ
column_of r = r.width - length r.text

-- a line of the code
abbrev pub indented_line : Line → IndentedLine
indented_line l = record { number = l.number; width = l.width; text = l.text.now }

-- lines of the code
abbrev pub indented_lines : List Line → List IndentedLine
indented_lines lines = map indented_line lines

-- A line that begins an entry of a block, and its own lines: those after it, up to the next line that begins an entry.
pub record Entry : Type 0 where
  pub head : IndentedLine
  pub own : List IndentedLine

-- one line more before an entry's own lines
abbrev pub onto_own : IndentedLine → List Entry → List Entry
onto_own r [] = []
onto_own r (e ∷ es) = record { head = e.head; own = r ∷ e.own } ∷ es

-- the entries of a block that begins with `head`
abbrev pub entries : (IndentedLine → Bool) → IndentedLine → List IndentedLine → List Entry
entries begins head [] = record { head = head; own = [] } ∷ []
entries begins head (r ∷ rs) =
    if begins r then record { head = head; own = [] } ∷ entries begins r rs
    else onto_own r (entries begins head rs)

-- No public contract cites it. The entries of the lines after an entry.
abbrev pub further : (IndentedLine → Bool) → List IndentedLine → List Entry
further begins [] = []
further begins (r ∷ rs) = entries begins r rs

-- An entry of a list begins with each line that is not deeper than the list.
abbrev pub begins_item : ℕ → IndentedLine → Bool
begins_item column r = nat_le (column_of r) column

-- So does one of a map, but a list at the map's own indentation belongs to the key before it.
abbrev pub begins_pair : ℕ → IndentedLine → Bool
begins_pair column r = nat_le (column_of r) column && not (column_of r == column && is_item r.text)

-- where the entries of a map begin, or those of a list
abbrev pub begins_entry : Bool → ℕ → IndentedLine → Bool
begins_entry true = begins_pair
begins_entry false = begins_item

-- an entry of the code
abbrev pub block_entry : LinesEntry → Entry
block_entry e = record { head = indented_line e.head; own = indented_lines e.own.now }

-- is it `---`, with spaces and a comment or without
abbrev pub is_document_start : List ℕ → Bool
is_document_start line = bytes_eq (take 3 line) (codes "---") && ends_or 32 (drop 3 line) && is_empty (after_spaces (drop 3 line))
