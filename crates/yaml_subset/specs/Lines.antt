-- What the functions over lines answer: definitions of blocks at the code's lines. No public contract cites one of them.
use Rattle.std.specs.Prelude.{Option, position, ◌≡◌, ℕ, Bool, List, [], ◌∷◌, map, Result}
use Rattle.yaml_subset.specs.Document.{lines_of, read_lines, all_lines}
use Rattle.yaml_words.specs.declared.fault.YamlFault.{YamlFault}
use Rattle.yaml_subset.specs.declared.rows.Entry.{Entry as LinesEntry}
use Rattle.yaml_subset.specs.declared.rows.Line.{Line}
use Rattle.yaml_subset.specs.declared.tree.Yaml.{Yaml}
use Rattle.yaml_subset.specs.declared.tree.YamlPair.{YamlPair}
use Rattle.yaml_subset.specs.Rows.{IndentedLine, Entry, indented_line, indented_lines, block_entry, column_of, entries, further, begins_entry, begins_item, begins_pair}
use Rattle.yaml_subset.specs.Blocks.{value_here, block, block_of, block_or_null, item_value, item_of, items_of, pair_value, pair_under, pair_of, pairs_of}

-- No public contract cites it. An entry of these lines.
abbrev pub lines_entry : Line → List Line → Entry
lines_entry head own = record { head = indented_line head; own = indented_lines own }

-- No public contract cites it. The first entry of some lines has these own lines, and after it come the entries of those lines.
abbrev pub CutsEntry : Bool → ℕ → List Line → List Line → List Line → Type 0
CutsEntry of_map column lines own after =
    (head : IndentedLine) → entries (begins_entry of_map column) head (indented_lines lines) ≡ record { head = head; own = indented_lines own } ∷ further (begins_entry of_map column) (indented_lines after)

-- No public contract cites it. These are the entries of a list or a map that begins with a line and goes on with others.
abbrev pub AreEntries : Bool → ℕ → Line → List Line → List LinesEntry → Type 0
AreEntries of_map column first rest found = map block_entry found ≡ entries (begins_entry of_map column) (indented_line first) (indented_lines rest)

-- No public contract cites it. The block of these lines, or null.
abbrev pub own_block : ℕ → ℕ → List Line → Result Yaml YamlFault
own_block levels number own = block_or_null (block levels) number (indented_lines own)

-- No public contract cites it. What stands after an item's mark.
abbrev pub item_rest : ℕ → Line → List ℕ → List Line → Result Yaml YamlFault
item_rest levels head text own = item_value levels (block levels) (indented_line head) text (indented_lines own)

-- No public contract cites it. An item of these lines.
abbrev pub item_on : ℕ → ℕ → Line → List Line → Result Yaml YamlFault
item_on levels column head own = item_of levels (block levels) column (lines_entry head own)

-- No public contract cites it. The items of the list that begins with this line.
abbrev pub items_from : ℕ → Line → List Line → Result (List Yaml) YamlFault
items_from levels first rest =
    items_of levels (block levels) (column_of (indented_line first)) [] (entries (begins_item (column_of (indented_line first))) (indented_line first) (indented_lines rest))

-- No public contract cites it. What stands after a key.
abbrev pub pair_rest : ℕ → Line → List ℕ → List Line → Result Yaml YamlFault
pair_rest levels head text own = pair_value levels (block levels) (indented_line head) text (indented_lines own)

-- No public contract cites it. The pair of a key of these lines.
abbrev pub pair_below : ℕ → Bool → Line → List Line → List ℕ → Result YamlPair YamlFault
pair_below levels twice head own key = pair_under levels (block levels) twice (lines_entry head own) key

-- No public contract cites it. A pair of these lines.
abbrev pub pair_on : ℕ → ℕ → List (List ℕ) → Line → List Line → Result YamlPair YamlFault
pair_on levels column keys head own = pair_of levels (block levels) column keys (lines_entry head own)

-- No public contract cites it. The pairs of the map that begins with this line.
abbrev pub pairs_from : ℕ → Line → List Line → Result (List YamlPair) YamlFault
pairs_from levels first rest =
    pairs_of levels (block levels) (column_of (indented_line first)) [] (entries (begins_pair (column_of (indented_line first))) (indented_line first) (indented_lines rest))

-- No public contract cites it. The block of these lines, whose members may have so many levels.
abbrev pub block_from : ℕ → Line → List Line → Result Yaml YamlFault
block_from levels first rest = block_of levels (block levels) (indented_line first) (indented_lines rest)

-- No public contract cites it. A value on the line of its mark or key, after which none of these lines may stand.
abbrev pub value_on : ℕ → Line → List ℕ → List Line → Result Yaml YamlFault
value_on levels head text own = value_here levels (indented_line head) text (indented_lines own)

-- No public contract cites it. The block of these lines, which may have so many levels.
abbrev pub block_on : ℕ → Line → List Line → Result Yaml YamlFault
block_on levels first rest = block levels (indented_line first) (indented_lines rest)

-- No public contract cites it. The place of the first line that begins an entry, if one does.
abbrev pub entry_place : Bool → ℕ → List Line → Option ℕ
entry_place of_map column lines = position (λ l. begins_entry of_map column (indented_line l)) lines

-- No public contract cites it. These are the lines of a text that are not passed over, and the number of the one that a tab indents.
abbrev pub KeepsLines : ℕ → List ℕ → List Line → Option ℕ → Type 0
KeepsLines number text kept tab = read_lines number (lines_of text) ≡ (indented_lines kept, tab)

-- No public contract cites it. The same of a whole text, of which a first line `---` is passed over.
abbrev pub KeepsAllLines : ℕ → List ℕ → List Line → Option ℕ → Type 0
KeepsAllLines first text kept tab = all_lines first (lines_of text) ≡ (indented_lines kept, tab)
