-- The tree of some lines, or the first line that has a fault, with its first fault: by recursion over the entries of each block.
use Rattle.std.specs.Prelude.{ℕ, zero, suc, ◌==◌, ◌&&◌, not, Bool, List, [], ◌∷◌, ◌++◌, map, Option, None, Some, Result, Ok, if◌then◌else◌}
use Rattle.salt_value.specs.declared.value.Value.{Value}
use Rattle.salt_value.specs.declared.value.Value.TheVariants as v
use Rattle.salt_value.specs.Readers.{◌>>=◌}
use Rattle.yaml_words.specs.declared.fault.YamlCause.TheVariants.{Indent, KeyTwice, TooDeep, Unsupported}
use Rattle.yaml_words.specs.declared.fault.YamlFault.{YamlFault}
use Rattle.yaml_words.specs.declared.flow.FlowNode.{FlowNode}
use Rattle.yaml_words.specs.declared.flow.FlowNode.TheVariants as flow
use Rattle.yaml_words.specs.Faults.{refused}
use Rattle.yaml_words.specs.Keys.{is_item, after_mark, split_key, key as key_text}
use Rattle.yaml_words.specs.FlowNodes.{flow_node}
use Rattle.yaml_subset.specs.declared.tree.Yaml.{Yaml}
use Rattle.yaml_subset.specs.declared.tree.YamlNode.{YamlNode}
use Rattle.yaml_subset.specs.declared.tree.YamlPair.{YamlPair}
use Rattle.yaml_subset.specs.declared.tree.YamlNode.TheVariants.{Scalar, List as ListNode, Map as MapNode}
use Rattle.yaml_subset.specs.Keys.{has_key}
use Rattle.yaml_subset.specs.Rows.{IndentedLine, Entry, column_of, entries, begins_item, begins_pair, is_document_start}

-- the levels of the deepest tree
abbrev pub most_yaml_levels : ℕ
most_yaml_levels = 32

-- a scalar on this line
abbrev pub scalar_on_line : ℕ → Value → Yaml
scalar_on_line line value = record { line = line; node = Scalar value }

-- what stands on one line, as a tree whose parts have that line
abbrev pub node_on_line : ℕ → FlowNode → YamlNode
node_on_line line (flow.Scalar value) = Scalar value
node_on_line line (flow.List values) = ListNode (map (scalar_on_line line) values)
node_on_line line flow.EmptyMap = MapNode []

-- a text on one line, for which there are so many levels
abbrev pub inline : ℕ → ℕ → List ℕ → Result Yaml YamlFault
inline levels line text = flow_node levels line text >>= λ node. Ok (record { line = line; node = node_on_line line node })

-- no line may follow
abbrev pub closed : {A : Type 0} → List IndentedLine → A → Result A YamlFault
closed [] x = Ok x
closed (r ∷ rs) x = refused r.number Indent

-- how a deeper block is read: its first line, and the others
abbrev pub BlockReader : Type 0
BlockReader = IndentedLine → List IndentedLine → Result Yaml YamlFault

-- the block of an entry's own lines, or null
abbrev pub block_or_null : BlockReader → ℕ → List IndentedLine → Result Yaml YamlFault
block_or_null deeper number [] = Ok (scalar_on_line number v.Null)
block_or_null deeper number (r ∷ rs) = deeper r rs

-- a value on the line of its mark or key, after which no line of its own may follow
abbrev pub value_here : ℕ → IndentedLine → List ℕ → List IndentedLine → Result Yaml YamlFault
value_here levels head text own = inline levels head.number text >>= closed own

-- the line that begins where a text at the end of this line begins
abbrev pub moved : IndentedLine → List ℕ → IndentedLine
moved r text = record { number = r.number; width = r.width; text = text }

-- a text after `- `: a map whose first key stands there, or a value
abbrev pub keyed_item : ℕ → BlockReader → IndentedLine → List ℕ → List IndentedLine → Option (List ℕ × List ℕ) → Result Yaml YamlFault
keyed_item levels deeper head text own None = value_here levels head text own
keyed_item levels deeper head text own (Some key) = deeper (moved head text) own

-- what stands after the mark of an item
abbrev pub item_value : ℕ → BlockReader → IndentedLine → List ℕ → List IndentedLine → Result Yaml YamlFault
item_value levels deeper head [] own = block_or_null deeper head.number own
item_value levels deeper head (b ∷ bytes) own =
    if is_item (b ∷ bytes) then refused head.number Unsupported
    else keyed_item levels deeper head (b ∷ bytes) own (split_key (b ∷ bytes))

-- An item of a list at this column, whose value may have so many levels.
abbrev pub item_of : ℕ → BlockReader → ℕ → Entry → Result Yaml YamlFault
item_of levels deeper column e =
    if not (column_of e.head == column) then refused e.head.number Indent
    else if not (is_item e.head.text) then refused e.head.number Indent
    else if levels == 0 then refused e.head.number TooDeep
    else item_value levels deeper e.head (after_mark e.head.text) e.own

-- is it `---` at the first column, which may stand on the first line alone
abbrev pub is_later_start : IndentedLine → Bool
is_later_start r = column_of r == 0 && is_document_start r.text

-- the text of the key of a line, or of a line without one where a key is due
abbrev pub key_or_fault : IndentedLine → Option (List ℕ × List ℕ) → Result (List ℕ) YamlFault
key_or_fault head (Some k) = key_text head.number k.0
key_or_fault head None =
    if is_later_start head then refused head.number Unsupported
    else flow_node most_yaml_levels head.number head.text >>= λ node. refused head.number Indent

-- the key of a pair of a map at this column
abbrev pub key_of : ℕ → IndentedLine → Result (List ℕ) YamlFault
key_of column head = if not (column_of head == column) then refused head.number Indent else key_or_fault head (split_key head.text)

-- what stands after a key
abbrev pub after_key : Option (List ℕ × List ℕ) → List ℕ
after_key None = []
after_key (Some k) = k.1

-- the value of a pair: what stands after its key, or its own lines
abbrev pub pair_value : ℕ → BlockReader → IndentedLine → List ℕ → List IndentedLine → Result Yaml YamlFault
pair_value levels deeper head [] own = block_or_null deeper head.number own
pair_value levels deeper head (b ∷ bytes) own = value_here levels head (b ∷ bytes) own

-- the pair of a key, which the map has already or not
abbrev pub pair_under : ℕ → BlockReader → Bool → Entry → List ℕ → Result YamlPair YamlFault
pair_under levels deeper twice e key =
    if twice then refused e.head.number KeyTwice
    else if levels == 0 then refused e.head.number TooDeep
    else pair_value levels deeper e.head (after_key (split_key e.head.text)) e.own >>= λ value. Ok (record { line = e.head.number; key = key; value = value })

-- the keys of some pairs
abbrev pub pair_keys : List YamlPair → List (List ℕ)
pair_keys pairs = map (λ (p : YamlPair). p.key) pairs

-- A pair of a map at this column, which has these keys before it.
abbrev pub pair_of : ℕ → BlockReader → ℕ → List (List ℕ) → Entry → Result YamlPair YamlFault
pair_of levels deeper column keys e = key_of column e.head >>= λ key. pair_under levels deeper (has_key keys key) e key

-- the items of a list, after those before them
abbrev pub items_of : ℕ → BlockReader → ℕ → List Yaml → List Entry → Result (List Yaml) YamlFault
items_of levels deeper column before [] = Ok before
items_of levels deeper column before (e ∷ es) =
    item_of levels deeper column e >>= λ item. items_of levels deeper column (before ++ item ∷ []) es

-- the pairs of a map, after those before them
abbrev pub pairs_of : ℕ → BlockReader → ℕ → List YamlPair → List Entry → Result (List YamlPair) YamlFault
pairs_of levels deeper column before [] = Ok before
pairs_of levels deeper column before (e ∷ es) =
    pair_of levels deeper column (pair_keys before) e >>= λ pair. pairs_of levels deeper column (before ++ pair ∷ []) es

-- the list that begins with this line
abbrev pub list_of : ℕ → BlockReader → BlockReader
list_of levels deeper first rest =
    items_of levels deeper (column_of first) [] (entries (begins_item (column_of first)) first rest)
    >>= λ items. Ok (record { line = first.number; node = ListNode items })

-- the map that begins with this line
abbrev pub map_of : ℕ → BlockReader → BlockReader
map_of levels deeper first rest =
    pairs_of levels deeper (column_of first) [] (entries (begins_pair (column_of first)) first rest)
    >>= λ pairs. Ok (record { line = first.number; node = MapNode pairs })

-- a list or a map, by the first line, whose members may have so many levels
abbrev pub block_of : ℕ → BlockReader → BlockReader
block_of levels deeper first rest = if is_item first.text then list_of levels deeper first rest else map_of levels deeper first rest

-- a block that may have so many levels
unfoldable pub block : ℕ → BlockReader
block zero first rest = refused first.number TooDeep
block (suc levels) first rest = block_of levels (block levels) first rest
