-- Lists on one line.
use Rattle.std.specs.Prelude.{ℕ, zero, suc, ◌||◌, nat_lt, Bool, List, [], ◌∷◌, ◌++◌, length, take, drop, Result, Ok, if◌then◌else◌}
use Rattle.salt_value.specs.declared.value.Value.{Value}
use Rattle.salt_value.specs.declared.value.Value.TheVariants as v
use Rattle.yaml_words.specs.declared.fault.YamlCause.TheVariants.{Quote, TooDeep, Unsupported}
use Rattle.yaml_words.specs.declared.fault.YamlFault.{YamlFault}
use Rattle.yaml_words.specs.declared.places.Delimiter.TheVariants.{Open, ItemEnd, PlainEnd}
use Rattle.yaml_words.specs.declared.quotes.QuoteKind.{QuoteKind}
use Rattle.yaml_words.specs.declared.quotes.QuoteKind.TheVariants.{Single, Double}
use Rattle.yaml_words.specs.declared.flow.FlowNode.{FlowNode}
use Rattle.yaml_words.specs.declared.flow.FlowNode.TheVariants as w
use Rattle.salt_value.specs.Readers.{◌>>=◌}
use Rattle.yaml_words.specs.Faults.{refused, unless}
use Rattle.yaml_words.specs.Places.{is_empty, begins_with, is_at, place}
use Rattle.yaml_words.specs.Spaces.{trimmed, after_spaces}
use Rattle.yaml_words.specs.Quotes.{quoted_text, after_quote}
use Rattle.yaml_words.specs.Plain.{plain, text_fault}

-- a text that was in quotes, where what follows the closing one may follow
abbrev pub closed_text : ℕ → Bool → List ℕ → Result Value YamlFault
closed_text line may_follow text = if may_follow then Ok (v.Str text) else refused line Quote

-- a scalar after its opening quote: its own faults, and then that of what follows
abbrev pub quoted_value : ℕ → QuoteKind → List ℕ → Bool → Result Value YamlFault
quoted_value line quote text may_follow =
    quoted_text line quote text
    >>= (λ t. unless line (text_fault (length t) (length t) (length t)) t)
    >>= closed_text line may_follow

-- may an item of a list end before this: a comma, a bracket, the end of the line
abbrev pub ends_item : List ℕ → Bool
ends_item text = is_empty text || begins_with 44 text || begins_with 93 text

-- an item after its opening quote
abbrev pub quoted_item : ℕ → QuoteKind → List ℕ → Result Value YamlFault
quoted_item line quote text = quoted_value line quote text (ends_item (after_spaces (after_quote quote text)))

-- how many bytes a plain item has, with the spaces after it: one that begins with `{{` is ended by no comment
abbrev pub item_size : List ℕ → ℕ
item_size text = if is_at Open text then place ItemEnd text else place PlainEnd text

-- the item that begins a text
abbrev pub item : ℕ → List ℕ → Result Value YamlFault
item line text =
    if begins_with 39 text then quoted_item line Single (drop 1 text)
    else if begins_with 34 text then quoted_item line Double (drop 1 text)
    else plain line (trimmed (take (item_size text) text))

-- what stands after that item: a comma, a bracket or nothing, where the item is one
abbrev pub after_item : List ℕ → List ℕ
after_item text =
    if begins_with 39 text then after_spaces (after_quote Single (drop 1 text))
    else if begins_with 34 text then after_spaces (after_quote Double (drop 1 text))
    else after_spaces (drop (item_size text) text)

-- a list after its closing bracket, which nothing may follow
abbrev pub closed_list : ℕ → List Value → List ℕ → Result FlowNode YamlFault
closed_list line items text = if is_empty (after_spaces text) then Ok (w.List items) else refused line Unsupported

-- what follows an item: the bracket, or a comma and next_items items
abbrev pub next_items : (List Value → List ℕ → Result FlowNode YamlFault) → ℕ → List Value → List ℕ → Result FlowNode YamlFault
next_items others line before text =
    if begins_with 93 text then closed_list line before (drop 1 text)
    else if begins_with 44 text then others before (after_spaces (drop 1 text))
    else refused line Unsupported

-- at most so many items, after those before them
unfoldable pub items : ℕ → ℕ → List Value → List ℕ → Result FlowNode YamlFault
items zero line before text = refused line Unsupported
items (suc n) line before text =
    item line text >>= λ value. next_items (items n line) line (before ++ value ∷ []) (after_item text)

-- A list after its opening bracket and spaces, for whose items there are so many levels. Each item takes a byte.
abbrev pub flow_list : ℕ → ℕ → List ℕ → Result FlowNode YamlFault
flow_list levels line text =
    if is_empty text then refused line Unsupported
    else if begins_with 93 text then closed_list line [] (drop 1 text)
    else if nat_lt levels 2 then refused line TooDeep
    else items (length text) line [] text
