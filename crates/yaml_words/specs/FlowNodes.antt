-- Flow nodes, which stand on one line behind a key or an item's mark: scalars, lists, empty maps.
use Rattle.std.specs.Prelude.{ℕ, ◌&&◌, List, drop, Result, Ok, if◌then◌else◌}
use Rattle.salt_value.specs.declared.value.Value.{Value}
use Rattle.yaml_words.specs.declared.fault.YamlCause.TheVariants.{Unsupported}
use Rattle.yaml_words.specs.declared.fault.YamlFault.{YamlFault}
use Rattle.yaml_words.specs.declared.places.Delimiter.TheVariants.{Open}
use Rattle.yaml_words.specs.declared.quotes.QuoteKind.{QuoteKind}
use Rattle.yaml_words.specs.declared.quotes.QuoteKind.TheVariants.{Single, Double}
use Rattle.yaml_words.specs.declared.flow.FlowNode.{FlowNode}
use Rattle.yaml_words.specs.declared.flow.FlowNode.TheVariants as w
use Rattle.salt_value.specs.Readers.{◌>>=◌}
use Rattle.yaml_words.specs.Faults.{refused}
use Rattle.yaml_words.specs.Places.{is_empty, begins_with, is_at}
use Rattle.yaml_words.specs.Spaces.{trimmed, uncommented, after_spaces}
use Rattle.yaml_words.specs.Quotes.{after_quote}
use Rattle.yaml_words.specs.Plain.{plain}
use Rattle.yaml_words.specs.Lists.{quoted_value, flow_list}

-- a scalar, as a flow node
abbrev pub scalar : Value → Result FlowNode YamlFault
scalar value = Ok (w.Scalar value)

-- a scalar after its opening quote, behind which only spaces and a comment may stand
abbrev pub quoted_node : ℕ → QuoteKind → List ℕ → Result FlowNode YamlFault
quoted_node line quote text = quoted_value line quote text (is_empty (after_spaces (after_quote quote text))) >>= scalar

-- a plain scalar's text, with neither a comment nor the spaces at its end: one that begins with `{{` has no comment
abbrev pub plain_part : List ℕ → List ℕ
plain_part text = if is_at Open text then trimmed text else trimmed (uncommented text)

-- a plain scalar
abbrev pub plain_node : ℕ → List ℕ → Result FlowNode YamlFault
plain_node line text = plain line (plain_part text) >>= scalar

-- an empty map after its opening brace and spaces
abbrev pub flow_map : ℕ → List ℕ → Result FlowNode YamlFault
flow_map line text =
    if begins_with 125 text && is_empty (after_spaces (drop 1 text)) then Ok w.EmptyMap else refused line Unsupported

-- What a text on one line is, or its first fault from the left. Where it is a list, there are so many levels for it and its items.
abbrev pub flow_node : ℕ → ℕ → List ℕ → Result FlowNode YamlFault
flow_node levels line text =
    if begins_with 39 text then quoted_node line Single (drop 1 text)
    else if begins_with 34 text then quoted_node line Double (drop 1 text)
    else if begins_with 91 text then flow_list levels line (after_spaces (drop 1 text))
    else if is_at Open text then plain_node line text
    else if begins_with 123 text then flow_map line (after_spaces (drop 1 text))
    else plain_node line text
