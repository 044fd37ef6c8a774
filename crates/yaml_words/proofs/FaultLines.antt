-- Each fault of what stands on a line is told with that line's number.
use Rattle.std.proofs.Common.{◌≡◌, ℕ, zero, suc, Bool, true, false, cond, List, [], ◌∷◌, ◌++◌, drop, length, take, ap}
use Rattle.std.specs.Prelude.{Option, None, Some, Result, Ok, Err, nat_lt, ◌&&◌}
use Rattle.salt_value.specs.declared.value.Value.{Value}
use Rattle.salt_value.specs.Readers.{◌>>=◌}
use Rattle.yaml_words.specs.declared.fault.YamlCause.{YamlCause}
use Rattle.yaml_words.specs.declared.fault.YamlCause.TheVariants.{Quote, Number, TooDeep, Unsupported}
use Rattle.yaml_words.specs.declared.fault.YamlFault.{YamlFault}
use Rattle.yaml_words.specs.declared.fault.YamlFault.TheVariants.{Line}
use Rattle.yaml_words.specs.declared.flow.FlowNode.{FlowNode}
use Rattle.yaml_words.specs.declared.numbers.Numeral.{Numeral}
use Rattle.yaml_words.specs.declared.numbers.Numeral.TheVariants.{Whole, Refused, Other}
use Rattle.yaml_words.specs.declared.places.Delimiter.TheVariants.{Open, Return}
use Rattle.yaml_words.specs.declared.quotes.QuoteKind.{QuoteKind}
use Rattle.yaml_words.specs.declared.quotes.QuoteKind.TheVariants.{Single, Double}
use Rattle.yaml_words.specs.Faults.{IsOnLine, refused, unless}
use Rattle.yaml_words.specs.Places.{begins_with, is_empty, is_at, place, has}
use Rattle.yaml_words.specs.Spaces.{trimmed, after_spaces}
use Rattle.yaml_words.specs.Quotes.{quoted_text, returnless, written, unquoted}
use Rattle.yaml_words.specs.Numbers.{numeral}
use Rattle.yaml_words.specs.Plain.{plain, by_numeral, plain_fault, plain_value, may_begin, text_fault}
use Rattle.yaml_words.specs.Lists.{quoted_value, closed_text, item, item_size, after_item, closed_list, next_items, items, flow_list}
use Rattle.yaml_words.specs.Keys.{key, quoted_key}
use Rattle.yaml_words.specs.FlowNodes.{flow_node, quoted_node, plain_node, flow_map, plain_part, scalar}

pub on_ok : {A : Type 0} (line : ℕ) (x : A) → IsOnLine {A = A} line (Ok x)
on_ok line x = record { told = λ n cause e. absurd (let no : ⊥ = cc in no) }

pub on_refused : {A : Type 0} (line : ℕ) (cause : YamlCause) → IsOnLine {A = A} line (refused line cause)
on_refused {A} line cause = record { told = λ n other e. (let same : Line line cause ≡ Line n other = cc in let s : n ≡ line = cc in s) }

pub on_if : {A : Type 0} (line : ℕ) (b : Bool) (x y : Result A YamlFault) → IsOnLine line x → IsOnLine line y → IsOnLine line (cond b x y)
on_if line true x y h k = h
on_if line false x y h k = k

pub on_step : {A B : Type 0} (line : ℕ) (x : Result A YamlFault) (f : A → Result B YamlFault) → IsOnLine line x → ((a : A) → IsOnLine line (f a)) → IsOnLine line (x >>= f)
on_step line (Ok a) f h k = k a
on_step {A} {B} line (Err e) f h k = record { told = λ n cause s. h.told n cause (let t : e ≡ Line n cause = cc in ap (λ (z : YamlFault). Err z) t) }

on_unless : {A : Type 0} (line : ℕ) (cause : Option YamlCause) (x : A) → IsOnLine line (unless line cause x)
on_unless line None x = on_ok line x
on_unless {A} line (Some cause) x = on_refused {A = A} line cause

on_returnless : (line : ℕ) (raw : List ℕ) (text : Option (List ℕ)) → IsOnLine line (returnless line raw text)
on_returnless line raw None = on_refused line Quote
on_returnless line raw (Some text) = on_if line (has Return raw) _ _ (on_refused line Unsupported) (on_ok line text)

on_quoted_text : (line : ℕ) (quote : QuoteKind) (text : List ℕ) → IsOnLine line (quoted_text line quote text)
on_quoted_text line quote text = on_returnless line (written quote text) (unquoted quote text)

on_by_numeral : (line : ℕ) (text : List ℕ) (x : Numeral) → IsOnLine line (by_numeral line text x)
on_by_numeral line text (Whole n) = on_ok line _
on_by_numeral line text Refused = on_refused line Number
on_by_numeral line text Other = on_unless line (plain_fault text) (plain_value text)

on_plain : (line : ℕ) (text : List ℕ) → IsOnLine line (plain line text)
on_plain line text = on_if line (may_begin text) _ _ (on_by_numeral line text (numeral text)) (on_refused line Unsupported)

on_closed_text : (line : ℕ) (may_follow : Bool) (text : List ℕ) → IsOnLine line (closed_text line may_follow text)
on_closed_text line may_follow text = on_if line may_follow _ _ (on_ok line _) (on_refused line Quote)

on_quoted_value : (line : ℕ) (quote : QuoteKind) (text : List ℕ) (may_follow : Bool) → IsOnLine line (quoted_value line quote text may_follow)
on_quoted_value line quote text may_follow =
    on_step line _ (closed_text line may_follow) (on_step line (quoted_text line quote text) (λ t. unless line (text_fault (length t) (length t) (length t)) t) (on_quoted_text line quote text) (λ t. on_unless line _ t)) (on_closed_text line may_follow)

on_item : (line : ℕ) (text : List ℕ) → IsOnLine line (item line text)
on_item line text =
    on_if line (begins_with 39 text) _ _ (on_quoted_value line Single (drop 1 text) _)
    (on_if line (begins_with 34 text) _ _ (on_quoted_value line Double (drop 1 text) _) (on_plain line (trimmed (take (item_size text) text))))

on_closed_list : (line : ℕ) (values : List Value) (text : List ℕ) → IsOnLine line (closed_list line values text)
on_closed_list line values text = on_if line (is_empty (after_spaces text)) _ _ (on_ok line _) (on_refused line Unsupported)

on_further : (others : List Value → List ℕ → Result FlowNode YamlFault) (line : ℕ) (before : List Value) (text : List ℕ)
    → ((values : List Value) (rest : List ℕ) → IsOnLine line (others values rest)) → IsOnLine line (next_items others line before text)
on_further others line before text h =
    on_if line (begins_with 93 text) _ _ (on_closed_list line before (drop 1 text))
    (on_if line (begins_with 44 text) _ _ (h before (after_spaces (drop 1 text))) (on_refused line Unsupported))

on_items : (n line : ℕ) (before : List Value) (text : List ℕ) → IsOnLine line (items n line before text)
unfolding items
on_items zero line before text = on_refused line Unsupported
on_items (suc n) line before text =
    on_step line (item line text) (λ value. next_items (items n line) line (before ++ value ∷ []) (after_item text)) (on_item line text)
    (λ value. on_further (items n line) line (before ++ value ∷ []) (after_item text) (on_items n line))

on_list : (levels line : ℕ) (text : List ℕ) → IsOnLine line (flow_list levels line text)
on_list levels line text =
    on_if line (is_empty text) _ _ (on_refused line Unsupported)
    (on_if line (begins_with 93 text) _ _ (on_closed_list line [] (drop 1 text))
    (on_if line (nat_lt levels 2) _ _ (on_refused line TooDeep) (on_items (length text) line [] text)))

on_scalar : (line : ℕ) (value : Value) → IsOnLine line (scalar value)
on_scalar line value = on_ok line _

on_quoted_node : (line : ℕ) (quote : QuoteKind) (text : List ℕ) → IsOnLine line (quoted_node line quote text)
on_quoted_node line quote text = on_step line _ scalar (on_quoted_value line quote text _) (on_scalar line)

on_plain_node : (line : ℕ) (text : List ℕ) → IsOnLine line (plain_node line text)
on_plain_node line text = on_step line _ scalar (on_plain line (plain_part text)) (on_scalar line)

on_map_node : (line : ℕ) (text : List ℕ) → IsOnLine line (flow_map line text)
on_map_node line text = on_if line (begins_with 125 text && is_empty (after_spaces (drop 1 text))) _ _ (on_ok line _) (on_refused line Unsupported)

-- each fault of what stands on one line
pub on_flow_node : (levels line : ℕ) (text : List ℕ) → IsOnLine line (flow_node levels line text)
on_flow_node levels line text =
    on_if line (begins_with 39 text) _ _ (on_quoted_node line Single (drop 1 text))
    (on_if line (begins_with 34 text) _ _ (on_quoted_node line Double (drop 1 text))
    (on_if line (begins_with 91 text) _ _ (on_list levels line (after_spaces (drop 1 text)))
    (on_if line (is_at Open text) _ _ (on_plain_node line text)
    (on_if line (begins_with 123 text) _ _ (on_map_node line (after_spaces (drop 1 text))) (on_plain_node line text)))))

on_quoted_key : (line : ℕ) (quote : QuoteKind) (text : List ℕ) → IsOnLine line (quoted_key line quote text)
on_quoted_key line quote text = on_step line (quoted_text line quote text) (λ t. unless line (text_fault (length t) (place Open t) (length t)) t) (on_quoted_text line quote text) (λ t. on_unless line _ t)

-- each fault of a key
pub on_key : (line : ℕ) (text : List ℕ) → IsOnLine line (key line text)
on_key line text =
    on_if line (begins_with 39 text) _ _ (on_quoted_key line Single (drop 1 text))
    (on_if line (begins_with 34 text) _ _ (on_quoted_key line Double (drop 1 text))
    (on_if line (may_begin text) _ _ (on_unless line _ text) (on_refused line Unsupported)))
