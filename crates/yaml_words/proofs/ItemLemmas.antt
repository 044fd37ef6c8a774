-- The items of a list, one after the other.
use Rattle.std.proofs.Common.{◌≡◌, ℕ, zero, suc, ◌-◌, ◌≤◌, List, [], ◌∷◌, ◌++◌, length, drop, refl, sym, ap, subst, ◌∙◌, arith}
use Rattle.std.specs.Prelude.{true, false, Result, Ok, Err, IsErrAnd}
use Rattle.salt_value.specs.declared.value.Value.{Value}
use Rattle.yaml_words.specs.declared.fault.YamlCause.TheVariants.{Unsupported}
use Rattle.yaml_words.specs.declared.fault.YamlFault.{YamlFault}
use Rattle.yaml_words.specs.declared.fault.YamlFault.TheVariants.{NoMemory, Line}
use Rattle.yaml_words.specs.declared.flow.FlowNode.{FlowNode}
use Rattle.salt_value.specs.Readers.{◌>>=◌}
use Rattle.yaml_words.specs.Faults.{refused, GivesYaml, FailsYaml}
use Rattle.yaml_words.specs.Places.{begins_with}
use Rattle.yaml_words.specs.Spaces.{after_spaces}
use Rattle.yaml_words.specs.Lists.{items, item, after_item, next_items, closed_list}

one_step : (n line : ℕ) (before : List Value) (text : List ℕ) → items (suc n) line before text ≡ (item line text >>= λ value. next_items (items n line) line (before ++ value ∷ []) (after_item text))
unfolding items
one_step n line before text = refl

no_step : (line : ℕ) (before : List Value) (text : List ℕ) → items zero line before text ≡ refused line Unsupported
unfolding items
no_step line before text = refl

no_item : (line : ℕ) (before : List Value) (f : YamlFault) → item line [] ≡ Err f → items zero line before [] ≡ Err f
no_item line before f e = let s : Line line Unsupported ≡ f = cc in no_step line before [] ∙ ap (λ (x : YamlFault). Err x) s

-- an item that has a fault
pub items_fault : (n line : ℕ) (before : List Value) (text : List ℕ) (f : YamlFault) → length text ≤ n → item line text ≡ Err f → items n line before text ≡ Err f
items_fault zero line before [] f h e = no_item line before f e
items_fault zero line before (b ∷ bytes) f h e = absurd (omega arith)
items_fault (suc n) line before text f h e = one_step n line before text ∙ rw e refl

-- an item that is read
pub items_value : (n line : ℕ) (before : List Value) (text : List ℕ) (value : Value) → length text ≤ n → item line text ≡ Ok value
    → items n line before text ≡ next_items (items (n - 1) line) line (before ++ value ∷ []) (after_item text)
items_value zero line before [] value h e = cc
items_value zero line before (b ∷ bytes) value h e = absurd (omega arith)
items_value (suc n) line before text value h e =
    let s : suc n - 1 ≡ n = omega arith in
    one_step n line before text ∙ rw (e, s) refl

-- a fault that is handed on
pub handed : {A : Type 0} (r : Result A YamlFault) (f : YamlFault) (P : Result A YamlFault → Type 0) → IsErrAnd r (λ e. e ≡ f) → P (Err f) → P r
handed (Ok x) f P h p = absurd h
handed (Err e) f P h p = subst (λ (x : YamlFault). P (Err x)) (sym h) p

pub given : {A : Type 0} (r x y : Result A YamlFault) → x ≡ y → GivesYaml r x → GivesYaml r y
given {A} r x y e h = subst (λ (z : Result A YamlFault). GivesYaml r z) e h

pub failed : {A : Type 0} (f g : YamlFault) (x y : Result A YamlFault) → f ≡ g → x ≡ y → FailsYaml g x → FailsYaml f y
failed {A} f g x y e s h = subst (λ (z : Result A YamlFault). FailsYaml f z) s (subst (λ (k : YamlFault). FailsYaml {A = A} k x) (sym e) h)

-- the fault of an item is that of the list
pub fault_kept : (f : YamlFault) (n line : ℕ) (before : List Value) (text : List ℕ) (to : Result FlowNode YamlFault)
    → items n line before text ≡ to → length text ≤ n → FailsYaml {A = Value} f (item line text) → FailsYaml {A = FlowNode} f to
fault_kept NoMemory n line before text to e h k = tt
fault_kept (Line l cause) n line before text to e h k = sym e ∙ items_fault n line before text (Line l cause) h k

read_item : (n line : ℕ) (before now : List Value) (text after : List ℕ) (value : Value) (to : Result FlowNode YamlFault)
    → items n line before text ≡ to → length text ≤ n → item line text ≡ Ok value → after ≡ after_item text → now ≡ before ++ value ∷ []
    → next_items (items (n - 1) line) line now after ≡ to
read_item n line before now text after value to e h k a b = rw (b, a) (sym (items_value n line before text value h k) ∙ e)

-- the bracket after an item
pub list_ends : (n line : ℕ) (before now : List Value) (text after tail : List ℕ) (value : Value) (to : Result FlowNode YamlFault)
    → items n line before text ≡ to → length text ≤ n → item line text ≡ Ok value → after ≡ after_item text → now ≡ before ++ value ∷ []
    → begins_with 93 after ≡ true → tail ≡ drop 1 after → closed_list line now tail ≡ to
list_ends n line before now text after tail value to e h k a b t d = rw d (rw t at (read_item n line before now text after value to e h k a b))

-- the comma after an item
pub list_goes_on : (m n line : ℕ) (before now : List Value) (text after more rest : List ℕ) (value : Value) (to : Result FlowNode YamlFault)
    → items n line before text ≡ to → length text ≤ n → item line text ≡ Ok value → after ≡ after_item text → now ≡ before ++ value ∷ []
    → begins_with 93 after ≡ false → begins_with 44 after ≡ true → more ≡ drop 1 after → rest ≡ after_spaces more → m ≡ n - 1 → items m line now rest ≡ to
list_goes_on m n line before now text after more rest value to e h k a b f t d s q =
    rw (q, s, d) (rw (f, t) at (read_item n line before now text after value to e h k a b))

-- another byte after an item, or none
pub list_breaks : (n line : ℕ) (before now : List Value) (text after : List ℕ) (value : Value) (to : Result FlowNode YamlFault)
    → items n line before text ≡ to → length text ≤ n → item line text ≡ Ok value → after ≡ after_item text → now ≡ before ++ value ∷ []
    → begins_with 93 after ≡ false → begins_with 44 after ≡ false → to ≡ Err (Line line Unsupported)
list_breaks n line before now text after value to e h k a b f t = sym (rw (f, t) at (read_item n line before now text after value to e h k a b))
