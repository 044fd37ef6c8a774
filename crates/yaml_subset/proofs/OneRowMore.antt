-- One line more at the end of a block: a fault stays, and a new one is told with that line's number.
use Rattle.std.proofs.Common.{◌≡◌, ℕ, zero, suc, Bool, true, false, not, cond, List, [], ◌∷◌, ◌++◌, refl, sym, ap, ◌∙◌}
use Rattle.std.specs.Prelude.{Option, None, Some, Result, Ok, Err, ◌==◌, if◌then◌else◌}
use Rattle.salt_value.specs.Readers.{◌>>=◌}
use Rattle.yaml_words.specs.declared.fault.YamlCause.TheVariants.{Indent, KeyTwice, TooDeep, Unsupported}
use Rattle.yaml_words.specs.declared.fault.YamlFault.{YamlFault}
use Rattle.yaml_words.specs.Faults.{IsOnLine, refused}
use Rattle.yaml_words.specs.Keys.{is_item, after_mark, split_key}
use Rattle.yaml_words.specs.FlowNodes.{flow_node}
use Rattle.yaml_words.proofs.FaultLines.{on_ok, on_refused, on_if, on_step, on_flow_node, on_key}
use Rattle.yaml_subset.specs.declared.tree.Yaml.{Yaml}
use Rattle.yaml_subset.specs.declared.tree.YamlPair.{YamlPair}
use Rattle.yaml_subset.specs.Keys.{has_key}
use Rattle.yaml_subset.specs.Rows.{IndentedLine, Entry, column_of, entries, onto_own, begins_item, begins_pair}
use Rattle.yaml_subset.specs.Blocks.{BlockReader, inline, closed, block_or_null, value_here, moved, keyed_item, item_value, item_of, is_later_start, key_or_fault, key_of, after_key, pair_value, pair_under, pair_keys, pair_of, items_of, pairs_of, list_of, map_of, block_of, block, most_yaml_levels}

-- what comes of a reading by one line more, which has this number
abbrev pub IsStep : {A : Type 0} → ℕ → Result A YamlFault → Result A YamlFault → Type 0
IsStep line (Ok x) new = IsOnLine line new
IsStep line (Err f) new = new ≡ Err f

pub step_same : {A : Type 0} (line : ℕ) (x : Result A YamlFault) → IsStep line x x
step_same line (Ok x) = on_ok line x
step_same line (Err f) = refl

pub step_if : {A : Type 0} (line : ℕ) (b : Bool) (x y s t : Result A YamlFault) → IsStep line x s → IsStep line y t → IsStep line (cond b x y) (cond b s t)
step_if line true x y s t h k = h
step_if line false x y s t h k = k

-- the same first, and then a step
pub step_after : {A B : Type 0} (line : ℕ) (x : Result A YamlFault) (f g : A → Result B YamlFault) → ((a : A) → IsStep line (f a) (g a)) → IsStep line (x >>= f) (x >>= g)
step_after line (Ok a) f g h = h a
step_after line (Err e) f g h = refl

failed : {A B : Type 0} (x : Result A YamlFault) (e : YamlFault) (g : A → Result B YamlFault) → x ≡ Err e → (x >>= g) ≡ Err e
failed x e g h = rw h refl

-- a step first, and then what never fails
pub step_total : {A B : Type 0} (line : ℕ) (x y : Result A YamlFault) (f : A → B) (g : A → Result B YamlFault) → IsStep line x y → ((a : A) → IsOnLine line (g a)) → IsStep line (x >>= λ a. Ok (f a)) (y >>= g)
step_total line (Ok a) y f g h k = on_step line y g h k
step_total line (Err e) y f g h k = failed y e g h

-- the entries of a block by one line more
abbrev pub with_row : (IndentedLine → Bool) → IndentedLine → List Entry → List Entry
with_row begins r [] = []
with_row begins r (e ∷ []) = if begins r then e ∷ record { head = r; own = [] } ∷ [] else record { head = e.head; own = e.own ++ r ∷ [] } ∷ []
with_row begins r (e ∷ next ∷ es) = e ∷ with_row begins r (next ∷ es)

onto_last : (begins : IndentedLine → Bool) (x r : IndentedLine) (e : Entry) (is : Bool) → begins r ≡ is → onto_own x (with_row begins r (e ∷ [])) ≡ with_row begins r (onto_own x (e ∷ []))
onto_last begins x r e true h = rw h refl
onto_last begins x r e false h = rw h refl

onto_row : (begins : IndentedLine → Bool) (x r : IndentedLine) (es : List Entry) → onto_own x (with_row begins r es) ≡ with_row begins r (onto_own x es)
onto_row begins x r [] = refl
onto_row begins x r (e ∷ []) = onto_last begins x r e (begins r) refl
onto_row begins x r (e ∷ next ∷ es) = refl

-- entries are never none
record HasFirst (es : List Entry) : Type 0 where
  entry : Entry
  others : List Entry
  is : es ≡ entry ∷ others

onto_first_entry : (x : IndentedLine) (es : List Entry) → HasFirst es → HasFirst (onto_own x es)
onto_first_entry x [] h = absurd (let no : ⊥ = cc in no)
onto_first_entry x (e ∷ es) h = record { entry = record { head = e.head; own = x ∷ e.own }; others = es; is = refl }

first_step : (begins : IndentedLine → Bool) (head x : IndentedLine) (xs : List IndentedLine) (is : Bool) → begins x ≡ is → HasFirst (entries begins head xs) → HasFirst (entries begins head (x ∷ xs))
first_step begins head x xs true e h = record { entry = record { head = head; own = [] }; others = entries begins x xs; is = rw e refl }
first_step begins head x xs false e h = let o = onto_first_entry x (entries begins head xs) h in record { entry = o.entry; others = o.others; is = rw e o.is }

has_first : (begins : IndentedLine → Bool) (head : IndentedLine) (rest : List IndentedLine) → HasFirst (entries begins head rest)
has_first begins head [] = record { entry = record { head = head; own = [] }; others = []; is = refl }
has_first begins head (x ∷ xs) = first_step begins head x xs (begins x) refl (has_first begins head xs)

row_after : (begins : IndentedLine → Bool) (r : IndentedLine) (e : Entry) (es : List Entry) → HasFirst es → with_row begins r (e ∷ es) ≡ e ∷ with_row begins r es
row_after begins r e es h = rw h.is refl

last_row : (begins : IndentedLine → Bool) (head r : IndentedLine) (is : Bool) → begins r ≡ is → entries begins head (r ∷ []) ≡ with_row begins r (record { head = head; own = [] } ∷ [])
last_row begins head r true e = rw e refl
last_row begins head r false e = rw e refl

more_step : (begins : IndentedLine → Bool) (head x r : IndentedLine) (xs : List IndentedLine) (is : Bool) → begins x ≡ is
    → entries begins x (xs ++ r ∷ []) ≡ with_row begins r (entries begins x xs) → entries begins head (xs ++ r ∷ []) ≡ with_row begins r (entries begins head xs)
    → entries begins head (x ∷ xs ++ r ∷ []) ≡ with_row begins r (entries begins head (x ∷ xs))
more_step begins head x r xs true e h k = rw e (ap (λ (t : List Entry). record { head = head; own = [] } ∷ t) h ∙ sym (row_after begins r (record { head = head; own = [] }) (entries begins x xs) (has_first begins x xs)))
more_step begins head x r xs false e h k = rw e (ap (onto_own x) k ∙ onto_row begins x r (entries begins head xs))

pub entries_more : (begins : IndentedLine → Bool) (head r : IndentedLine) (rest : List IndentedLine) → entries begins head (rest ++ r ∷ []) ≡ with_row begins r (entries begins head rest)
entries_more begins head r [] = last_row begins head r (begins r) refl
entries_more begins head r (x ∷ xs) = more_step begins head x r xs (begins x) refl (entries_more begins x r xs) (entries_more begins head r xs)

-- a reader of blocks that goes by lines: one line more is a step, and a block of one line is told at that line
pub record IsByLines (deeper : BlockReader) : Type 0 where
  pub step : (first : IndentedLine) (rest : List IndentedLine) (r : IndentedLine) → IsStep r.number (deeper first rest) (deeper first (rest ++ r ∷ []))
  pub single : (first : IndentedLine) → IsOnLine first.number (deeper first [])

pub on_inline : (levels line : ℕ) (text : List ℕ) → IsOnLine line (inline levels line text)
on_inline levels line text = on_step line (flow_node levels line text) _ (on_flow_node levels line text) (λ node. on_ok line _)

closed_step : {A : Type 0} (own : List IndentedLine) (r : IndentedLine) (x : A) → IsStep r.number (closed own x) (closed (own ++ r ∷ []) x)
closed_step {A} [] r x = on_refused {A = A} r.number Indent
closed_step (o ∷ own) r x = refl

pub value_here_step : (levels : ℕ) (head : IndentedLine) (text : List ℕ) (own : List IndentedLine) (r : IndentedLine) → IsStep r.number (value_here levels head text own) (value_here levels head text (own ++ r ∷ []))
value_here_step levels head text own r = step_after r.number (inline levels head.number text) (closed own) (closed (own ++ r ∷ [])) (λ x. closed_step own r x)

or_null_step : (deeper : BlockReader) → IsByLines deeper → (number : ℕ) (own : List IndentedLine) (r : IndentedLine) → IsStep r.number (block_or_null deeper number own) (block_or_null deeper number (own ++ r ∷ []))
or_null_step deeper h number [] r = h.single r
or_null_step deeper h number (o ∷ own) r = h.step o own r

keyed_item_step : (levels : ℕ) (deeper : BlockReader) → IsByLines deeper → (head : IndentedLine) (text : List ℕ) (own : List IndentedLine) (key : Option (List ℕ × List ℕ)) (r : IndentedLine)
    → IsStep r.number (keyed_item levels deeper head text own key) (keyed_item levels deeper head text (own ++ r ∷ []) key)
keyed_item_step levels deeper h head text own None r = value_here_step levels head text own r
keyed_item_step levels deeper h head text own (Some key) r = h.step (moved head text) own r

item_value_step : (levels : ℕ) (deeper : BlockReader) → IsByLines deeper → (head : IndentedLine) (text : List ℕ) (own : List IndentedLine) (r : IndentedLine)
    → IsStep r.number (item_value levels deeper head text own) (item_value levels deeper head text (own ++ r ∷ []))
item_value_step levels deeper h head [] own r = or_null_step deeper h head.number own r
item_value_step levels deeper h head (b ∷ bytes) own r =
    step_if r.number (is_item (b ∷ bytes)) _ _ _ _ (step_same r.number (refused {A = Yaml} head.number Unsupported)) (keyed_item_step levels deeper h head (b ∷ bytes) own (split_key (b ∷ bytes)) r)

abbrev more_own : Entry → IndentedLine → Entry
more_own e r = record { head = e.head; own = e.own ++ r ∷ [] }

abbrev alone : IndentedLine → Entry
alone r = record { head = r; own = [] }

item_step : (levels : ℕ) (deeper : BlockReader) → IsByLines deeper → (column : ℕ) (e : Entry) (r : IndentedLine) → IsStep r.number (item_of levels deeper column e) (item_of levels deeper column (more_own e r))
item_step levels deeper h column e r =
    step_if r.number (not (column_of e.head == column)) _ _ _ _ (step_same r.number (refused {A = Yaml} e.head.number Indent))
    (step_if r.number (not (is_item e.head.text)) _ _ _ _ (step_same r.number (refused {A = Yaml} e.head.number Indent))
    (step_if r.number (levels == 0) _ _ _ _ (step_same r.number (refused {A = Yaml} e.head.number TooDeep))
    (item_value_step levels deeper h e.head (after_mark e.head.text) e.own r)))

on_keyed_item : (levels : ℕ) (deeper : BlockReader) → IsByLines deeper → (head : IndentedLine) (text : List ℕ) (key : Option (List ℕ × List ℕ)) → IsOnLine head.number (keyed_item levels deeper head text [] key)
on_keyed_item levels deeper h head text None = on_step head.number (inline levels head.number text) (closed []) (on_inline levels head.number text) (λ x. on_ok head.number x)
on_keyed_item levels deeper h head text (Some key) = h.single (moved head text)

on_item_value : (levels : ℕ) (deeper : BlockReader) → IsByLines deeper → (head : IndentedLine) (text : List ℕ) → IsOnLine head.number (item_value levels deeper head text [])
on_item_value levels deeper h head [] = on_ok head.number _
on_item_value levels deeper h head (b ∷ bytes) =
    on_if head.number (is_item (b ∷ bytes)) _ _ (on_refused head.number Unsupported) (on_keyed_item levels deeper h head (b ∷ bytes) (split_key (b ∷ bytes)))

on_item : (levels : ℕ) (deeper : BlockReader) → IsByLines deeper → (column : ℕ) (r : IndentedLine) → IsOnLine r.number (item_of levels deeper column (alone r))
on_item levels deeper h column r =
    on_if r.number (not (column_of r == column)) _ _ (on_refused r.number Indent)
    (on_if r.number (not (is_item r.text)) _ _ (on_refused r.number Indent)
    (on_if r.number (levels == 0) _ _ (on_refused r.number TooDeep) (on_item_value levels deeper h r (after_mark r.text))))

pair_value_step : (levels : ℕ) (deeper : BlockReader) → IsByLines deeper → (head : IndentedLine) (text : List ℕ) (own : List IndentedLine) (r : IndentedLine)
    → IsStep r.number (pair_value levels deeper head text own) (pair_value levels deeper head text (own ++ r ∷ []))
pair_value_step levels deeper h head [] own r = or_null_step deeper h head.number own r
pair_value_step levels deeper h head (b ∷ bytes) own r = value_here_step levels head (b ∷ bytes) own r

pair_under_step : (levels : ℕ) (deeper : BlockReader) → IsByLines deeper → (twice : Bool) (e : Entry) (key : List ℕ) (r : IndentedLine)
    → IsStep r.number (pair_under levels deeper twice e key) (pair_under levels deeper twice (more_own e r) key)
pair_under_step levels deeper h twice e key r =
    step_if r.number twice _ _ _ _ (step_same r.number (refused {A = YamlPair} e.head.number KeyTwice))
    (step_if r.number (levels == 0) _ _ _ _ (step_same r.number (refused {A = YamlPair} e.head.number TooDeep))
    (step_total r.number _ _ _ _ (pair_value_step levels deeper h e.head (after_key (split_key e.head.text)) e.own r) (λ value. on_ok r.number _)))

pair_step : (levels : ℕ) (deeper : BlockReader) → IsByLines deeper → (column : ℕ) (keys : List (List ℕ)) (e : Entry) (r : IndentedLine)
    → IsStep r.number (pair_of levels deeper column keys e) (pair_of levels deeper column keys (more_own e r))
pair_step levels deeper h column keys e r =
    step_after r.number (key_of column e.head) _ _ (λ key. pair_under_step levels deeper h (has_key keys key) e key r)

on_key_or_fault : (head : IndentedLine) (key : Option (List ℕ × List ℕ)) → IsOnLine head.number (key_or_fault head key)
on_key_or_fault head None =
    on_if head.number (is_later_start head) _ _ (on_refused head.number Unsupported)
    (on_step head.number (flow_node most_yaml_levels head.number head.text) _ (on_flow_node most_yaml_levels head.number head.text) (λ node. on_refused head.number Indent))
on_key_or_fault head (Some k) = on_key head.number k.0

on_pair_value : (levels : ℕ) (deeper : BlockReader) (head : IndentedLine) (text : List ℕ) → IsOnLine head.number (pair_value levels deeper head text [])
on_pair_value levels deeper head [] = on_ok head.number _
on_pair_value levels deeper head (b ∷ bytes) = on_step head.number (inline levels head.number (b ∷ bytes)) (closed []) (on_inline levels head.number (b ∷ bytes)) (λ x. on_ok head.number x)

on_pair_under : (levels : ℕ) (deeper : BlockReader) (twice : Bool) (r : IndentedLine) (key : List ℕ) → IsOnLine r.number (pair_under levels deeper twice (alone r) key)
on_pair_under levels deeper twice r key =
    on_if r.number twice _ _ (on_refused r.number KeyTwice)
    (on_if r.number (levels == 0) _ _ (on_refused r.number TooDeep)
    (on_step r.number (pair_value levels deeper r (after_key (split_key r.text)) []) _ (on_pair_value levels deeper r (after_key (split_key r.text))) (λ value. on_ok r.number _)))

on_pair : (levels : ℕ) (deeper : BlockReader) (column : ℕ) (keys : List (List ℕ)) (r : IndentedLine) → IsOnLine r.number (pair_of levels deeper column keys (alone r))
on_pair levels deeper column keys r =
    on_step r.number (key_of column r) _ (on_if r.number (not (column_of r == column)) _ _ (on_refused r.number Indent) (on_key_or_fault r (split_key r.text)))
    (λ key. on_pair_under levels deeper (has_key keys key) r key)

last_item : (levels : ℕ) (deeper : BlockReader) → IsByLines deeper → (column : ℕ) (begins : IndentedLine → Bool) (r : IndentedLine) (before : List Yaml) (e : Entry) (is : Bool) → begins r ≡ is
    → IsStep r.number (items_of levels deeper column before (e ∷ [])) (items_of levels deeper column before (with_row begins r (e ∷ [])))
last_item levels deeper h column begins r before e true is =
    rw is (step_after r.number (item_of levels deeper column e) _ _ (λ item. on_step r.number (item_of levels deeper column (alone r)) _ (on_item levels deeper h column r) (λ x. on_ok r.number _)))
last_item levels deeper h column begins r before e false is =
    rw is (step_total r.number _ _ _ _ (item_step levels deeper h column e r) (λ x. on_ok r.number _))

items_step : (levels : ℕ) (deeper : BlockReader) → IsByLines deeper → (column : ℕ) (begins : IndentedLine → Bool) (r : IndentedLine) (before : List Yaml) (es : List Entry)
    → IsStep r.number (items_of levels deeper column before es) (items_of levels deeper column before (with_row begins r es))
items_step levels deeper h column begins r before [] = on_ok r.number before
items_step levels deeper h column begins r before (e ∷ []) = last_item levels deeper h column begins r before e (begins r) refl
items_step levels deeper h column begins r before (e ∷ next ∷ es) =
    step_after r.number (item_of levels deeper column e) _ _ (λ item. items_step levels deeper h column begins r (before ++ item ∷ []) (next ∷ es))

last_pair : (levels : ℕ) (deeper : BlockReader) → IsByLines deeper → (column : ℕ) (begins : IndentedLine → Bool) (r : IndentedLine) (before : List YamlPair) (e : Entry) (is : Bool) → begins r ≡ is
    → IsStep r.number (pairs_of levels deeper column before (e ∷ [])) (pairs_of levels deeper column before (with_row begins r (e ∷ [])))
last_pair levels deeper h column begins r before e true is =
    rw is (step_after r.number (pair_of levels deeper column (pair_keys before) e) _ _ (λ pair. on_step r.number (pair_of levels deeper column (pair_keys (before ++ pair ∷ [])) (alone r)) _ (on_pair levels deeper column (pair_keys (before ++ pair ∷ [])) r) (λ x. on_ok r.number _)))
last_pair levels deeper h column begins r before e false is =
    rw is (step_total r.number _ _ _ _ (pair_step levels deeper h column (pair_keys before) e r) (λ x. on_ok r.number _))

pairs_step : (levels : ℕ) (deeper : BlockReader) → IsByLines deeper → (column : ℕ) (begins : IndentedLine → Bool) (r : IndentedLine) (before : List YamlPair) (es : List Entry)
    → IsStep r.number (pairs_of levels deeper column before es) (pairs_of levels deeper column before (with_row begins r es))
pairs_step levels deeper h column begins r before [] = on_ok r.number before
pairs_step levels deeper h column begins r before (e ∷ []) = last_pair levels deeper h column begins r before e (begins r) refl
pairs_step levels deeper h column begins r before (e ∷ next ∷ es) =
    step_after r.number (pair_of levels deeper column (pair_keys before) e) _ _ (λ pair. pairs_step levels deeper h column begins r (before ++ pair ∷ []) (next ∷ es))

list_step : (levels : ℕ) (deeper : BlockReader) → IsByLines deeper → (first : IndentedLine) (rest : List IndentedLine) (r : IndentedLine) → IsStep r.number (list_of levels deeper first rest) (list_of levels deeper first (rest ++ r ∷ []))
list_step levels deeper h first rest r =
    rw (entries_more (begins_item (column_of first)) first r rest)
    (step_total r.number _ _ _ _ (items_step levels deeper h (column_of first) (begins_item (column_of first)) r [] (entries (begins_item (column_of first)) first rest)) (λ x. on_ok r.number _))

map_step : (levels : ℕ) (deeper : BlockReader) → IsByLines deeper → (first : IndentedLine) (rest : List IndentedLine) (r : IndentedLine) → IsStep r.number (map_of levels deeper first rest) (map_of levels deeper first (rest ++ r ∷ []))
map_step levels deeper h first rest r =
    rw (entries_more (begins_pair (column_of first)) first r rest)
    (step_total r.number _ _ _ _ (pairs_step levels deeper h (column_of first) (begins_pair (column_of first)) r [] (entries (begins_pair (column_of first)) first rest)) (λ x. on_ok r.number _))

on_list : (levels : ℕ) (deeper : BlockReader) → IsByLines deeper → (first : IndentedLine) → IsOnLine first.number (list_of levels deeper first [])
on_list levels deeper h first =
    on_step first.number (items_of levels deeper (column_of first) [] (alone first ∷ [])) _
    (on_step first.number (item_of levels deeper (column_of first) (alone first)) _ (on_item levels deeper h (column_of first) first) (λ x. on_ok first.number _)) (λ x. on_ok first.number _)

on_map : (levels : ℕ) (deeper : BlockReader) (first : IndentedLine) → IsOnLine first.number (map_of levels deeper first [])
on_map levels deeper first =
    on_step first.number (pairs_of levels deeper (column_of first) [] (alone first ∷ [])) _
    (on_step first.number (pair_of levels deeper (column_of first) [] (alone first)) _ (on_pair levels deeper (column_of first) [] first) (λ x. on_ok first.number _)) (λ x. on_ok first.number _)

block_of_lines : (levels : ℕ) (deeper : BlockReader) → IsByLines deeper → IsByLines (block_of levels deeper)
block_of_lines levels deeper h = record {
  step = λ first rest r. step_if r.number (is_item first.text) _ _ _ _ (list_step levels deeper h first rest r) (map_step levels deeper h first rest r);
  single = λ first. on_if first.number (is_item first.text) _ _ (on_list levels deeper h first) (on_map levels deeper first);
}

-- blocks of so many levels go by lines
pub block_lines : (levels : ℕ) → IsByLines (block levels)
unfolding block
block_lines zero = record { step = λ first rest r. refl; single = λ first. on_refused first.number TooDeep }
block_lines (suc levels) = let h = block_of_lines levels (block levels) (block_lines levels) in record { step = h.step; single = h.single }
