-- A value that fits is read back from its JSON text, and what was read is written back as its compact text.
use Rattle.std.proofs.Common.{◌≡◌, ◌≤◌, ℕ, ℤ, pos, negsuc, Bool, true, false, ◌&&◌, ◌||◌, List, [], ◌∷◌, length, map, Option, Some, None, Result, Ok, Err, refl, sym, ap, subst, ◌∙◌, arith}
use Rattle.std.specs.Prelude.{IfOk, nat_lt, nat_le, unwrap_or, if◌then◌else◌}
use Rattle.std.proofs.lemmas.Bool.{le-leb}
use Rattle.serde_json.specs.Data.{Num, unsigned, negative, float, Data, null, boolean, number, string, array, object, Items, no_items, item, Members, no_members, member, depth as levels, items_depth, members_depth}
use Rattle.serde_json.specs.Find.{of_integer, as_i64, is_float}
use Rattle.serde_json.specs.View.{items_of}
use Rattle.serde_json.specs.Read.{read, max_depth}
use Rattle.serde_json.specs.Written.{compact_text, items_text, members_text, number_text, has_float, items_have_float, members_have_float}
use Rattle.salt_value.specs.declared.value.Value.{Value, roll-Value, fold-roll-Value}
use Rattle.salt_value.specs.declared.value.Value.TheFolds.{ind-Value, map-Value}
use Rattle.salt_value.specs.declared.value.Value.TheOpen.{Value-F}
use Rattle.salt_value.specs.declared.value.Value.TheVariants as v
use Rattle.salt_value.specs.declared.value.Value.TheVariants.{rolls-Null, rolls-Flag, rolls-Int, rolls-Str, rolls-List, rolls-Map}
use Rattle.salt_value.specs.WellFormed.{ValueFits, depth, greatest, well_formed, well_formed_layer, every, every_pair, is_int, is_count, is_text}
use Rattle.salt_value.specs.Keys.{keys_of, ascends}
use Rattle.salt_value.proofs.ReadBack.{depth-List, depth-Map, well_formed-List, well_formed-Map}
use Rattle.salt_value.proofs.WriteLemmas.{both_true, pairs_told}
use Rattle.value_json.specs.Texts.{data_of, data_layer, data_pairs, members_from, json_text, value_of, values_of, member_pairs}
use Rattle.value_json.specs.Causes.{is_wide, has_wide, items_have_wide, members_have_wide}
use Rattle.value_json.specs.Whole.{json_value, value_or_cause, value_or_fault, value_or_limit, IsWrittenBack}
use Rattle.salt_value.specs.FitTest.{fits}
use Rattle.value_json.specs.declared.parsing.JsonFault.{JsonFault}
use Rattle.value_json.specs.declared.parsing.JsonFault.TheVariants.{TooDeep, TooLarge}
use Rattle.value_json.proofs.Trees.{data-Map}

-- ---- the data of each kind of value

data-Null : data_of v.Null ≡ null
data-Null = ap data_of (sym rolls-Null) ∙ fold-roll-Value Data data_layer Value-F.Null

data-Flag : (b : Bool) → data_of (v.Flag b) ≡ boolean b
data-Flag b = ap data_of (sym (rolls-Flag b)) ∙ fold-roll-Value Data data_layer (Value-F.Flag b)

data-Int : (z : ℤ) → data_of (v.Int z) ≡ number (of_integer z)
data-Int z = ap data_of (sym (rolls-Int z)) ∙ fold-roll-Value Data data_layer (Value-F.Int z)

data-Str : (t : List ℕ) → data_of (v.Str t) ≡ string t
data-Str t = ap data_of (sym (rolls-Str t)) ∙ fold-roll-Value Data data_layer (Value-F.Str t)

data-List : (xs : List Value) → data_of (v.List xs) ≡ array (items_of (map data_of xs))
data-List xs = ap data_of (sym (rolls-List xs)) ∙ fold-roll-Value Data data_layer (Value-F.List xs)

-- ---- a value is the value of its data

-- what is shown of a value by induction
record IsBack (w : Value) : Type 0 where
  levels : levels (data_of w) ≤ depth w
  back : well_formed w ≡ true → value_of (data_of w) ≡ w
  narrow : well_formed w ≡ true → has_wide (data_of w) ≡ false

abbrev firsts : List ((w : Value) × IsBack w) → List Value
firsts es = map (λ e. e.0) es

abbrev Known : Type 0
Known = List ℕ × ((w : Value) × IsBack w)

abbrev pairs_firsts : List Known → List (List ℕ × Value)
pairs_firsts es = map (λ e. (e.0, e.1.0)) es

or_false : (a b : Bool) → a ≡ false → b ≡ false → (a || b) ≡ false
or_false false b p q = q
or_false true b p q = absurd cc

either_false : (a b : Bool) → (a || b) ≡ false → (a ≡ false) × (b ≡ false)
either_false false b e = (refl, e)
either_false true b e = absurd cc

items_levels : (es : List ((w : Value) × IsBack w)) → items_depth (items_of (map data_of (firsts es))) ≤ greatest (map depth (firsts es))
items_levels [] = omega arith
items_levels (e ∷ es) = omega (arith, e.1.levels, items_levels es)

items_back : (es : List ((w : Value) × IsBack w)) → every (map well_formed (firsts es)) ≡ true → values_of (items_of (map data_of (firsts es))) ≡ firsts es
items_back [] h = refl
items_back (e ∷ es) h =
    let s = both_true (well_formed e.0) (every (map well_formed (firsts es))) h in
    rw (e.1.back s.0) (ap (λ l. e.0 ∷ l) (items_back es s.1))

items_narrow : (es : List ((w : Value) × IsBack w)) → every (map well_formed (firsts es)) ≡ true → items_have_wide (items_of (map data_of (firsts es))) ≡ false
items_narrow [] h = refl
items_narrow (e ∷ es) h =
    let s = both_true (well_formed e.0) (every (map well_formed (firsts es))) h in
    or_false (has_wide (data_of e.0)) (items_have_wide (items_of (map data_of (firsts es)))) (e.1.narrow s.0) (items_narrow es s.1)

pairs_levels : (es : List Known) → members_depth (members_from (data_pairs (pairs_firsts es))) ≤ greatest (map (λ p. depth p.1) (pairs_firsts es))
pairs_levels [] = omega arith
pairs_levels (e ∷ es) = omega (arith, e.1.1.levels, pairs_levels es)

pair_well : (e : Known) (es : List Known) → every_pair (pairs_told (pairs_firsts (e ∷ es))) ≡ true
    → (well_formed e.1.0 ≡ true) × (every_pair (pairs_told (pairs_firsts es)) ≡ true)
pair_well e es h =
    let s = both_true (is_text e.0) (well_formed e.1.0 && every_pair (pairs_told (pairs_firsts es))) h in
    both_true (well_formed e.1.0) (every_pair (pairs_told (pairs_firsts es))) s.1

pairs_back : (es : List Known) → every_pair (pairs_told (pairs_firsts es)) ≡ true → member_pairs (members_from (data_pairs (pairs_firsts es))) ≡ pairs_firsts es
pairs_back [] h = refl
pairs_back (e ∷ es) h =
    let s = pair_well e es h in
    rw (e.1.1.back s.0) (ap (λ l. (e.0, e.1.0) ∷ l) (pairs_back es s.1))

pairs_narrow : (es : List Known) → every_pair (pairs_told (pairs_firsts es)) ≡ true → members_have_wide (members_from (data_pairs (pairs_firsts es))) ≡ false
pairs_narrow [] h = refl
pairs_narrow (e ∷ es) h =
    let s = pair_well e es h in
    or_false (has_wide (data_of e.1.0)) (members_have_wide (members_from (data_pairs (pairs_firsts es)))) (e.1.1.narrow s.0) (pairs_narrow es s.1)

-- a whole number of 64 bits is kept
int_back : (z : ℤ) → is_int z ≡ true → as_i64 (of_integer z) ≡ Some z
int_back (pos n) h = rw h refl
int_back (negsuc n) h = refl

int_narrow : (z : ℤ) → is_int z ≡ true → is_wide (of_integer z) ≡ false
int_narrow (pos n) h = rw h refl
int_narrow (negsuc n) h = refl

null_back : IsBack v.Null
null_back = record { levels = rw data-Null (omega arith); back = λ h. ap value_of data-Null; narrow = λ h. ap has_wide data-Null }

flag_back : (b : Bool) → IsBack (v.Flag b)
flag_back b = record { levels = rw (data-Flag b) (omega arith); back = λ h. ap value_of (data-Flag b); narrow = λ h. ap has_wide (data-Flag b) }

str_back : (t : List ℕ) → IsBack (v.Str t)
str_back t = record { levels = rw (data-Str t) (omega arith); back = λ h. ap value_of (data-Str t); narrow = λ h. ap has_wide (data-Str t) }

well_formed-Int : (z : ℤ) → well_formed (v.Int z) ≡ is_int z
well_formed-Int z = ap well_formed (sym (rolls-Int z)) ∙ fold-roll-Value Bool well_formed_layer (Value-F.Int z)

number_back : (z : ℤ) → IsBack (v.Int z)
number_back z = record {
  levels = rw (data-Int z) (omega arith);
  back = λ h. ap value_of (data-Int z) ∙ ap (λ o. v.Int (unwrap_or o (pos 0))) (int_back z (sym (well_formed-Int z) ∙ h));
  narrow = λ h. ap has_wide (data-Int z) ∙ int_narrow z (sym (well_formed-Int z) ∙ h);
}

list_back : (es : List ((w : Value) × IsBack w)) → IsBack (v.List (firsts es))
list_back es =
    let told = data-List (firsts es) in
    let deep = depth-List (firsts es) in
    let below = items_levels es in
    let well = λ (h : well_formed (v.List (firsts es)) ≡ true). (both_true (is_count (length (firsts es))) (every (map well_formed (firsts es))) (sym (well_formed-List (firsts es)) ∙ h)).1 in
    record {
      levels = rw (told, deep) (omega (arith, below));
      back = λ h. ap value_of told ∙ ap (λ xs. v.List xs) (items_back es (well h));
      narrow = λ h. ap has_wide told ∙ items_narrow es (well h);
    }

map_back : (es : List Known) → IsBack (v.Map (pairs_firsts es))
map_back es =
    let told = data-Map (pairs_firsts es) in
    let deep = depth-Map (pairs_firsts es) in
    let below = pairs_levels es in
    let well = λ (h : well_formed (v.Map (pairs_firsts es)) ≡ true).
    (both_true (every_pair (pairs_told (pairs_firsts es))) (ascends (keys_of (pairs_firsts es)))
    (both_true (is_count (length (pairs_firsts es))) (every_pair (pairs_told (pairs_firsts es)) && ascends (keys_of (pairs_firsts es))) (sym (well_formed-Map (pairs_firsts es)) ∙ h)).1).0 in
    record {
      levels = rw (told, deep) (omega (arith, below));
      back = λ h. ap value_of told ∙ ap (λ ps. v.Map ps) (pairs_back es (well h));
      narrow = λ h. ap has_wide told ∙ pairs_narrow es (well h);
    }

layer_back : (y : Value-F ((w : Value) × IsBack w)) → IsBack (roll-Value (map-Value _ _ (λ e. e.0) y))
layer_back Value-F.Null = subst IsBack (sym rolls-Null) null_back
layer_back (Value-F.Flag b) = subst IsBack (sym (rolls-Flag b)) (flag_back b)
layer_back (Value-F.Int z) = subst IsBack (sym (rolls-Int z)) (number_back z)
layer_back (Value-F.Str t) = subst IsBack (sym (rolls-Str t)) (str_back t)
layer_back (Value-F.List es) = subst IsBack (sym (rolls-List (firsts es))) (list_back es)
layer_back (Value-F.Map es) = subst IsBack (sym (rolls-Map (pairs_firsts es))) (map_back es)

is_back : (w : Value) → IsBack w
is_back = ind-Value IsBack (λ x y is. subst (λ z. IsBack (roll-Value z)) is (layer_back y))

-- its levels as JSON are at most its depth
pub data_levels : (w : Value) → ValueFits w → levels (data_of w) ≤ max_depth
data_levels w h = let l = (is_back w).levels in let d = h.deep in omega arith

-- a text that is read as the data of a value that fits has that value
pub read_back : (w : Value) (text : List ℕ) → ValueFits w → has_float (data_of w) ≡ false → read text ≡ Some (data_of w) → json_value text ≡ Ok w
read_back w text h whole e =
    let b = is_back w in
    ap value_or_cause e ∙ rw (whole, b.narrow h.well_formed, b.back h.well_formed, le-leb _ _ h.deep, le-leb _ _ h.long, h.well_formed) refl

-- ---- data is written back

unsigned_written : (n : ℕ) (t : Bool) → nat_lt n 9223372036854775808 ≡ t → is_wide (unsigned n) ≡ false → number_text (of_integer (unwrap_or (as_i64 (unsigned n)) (pos 0))) ≡ number_text (unsigned n)
unsigned_written n true e w = rw e refl
unsigned_written n false e w = absurd (let g = rw e at w in cc)

number_written : (n : Num) → is_float n ≡ false → is_wide n ≡ false → number_text (of_integer (unwrap_or (as_i64 n) (pos 0))) ≡ number_text n
number_written (unsigned n) f w = unsigned_written n (nat_lt n 9223372036854775808) refl w
number_written (negative (pos n)) f w = refl
number_written (negative (negsuc n)) f w = refl
number_written (float x) f w = absurd cc

mutual
  pub written : (d : Data) → has_float d ≡ false → has_wide d ≡ false → compact_text (data_of (value_of d)) ≡ compact_text d
  written null f w = ap compact_text data-Null
  written (boolean b) f w = ap compact_text (data-Flag b)
  written (number n) f w = ap compact_text (data-Int (unwrap_or (as_i64 n) (pos 0))) ∙ number_written n f w
  written (string s) f w = ap compact_text (data-Str s)
  written (array ds) f w = ap compact_text (data-List (values_of ds)) ∙ ap (λ t. 91 ∷ t) (items_written false ds f w)
  written (object ms) f w = ap compact_text (data-Map (member_pairs ms)) ∙ ap (λ t. 123 ∷ t) (members_written false ms f w)

  items_written : (later : Bool) (ds : Items) → items_have_float ds ≡ false → items_have_wide ds ≡ false → items_text later (items_of (map data_of (values_of ds))) ≡ items_text later ds
  items_written later no_items f w = refl
  items_written later (item d ds) f w =
      let a = either_false (has_float d) (items_have_float ds) f in
      let b = either_false (has_wide d) (items_have_wide ds) w in
      rw (written d a.0 b.0, items_written true ds a.1 b.1) refl

  members_written : (later : Bool) (ms : Members) → members_have_float ms ≡ false → members_have_wide ms ≡ false → members_text later (members_from (data_pairs (member_pairs ms))) ≡ members_text later ms
  members_written later no_members f w = refl
  members_written later (member k d ms) f w =
      let a = either_false (has_float d) (members_have_float ms) f in
      let b = either_false (has_wide d) (members_have_wide ms) w in
      rw (written d a.0 b.0, members_written true ms a.1 b.1) refl

-- ---- what is read is written back

chosen : (w x : Value) (t u : Bool) → (if t then (if u then Ok w else Err TooLarge) else Err TooDeep) ≡ Ok x → w ≡ x
chosen w x true true h = cc
chosen w x true false h = absurd cc
chosen w x false u h = absurd cc

within : (w x : Value) → value_or_limit w ≡ Ok x → w ≡ x
within w x h = chosen w x (nat_le (depth w) 32) (fits w) h

by_data : (d : Data) (x : Value) (t u : Bool) → has_float d ≡ t → has_wide d ≡ u → value_or_fault d ≡ Ok x → json_text x ≡ compact_text d
by_data d x true u e f h = absurd (let g = rw e at h in cc)
by_data d x false true e f h = absurd (let g = rw (e, f) at h in cc)
by_data d x false false e f h =
    let same : value_of d ≡ x = within (value_of d) x (let g = rw (e, f) at h in g) in
    ap json_text (sym same) ∙ written d e f

by_read : (text : List ℕ) (x : Value) (o : Option Data) → read text ≡ o → value_or_cause o ≡ Ok x → IsWrittenBack text x
by_read text x None e h = absurd cc
by_read text x (Some d) e h = (d, e, by_data d x (has_float d) (has_wide d) refl refl h)

pub is_written : (text : List ℕ) (x : Value) → json_value text ≡ Ok x → IsWrittenBack text x
is_written text x h = by_read text x (read text) refl h

pub all_written : (text : List ℕ) (r : Result Value JsonFault) → IfOk r (λ x. json_value text ≡ Ok x) → IfOk r (IsWrittenBack text)
all_written text (Ok x) h = is_written text x h
all_written text (Err e) h = tt
