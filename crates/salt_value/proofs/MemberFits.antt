-- Values within the limits: texts, the empty map, and the members of a list.
use Rattle.std.proofs.Common.{◌≡◌, ◌≤◌, ◌<◌, ◌^◌, ℕ, suc, Bool, true, List, [], ◌∷◌, length, map, sym, ap, ◌∙◌, arith, length-append}
use Rattle.std.specs.Str.{is_utf8}
use Rattle.std.specs.Int.{w32, to_be_bytes}
use Rattle.salt_value.specs.declared.value.Value.{Value, fold-roll-Value}
use Rattle.salt_value.specs.declared.value.Value.TheVariants as v
use Rattle.salt_value.specs.declared.value.Value.TheVariants.{rolls-Str}
use Rattle.salt_value.specs.declared.value.Value.TheOpen.{Value-F}
use Rattle.salt_value.specs.Spelling.{bytes, spelling_layer, text, concatenation}
use Rattle.salt_value.specs.WellFormed.{ValueFits, depth, depth_layer, well_formed, well_formed_layer, is_count, is_text, every}
use Rattle.salt_value.proofs.ByteFields.{both, is_count_of, count_of_is, wide32}
use Rattle.salt_value.proofs.WriteLemmas.{both_true}
use Rattle.salt_value.proofs.ReadBack.{bytes-List, well_formed-List, depth-List, bytes-Map, well_formed-Map, depth-Map}

bytes_of_text : (t : List ℕ) → bytes (v.Str t) ≡ 4 ∷ text t
bytes_of_text t = ap bytes (sym (rolls-Str t)) ∙ fold-roll-Value (List ℕ) spelling_layer (Value-F.Str t)

text_well : (t : List ℕ) → well_formed (v.Str t) ≡ is_text t
text_well t = ap well_formed (sym (rolls-Str t)) ∙ fold-roll-Value Bool well_formed_layer (Value-F.Str t)

text_depth : (t : List ℕ) → depth (v.Str t) ≡ 1
text_depth t = ap depth (sym (rolls-Str t)) ∙ fold-roll-Value ℕ depth_layer (Value-F.Str t)

-- a text of UTF-8 that has room for its tag and its length
pub text_fits : (t : List ℕ) → length t ≤ 65531 → is_utf8 t ≡ true → ValueFits (v.Str t)
text_fits t short valid = record {
  deep = omega (arith, text_depth t);
  long = omega (arith, short, ap length (bytes_of_text t), length-append (to_be_bytes w32 (length t)) t, wide32.len (length t));
  well_formed = text_well t ∙ both (is_count (length t)) (is_utf8 t) (is_count_of (length t) (omega (arith, short))) valid;
}

pub empty_map_fits : ValueFits (v.Map [])
empty_map_fits = record {
  deep = omega (arith, depth-Map []);
  long = omega (arith, ap length (bytes-Map []), length-append (to_be_bytes w32 0) [], wide32.len 0);
  well_formed = well_formed-Map [];
}

-- the first value of a list that fits, and the list of the others
pub first_fits : (x : Value) (xs : List Value) → ValueFits (v.List (x ∷ xs)) → ValueFits x
first_fits x xs h =
    let told = both_true (is_count (length (x ∷ xs))) (every (map well_formed (x ∷ xs))) (sym (well_formed-List (x ∷ xs)) ∙ h.well_formed) in
    record {
      deep = omega (arith, h.deep, depth-List (x ∷ xs));
      long = omega (arith, h.long, ap length (bytes-List (x ∷ xs)), length-append (to_be_bytes w32 (length (x ∷ xs))) (concatenation (map bytes (x ∷ xs))), length-append (bytes x) (concatenation (map bytes xs)));
      well_formed = (both_true (well_formed x) (every (map well_formed xs)) told.1).0;
    }

pub rest_fits : (x : Value) (xs : List Value) → ValueFits (v.List (x ∷ xs)) → ValueFits (v.List xs)
rest_fits x xs h =
    let told = both_true (is_count (length (x ∷ xs))) (every (map well_formed (x ∷ xs))) (sym (well_formed-List (x ∷ xs)) ∙ h.well_formed) in
    let few : suc (length xs) < 2 ^ 32 = count_of_is (length (x ∷ xs)) told.0 in
    record {
      deep = omega (arith, h.deep, depth-List (x ∷ xs), depth-List xs);
      long = omega (
        arith,
        h.long,
        ap length (bytes-List (x ∷ xs)),
        ap length (bytes-List xs),
        length-append (to_be_bytes w32 (length (x ∷ xs))) (concatenation (map bytes (x ∷ xs))),
        length-append (to_be_bytes w32 (length xs)) (concatenation (map bytes xs)),
        length-append (bytes x) (concatenation (map bytes xs)),
        wide32.len (length (x ∷ xs)),
        wide32.len (length xs),
      );
      well_formed = well_formed-List xs ∙ both (is_count (length xs)) (every (map well_formed xs)) (is_count_of (length xs) (omega (arith, few))) (both_true (well_formed x) (every (map well_formed xs)) told.1).1;
    }
