-- What writing a list or a map needs of each member.
use Rattle.std.proofs.Common.{◌≡◌, ℕ, zero, suc, ◌<◌, ◌≤◌, ◌^◌, Bool, true, false, ◌&&◌, List, [], ◌∷◌, ◌++◌, length, get_or, map, refl, sym, ap, ◌∙◌, append_assoc, arith, length-append}
use Rattle.std.proofs.lemmas.Bool.{ltb-true}
use Rattle.std.proofs.lemmas.List.{append-nil}
use lib.ListN.{length-map}
use Rattle.std.specs.Int.{w32, to_be_bytes}
use Rattle.salt_value.specs.declared.value.Value.{Value, fold-roll-Value}
use Rattle.salt_value.specs.declared.value.Value.TheVariants as v
use Rattle.salt_value.specs.declared.value.Value.TheVariants.{rolls-List, rolls-Map}
use Rattle.salt_value.specs.declared.value.Value.TheOpen.{Value-F}
use Rattle.salt_value.specs.Keys.{keys_of, ascends}
use Rattle.salt_value.specs.Spelling.{bytes, spelling_layer, text, concatenation, pairs_spelling, spelled_pairs}
use Rattle.salt_value.specs.WellFormed.{every, every_pair, well_formed, well_formed_layer, is_text, is_count, IsWellFormed, AllWellFormed, PairsWellFormed, depth, depth_layer, greatest, ValueFits}

pub both_true : (a b : Bool) → (a && b) ≡ true → (a ≡ true) × (b ≡ true)
both_true true true e = (refl, refl)
both_true true false e = absurd cc
both_true false b e = absurd cc

-- ---- the definitions at a list and at a map

pub bytes-List : (xs : List Value) → bytes (v.List xs) ≡ 5 ∷ (to_be_bytes w32 (length xs) ++ concatenation (map bytes xs))
bytes-List xs = ap bytes (sym (rolls-List xs)) ∙ fold-roll-Value (List ℕ) spelling_layer (Value-F.List xs) ∙ ap (λ n. 5 ∷ (to_be_bytes w32 n ++ concatenation (map bytes xs))) (length-map xs bytes)

pub bytes-Map : (ps : List (List ℕ × Value)) → bytes (v.Map ps) ≡ 6 ∷ (to_be_bytes w32 (length ps) ++ pairs_spelling (spelled_pairs ps))
bytes-Map ps = ap bytes (sym (rolls-Map ps)) ∙ fold-roll-Value (List ℕ) spelling_layer (Value-F.Map ps) ∙ ap (λ n. 6 ∷ (to_be_bytes w32 n ++ pairs_spelling (spelled_pairs ps))) (length-map ps (λ p. (p.0, bytes p.1)))

well_formed-List : (xs : List Value) → well_formed (v.List xs) ≡ (is_count (length xs) && every (map well_formed xs))
well_formed-List xs = ap well_formed (sym (rolls-List xs)) ∙ fold-roll-Value Bool well_formed_layer (Value-F.List xs) ∙ ap (λ n. is_count n && every (map well_formed xs)) (length-map xs well_formed)

abbrev pairs_told : List (List ℕ × Value) → List (List ℕ × Bool)
pairs_told ps = map (λ p. (p.0, well_formed p.1)) ps

well_formed-Map : (ps : List (List ℕ × Value)) → well_formed (v.Map ps) ≡ (is_count (length ps) && (every_pair (pairs_told ps) && ascends (keys_of (pairs_told ps))))
well_formed-Map ps = ap well_formed (sym (rolls-Map ps)) ∙ fold-roll-Value Bool well_formed_layer (Value-F.Map ps)
    ∙ ap (λ n. is_count n && (every_pair (pairs_told ps) && ascends (keys_of (pairs_told ps)))) (length-map ps (λ p. (p.0, well_formed p.1)))

depth-List : (xs : List Value) → depth (v.List xs) ≡ suc (greatest (map depth xs))
depth-List xs = ap depth (sym (rolls-List xs)) ∙ fold-roll-Value ℕ depth_layer (Value-F.List xs)

depths_same : (ps : List (List ℕ × Value)) → map (λ (p : List ℕ × ℕ). p.1) (map (λ (p : List ℕ × Value). (p.0, depth p.1)) ps) ≡ map (λ (p : List ℕ × Value). depth p.1) ps
depths_same [] = refl
depths_same (p ∷ ps) = ap (λ l. depth p.1 ∷ l) (depths_same ps)

depth-Map : (ps : List (List ℕ × Value)) → depth (v.Map ps) ≡ suc (greatest (map (λ p. depth p.1) ps))
depth-Map ps = ap depth (sym (rolls-Map ps)) ∙ fold-roll-Value ℕ depth_layer (Value-F.Map ps) ∙ ap (λ ns. suc (greatest ns)) (depths_same ps)

-- ---- the count

pub list_count : (vs : List Value) → ValueFits (v.List vs) → length vs < 2 ^ 32
list_count vs h = ltb-true _ _ (both_true (is_count (length vs)) (every (map well_formed vs)) (sym (well_formed-List vs) ∙ h.well_formed)).0

pub map_count : (ps : List (List ℕ × Value)) → ValueFits (v.Map ps) → length ps < 2 ^ 32
map_count ps h = ltb-true _ _ (both_true (is_count (length ps)) _ (sym (well_formed-Map ps) ∙ h.well_formed)).0

-- ---- each member

record Member (v : Value) (most_depth most_bytes : ℕ) : Type 0 where
  deep : depth v ≤ most_depth
  long : length (bytes v) ≤ most_bytes
  well : IsWellFormed v

member : (vs : List Value) (i : ℕ) (d : Value) → AllWellFormed vs → i < length vs → Member (get_or vs i d) (greatest (map depth vs)) (length (concatenation (map bytes vs)))
member [] i d h lt = absurd (omega arith)
member (v ∷ vs) zero d h lt =
    let len = length-append (bytes v) (concatenation (map bytes vs)) in
    record { deep = omega arith; long = omega (arith, len); well = (both_true (well_formed v) (every (map well_formed vs)) h).0 }
member (v ∷ vs) (suc i) d h lt =
    let len = length-append (bytes v) (concatenation (map bytes vs)) in
    let m = member vs i d (both_true (well_formed v) (every (map well_formed vs)) h).1 (omega arith) in
    record { deep = omega (arith, m.deep); long = omega (arith, len, m.long); well = m.well }

pub fits_item : (vs : List Value) (i : ℕ) (d : Value) → ValueFits (v.List vs) → i < length vs → ValueFits (get_or vs i d)
fits_item vs i d h lt =
    let m = member vs i d (both_true (is_count (length vs)) (every (map well_formed vs)) (sym (well_formed-List vs) ∙ h.well_formed)).1 lt in
    let whole = ap length (bytes-List vs) in
    let parts = length-append (to_be_bytes w32 (length vs)) (concatenation (map bytes vs)) in
    record { deep = omega (arith, m.deep, h.deep, depth-List vs); long = omega (arith, m.long, h.long, whole, parts); well_formed = m.well }

record PairMember (p : List ℕ × Value) (most_depth most_bytes : ℕ) : Type 0 where
  key : length p.0 < 2 ^ 32
  deep : depth p.1 ≤ most_depth
  long : length (bytes p.1) ≤ most_bytes
  well : IsWellFormed p.1

pair_member : (ps : List (List ℕ × Value)) (i : ℕ) (d : List ℕ × Value) → PairsWellFormed ps → i < length ps
    → PairMember (get_or ps i d) (greatest (map (λ p. depth p.1) ps)) (length (pairs_spelling (spelled_pairs ps)))
pair_member [] i d h lt = absurd (omega arith)
pair_member (p ∷ ps) zero d h lt =
    let a = both_true (is_text p.0) (well_formed p.1 && every_pair (pairs_told ps)) h in
    let b = both_true (well_formed p.1) (every_pair (pairs_told ps)) a.1 in
    let len = length-append (text p.0) (bytes p.1 ++ pairs_spelling (spelled_pairs ps)) in
    let more = length-append (bytes p.1) (pairs_spelling (spelled_pairs ps)) in
    record { key = ltb-true _ _ (both_true (is_count (length p.0)) _ a.0).0; deep = omega arith; long = omega (arith, len, more); well = b.0 }
pair_member (p ∷ ps) (suc i) d h lt =
    let a = both_true (is_text p.0) (well_formed p.1 && every_pair (pairs_told ps)) h in
    let b = both_true (well_formed p.1) (every_pair (pairs_told ps)) a.1 in
    let m = pair_member ps i d b.1 (omega arith) in
    let len = length-append (text p.0) (bytes p.1 ++ pairs_spelling (spelled_pairs ps)) in
    let more = length-append (bytes p.1) (pairs_spelling (spelled_pairs ps)) in
    record { key = m.key; deep = omega (arith, m.deep); long = omega (arith, len, more, m.long); well = m.well }

pub fits_pair : (ps : List (List ℕ × Value)) (i : ℕ) (d : List ℕ × Value) → ValueFits (v.Map ps) → i < length ps → (length (get_or ps i d).0 < 2 ^ 32) × ValueFits (get_or ps i d).1
fits_pair ps i d h lt =
    let a = both_true (is_count (length ps)) (every_pair (pairs_told ps) && ascends (keys_of (pairs_told ps))) (sym (well_formed-Map ps) ∙ h.well_formed) in
    let m = pair_member ps i d (both_true (every_pair (pairs_told ps)) _ a.1).0 lt in
    let whole = ap length (bytes-Map ps) in
    let parts = length-append (to_be_bytes w32 (length ps)) (pairs_spelling (spelled_pairs ps)) in
    (m.key, record { deep = omega (arith, m.deep, h.deep, depth-Map ps); long = omega (arith, m.long, h.long, whole, parts); well_formed = m.well })

-- ---- one member more

pub joined-push : {A : Type 0} (spell : A → List ℕ) (xs : List A) (x : A) → concatenation (map spell (xs ++ x ∷ [])) ≡ concatenation (map spell xs) ++ spell x
joined-push spell [] x = append-nil (spell x)
joined-push spell (y ∷ xs) x = ap (λ l. spell y ++ l) (joined-push spell xs x) ∙ sym (append_assoc (spell y) (concatenation (map spell xs)) (spell x))

pub pairs-push : (ps : List (List ℕ × Value)) (p : List ℕ × Value) → pairs_spelling (spelled_pairs (ps ++ p ∷ [])) ≡ pairs_spelling (spelled_pairs ps) ++ (text p.0 ++ bytes p.1)
pairs-push [] p = ap (λ l. text p.0 ++ l) (append-nil (bytes p.1))
pairs-push (x ∷ ps) p =
    ap (λ l. text x.0 ++ (bytes x.1 ++ l)) (pairs-push ps p)
    ∙ ap (λ l. text x.0 ++ l) (sym (append_assoc (bytes x.1) (pairs_spelling (spelled_pairs ps)) (text p.0 ++ bytes p.1)))
    ∙ sym (append_assoc (text x.0) (bytes x.1 ++ pairs_spelling (spelled_pairs ps)) (text p.0 ++ bytes p.1))

-- what is written after something else
pub onto : (o p q s t : List ℕ) → p ≡ o ++ s → q ≡ p ++ t → q ≡ o ++ (s ++ t)
onto o p q s t e f = f ∙ ap (λ l. l ++ t) e ∙ append_assoc o s t
