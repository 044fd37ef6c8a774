-- What writing a list of values needs of each.
use Rattle.std.proofs.Common.{◌≡◌, ℕ, zero, suc, ◌<◌, ◌^◌, Bool, true, false, ◌&&◌, ltb, List, [], ◌∷◌, ◌++◌, length, get_or, map, refl, sym, ap, ◌∙◌, append_assoc, arith}
use Rattle.std.proofs.lemmas.Bool.{ltb-true}
use Rattle.std.proofs.lemmas.List.{append-nil}
use lib.ListN.{length-map}
use Rattle.std.specs.Int.{w32, to_be_bytes}
use Rattle.salt_value.specs.declared.value.Value.{Value, Map, fold-roll-Value}
use Rattle.salt_value.specs.declared.value.Value.TheVariants.{rolls-Map}
use Rattle.salt_value.specs.declared.value.Value.TheOpen.{Value-F}
use Rattle.salt_value.specs.Spelling.{bytes, spelling_layer, text, concatenation, pairs_spelling, spelled_pairs}
use Rattle.salt_value.specs.WellFormed.{every, every_pair, well_formed, is_text, IsWellFormed, AllWellFormed, PairsWellFormed}
use Rattle.std.specs.Str.{is_utf8}

pub both_true : (a b : Bool) → (a && b) ≡ true → (a ≡ true) × (b ≡ true)
both_true true true e = (refl, refl)
both_true true false e = absurd cc
both_true false b e = absurd cc

pub well_formed_at : (vs : List Value) (i : ℕ) (d : Value) → AllWellFormed vs → i < length vs → IsWellFormed (get_or vs i d)
well_formed_at [] i d h lt = absurd (omega arith)
well_formed_at (v ∷ vs) zero d h lt = (both_true (well_formed v) (every (map well_formed vs)) h).0
well_formed_at (v ∷ vs) (suc i) d h lt = well_formed_at vs i d (both_true (well_formed v) (every (map well_formed vs)) h).1 (omega arith)

abbrev pub pairs_told : List (List ℕ × Value) → List (List ℕ × Bool)
pairs_told ps = map (λ p. (p.0, well_formed p.1)) ps

pub first_pair : (p : List ℕ × Value) (ps : List (List ℕ × Value)) → PairsWellFormed (p ∷ ps) → (length p.0 < 2 ^ 32) × (is_utf8 p.0 ≡ true) × IsWellFormed p.1 × PairsWellFormed ps
first_pair p ps h =
    let a = both_true (is_text p.0) (well_formed p.1 && every_pair (pairs_told ps)) h in
    let t = both_true (ltb (length p.0) 4294967296) (is_utf8 p.0) a.0 in
    let b = both_true (well_formed p.1) (every_pair (pairs_told ps)) a.1 in
    (ltb-true _ _ t.0, t.1, b.0, b.1)

pub pair_at : (ps : List (List ℕ × Value)) (i : ℕ) (d : List ℕ × Value) → PairsWellFormed ps → i < length ps → (length (get_or ps i d).0 < 2 ^ 32) × IsWellFormed (get_or ps i d).1
pair_at [] i d h lt = absurd (omega arith)
pair_at (p ∷ ps) zero d h lt = ((first_pair p ps h).0, (first_pair p ps h).2)
pair_at (p ∷ ps) (suc i) d h lt = pair_at ps i d (first_pair p ps h).3 (omega arith)

pub joined-push : (vs : List Value) (v : Value) → concatenation (map bytes (vs ++ v ∷ [])) ≡ concatenation (map bytes vs) ++ bytes v
joined-push [] v = append-nil (bytes v)
joined-push (x ∷ vs) v = ap (λ t. bytes x ++ t) (joined-push vs v) ∙ sym (append_assoc (bytes x) (concatenation (map bytes vs)) (bytes v))

pub pairs-push : (ps : List (List ℕ × Value)) (p : List ℕ × Value) → pairs_spelling (spelled_pairs (ps ++ p ∷ [])) ≡ pairs_spelling (spelled_pairs ps) ++ (text p.0 ++ bytes p.1)
pairs-push [] p = ap (λ t. text p.0 ++ t) (append-nil (bytes p.1))
pairs-push (x ∷ ps) p =
    ap (λ t. text x.0 ++ (bytes x.1 ++ t)) (pairs-push ps p)
    ∙ ap (λ t. text x.0 ++ t) (sym (append_assoc (bytes x.1) (pairs_spelling (spelled_pairs ps)) (text p.0 ++ bytes p.1)))
    ∙ sym (append_assoc (text x.0) (bytes x.1 ++ pairs_spelling (spelled_pairs ps)) (text p.0 ++ bytes p.1))

pub bytes-Map : (ps : List (List ℕ × Value)) → bytes (Map ps) ≡ 6 ∷ (to_be_bytes w32 (length ps) ++ pairs_spelling (spelled_pairs ps))
bytes-Map ps = ap bytes (sym (rolls-Map ps)) ∙ fold-roll-Value (List ℕ) spelling_layer (Value-F.Map ps) ∙ ap (λ n. 6 ∷ (to_be_bytes w32 n ++ pairs_spelling (spelled_pairs ps))) (length-map ps (λ p. (p.0, bytes p.1)))
