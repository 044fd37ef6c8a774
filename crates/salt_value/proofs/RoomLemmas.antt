-- The room that lists of parts and values take.
use Rattle.std.proofs.Common.{◌≡◌, ℕ, ℤ, pos, negsuc, zero, suc, ◌+◌, ◌-◌, ◌^◌, ◌<◌, ◌≤◌, Bool, true, false, ◌&&◌, List, [], ◌∷◌, ◌++◌, length, get_or, take, map, Option, Some, None, refl, sym, ap, subst, ◌∙◌, append_assoc, arith, length-append}
use Rattle.std.proofs.lemmas.List.{take_more}
use Rattle.std.specs.Str.{is_utf8}
use Rattle.std.specs.Option.{SomeIff}
use Rattle.std.specs.Int.{w32, w64, to_be_bytes}
use mir.Val.{SFits}
use Rattle.std.proofs.lemmas.Bool.{lt-ltb}
use Rattle.salt_value.specs.declared.value.Value.{Value, out-Value}
use Rattle.salt_value.specs.declared.value.Value.TheFolds.{fold_out-Value, map-Value}
use Rattle.salt_value.specs.declared.value.Value.TheOpen.{Value-F}
use Rattle.salt_value.specs.declared.value.Value.TheVariants as v
use Rattle.salt_value.specs.Keys.{Ascend, ascends, keys_of}
use Rattle.salt_value.specs.Spelling.{bytes, spelling_layer, text, concatenation, pairs_spelling, spelled_pairs}
use Rattle.salt_value.specs.WellFormed.{well_formed, is_count, is_int, is_text, IsWellFormed, AllWellFormed, PairsWellFormed, every, every_pair, depth, greatest}
use Rattle.salt_value.specs.Room.{Leaves}
use Rattle.salt_value.proofs.WriteLemmas.{both_true, pairs_told}
use Rattle.salt_value.proofs.ByteFields.{both, is_count_of, wide32}
use Rattle.salt_value.proofs.ReadBack.{bytes-List, bytes-Map, well_formed-List, well_formed-Map, depth-List, depth-Map}

-- ---- a list of parts, each with a test, a depth and a spelling

module _ {A : Type 0} (well : A → Bool) (deep : A → ℕ) (spell : A → List ℕ) where
  -- these parts are well-formed, not too deep, and have left so many bytes of the room
  pub record Walked (xs : List A) (levels room left : ℕ) : Type 0 where
    pub well_formed : every (map well xs) ≡ true
    pub within : greatest (map deep xs) ≤ levels
    pub size : length (concatenation (map spell xs)) + left ≡ room

  every-push : (xs : List A) (x : A) → every (map well xs) ≡ true → well x ≡ true → every (map well (xs ++ x ∷ [])) ≡ true
  every-push [] x h w = both (well x) true w refl
  every-push (y ∷ xs) x h w =
      let parts = both_true (well y) (every (map well xs)) h in
      both (well y) (every (map well (xs ++ x ∷ []))) parts.0 (every-push xs x parts.1 w)

  greatest-push : (xs : List A) (x : A) (n : ℕ) → greatest (map deep xs) ≤ n → deep x ≤ n → greatest (map deep (xs ++ x ∷ [])) ≤ n
  greatest-push [] x n h d = omega arith
  greatest-push (y ∷ xs) x n h d = let more = greatest-push xs x n (omega arith) d in omega (arith, more, h)

  size-push : (xs : List A) (x : A) → length (concatenation (map spell (xs ++ x ∷ []))) ≡ length (concatenation (map spell xs)) + length (spell x)
  size-push [] x = omega (arith, length-append (spell x) [])
  size-push (y ∷ xs) x =
      omega (arith, size-push xs x, length-append (spell y) (concatenation (map spell (xs ++ x ∷ []))), length-append (spell y) (concatenation (map spell xs)))

  pub walked_none : (levels room : ℕ) → Walked [] levels room room
  walked_none levels room = record { well_formed = refl; within = omega arith; size = omega arith }

  -- one part more
  pub walked_more : (xs : List A) (i : ℕ) (d : A) (levels room mid left : ℕ) → i < length xs → Walked (take i xs) levels room mid
      → Leaves (well (get_or xs i d) ≡ true) (deep (get_or xs i d)) levels (length (spell (get_or xs i d))) mid (Some left) → Walked (take (i + 1) xs) levels room left
  walked_more xs i d levels room mid left lt so_far one =
      subst (λ (ys : List A). Walked ys levels room left) (sym (take_more xs i d lt)) (record {
        well_formed = every-push (take i xs) (get_or xs i d) so_far.well_formed one.0;
        within = greatest-push (take i xs) (get_or xs i d) levels so_far.within one.1;
        size = omega (arith, size-push (take i xs) (get_or xs i d), so_far.size, one.2);
      })

  deep_at : (xs : List A) (i : ℕ) (d : A) → i < length xs → deep (get_or xs i d) ≤ greatest (map deep xs)
  deep_at [] i d lt = absurd (omega arith)
  deep_at (x ∷ xs) zero d lt = omega arith
  deep_at (x ∷ xs) (suc i) d lt = let h = deep_at xs i d (omega arith) in omega (arith, h)

  size_at : (xs : List A) (i : ℕ) (d : A) → i < length xs → length (concatenation (map spell (take i xs))) + length (spell (get_or xs i d)) ≤ length (concatenation (map spell xs))
  size_at [] i d lt = absurd (omega arith)
  size_at (x ∷ xs) zero d lt = omega (arith, length-append (spell x) (concatenation (map spell xs)))
  size_at (x ∷ xs) (suc i) d lt =
      omega (arith, size_at xs i d (omega arith), length-append (spell x) (concatenation (map spell xs)), length-append (spell x) (concatenation (map spell (take i xs))))

  -- where one part doesn't fit, the list doesn't
  pub walked_ends : (xs : List A) (i : ℕ) (d : A) (levels room mid : ℕ) → i < length xs → Walked (take i xs) levels room mid
      → Leaves (well (get_or xs i d) ≡ true) (deep (get_or xs i d)) levels (length (spell (get_or xs i d))) mid None
      → greatest (map deep xs) ≤ levels → length (concatenation (map spell xs)) ≤ room → ⊥
  walked_ends xs i d levels room mid lt so_far one shallow short =
      one (omega (arith, deep_at xs i d lt, shallow)) (omega (arith, size_at xs i d lt, so_far.size, short))

  -- no part is without bytes
  pub count_le : (xs : List A) → ((x : A) → 1 ≤ length (spell x)) → length xs ≤ length (concatenation (map spell xs))
  count_le [] h = omega arith
  count_le (x ∷ xs) h = omega (arith, h x, count_le xs h, length-append (spell x) (concatenation (map spell xs)))

-- ---- pairs as such parts

abbrev pub pair_well : List ℕ × Value → Bool
pair_well p = is_text p.0 && well_formed p.1

abbrev pub pair_deep : List ℕ × Value → ℕ
pair_deep p = depth p.1

abbrev pub pair_spell : List ℕ × Value → List ℕ
pair_spell p = text p.0 ++ bytes p.1

pub pairs_spelled : (ps : List (List ℕ × Value)) → pairs_spelling (spelled_pairs ps) ≡ concatenation (map pair_spell ps)
pairs_spelled [] = refl
pairs_spelled (p ∷ ps) = ap (λ l. text p.0 ++ (bytes p.1 ++ l)) (pairs_spelled ps) ∙ sym (append_assoc (text p.0) (bytes p.1) (concatenation (map pair_spell ps)))

pub pairs_well : (ps : List (List ℕ × Value)) → every (map pair_well ps) ≡ true → PairsWellFormed ps
pairs_well [] h = refl
pairs_well (p ∷ ps) h =
    let parts = both_true (pair_well p) (every (map pair_well ps)) h in
    let one = both_true (is_text p.0) (well_formed p.1) parts.0 in
    both (is_text p.0) (well_formed p.1 && every_pair (pairs_told ps)) one.0 (both (well_formed p.1) (every_pair (pairs_told ps)) one.1 (pairs_well ps parts.1))

-- ---- texts, lists and maps

pub text_leaves : (t : List ℕ) (room : ℕ) (r : Option ℕ) → 4 ≤ room → room ≤ 65536 → is_utf8 t ≡ true → SomeIff r (length t ≤ room - 4) (room - 4 - length t)
    → Leaves (is_text t ≡ true) 0 0 (length (text t)) room r
text_leaves t room None big small u h = λ deep size. h (omega (arith, size, length-append (to_be_bytes w32 (length t)) t, wide32.len (length t)))
text_leaves t room (Some left) big small u h = (
  both (is_count (length t)) (is_utf8 t) (is_count_of (length t) (omega (arith, h.0))) u,
  omega arith,
  omega (arith, h.0, h.1, length-append (to_be_bytes w32 (length t)) t, wide32.len (length t)),
)

abbrev pub ValueLeaves : Value → ℕ → ℕ → Option ℕ → Type 0
ValueLeaves w levels room r = Leaves (IsWellFormed w) (depth w) levels (length (bytes w)) room r

some_layer : (l : Value-F (List ℕ)) → 1 ≤ length (spelling_layer l)
some_layer Value-F.Null = omega arith
some_layer (Value-F.Flag false) = omega arith
some_layer (Value-F.Flag true) = omega arith
some_layer (Value-F.Int z) = omega arith
some_layer (Value-F.Str t) = omega arith
some_layer (Value-F.List xs) = omega arith
some_layer (Value-F.Map ps) = omega arith

-- no value is without bytes
pub some_bytes : (w : Value) → 1 ≤ length (bytes w)
some_bytes w = rw (fold_out-Value (List ℕ) spelling_layer w) (some_layer (map-Value _ _ bytes (out-Value w)))

pub list_leaves : (xs : List Value) (levels room : ℕ) (r : Option ℕ) → 0 < levels → room ≤ 65536
    → Leaves (AllWellFormed xs) (greatest (map depth xs)) (levels - 1) (5 + length (concatenation (map bytes xs))) room r → ValueLeaves (v.List xs) levels room r
list_leaves xs levels room None some small h = λ deep size.
    h (omega (arith, depth-List xs, deep)) (omega (arith, ap length (bytes-List xs), length-append (to_be_bytes w32 (length xs)) (concatenation (map bytes xs)), wide32.len (length xs), size))
list_leaves xs levels room (Some left) some small h =
    let count : length xs < 2 ^ 32 = omega (arith, count_le well_formed depth bytes xs some_bytes, h.2) in (
      well_formed-List xs ∙ both (is_count (length xs)) (every (map well_formed xs)) (is_count_of (length xs) count) h.0,
      omega (arith, depth-List xs, h.1),
      omega (arith, ap length (bytes-List xs), length-append (to_be_bytes w32 (length xs)) (concatenation (map bytes xs)), wide32.len (length xs), h.2),
    )

some_pair : (p : List ℕ × Value) → 1 ≤ length (pair_spell p)
some_pair p = omega (arith, length-append (text p.0) (bytes p.1), some_bytes p.1)

pub map_leaves : (ps : List (List ℕ × Value)) (levels room : ℕ) (r : Option ℕ) → 0 < levels → room ≤ 65536 → Ascend (keys_of ps)
    → Leaves (PairsWellFormed ps) (greatest (map (λ p. depth p.1) ps)) (levels - 1) (5 + length (pairs_spelling (spelled_pairs ps))) room r → ValueLeaves (v.Map ps) levels room r
map_leaves ps levels room None some small order h = λ deep size.
    h (omega (arith, depth-Map ps, deep)) (omega (arith, ap length (bytes-Map ps), length-append (to_be_bytes w32 (length ps)) (pairs_spelling (spelled_pairs ps)), wide32.len (length ps), size))
map_leaves ps levels room (Some left) some small order h =
    let count : length ps < 2 ^ 32 = omega (arith, count_le pair_well pair_deep pair_spell ps some_pair, ap length (pairs_spelled ps), h.2) in (
      well_formed-Map ps ∙ both (is_count (length ps)) (every_pair (pairs_told ps) && ascends (keys_of ps)) (is_count_of (length ps) count) (both (every_pair (pairs_told ps)) (ascends (keys_of ps)) h.0 order),
      omega (arith, depth-Map ps, h.1),
      omega (arith, ap length (bytes-Map ps), length-append (to_be_bytes w32 (length ps)) (pairs_spelling (spelled_pairs ps)), wide32.len (length ps), h.2),
    )

pub int_leaves : (z : ℤ) (room : ℕ) (r : Option ℕ) → SFits w64 z → SomeIff r (8 ≤ room) (room - 8) → Leaves (is_int z ≡ true) 0 0 8 room r
int_leaves z room None fits h = λ deep size. h size
int_leaves z room (Some left) fits h = (int_is z fits, omega arith, omega (arith, h.0, h.1)) where
  int_is : (z : ℤ) → SFits w64 z → is_int z ≡ true
  int_is (pos n) f = lt-ltb n 9223372036854775808 f.sfits
  int_is (negsuc n) f = lt-ltb n 9223372036854775808 f.sfits

-- ---- the two loops

pub items_end : (xs : List Value) (i : ℕ) (d : Value) (levels room mid : ℕ) → 5 ≤ room → i < length xs → d ≡ get_or xs i d → Walked well_formed depth bytes (take i xs) levels (room - 5) mid
    → ValueLeaves d levels mid None → greatest (map depth xs) ≤ levels → 5 + length (concatenation (map bytes xs)) ≤ room → ⊥
items_end xs i d levels room mid big lt is so_far one shallow short =
    walked_ends well_formed depth bytes xs i d levels (room - 5) mid lt so_far (subst (λ w. ValueLeaves w levels mid None) is one) shallow (omega (arith, short))

pub items_more : (xs : List Value) (i : ℕ) (d : Value) (levels room mid left : ℕ) → i < length xs → d ≡ get_or xs i d → Walked well_formed depth bytes (take i xs) levels room mid
    → ValueLeaves d levels mid (Some left) → Walked well_formed depth bytes (take (i + 1) xs) levels room left
items_more xs i d levels room mid left lt is so_far one =
    walked_more well_formed depth bytes xs i d levels room mid left lt so_far (subst (λ w. ValueLeaves w levels mid (Some left)) is one)

abbrev pub PairLeaves : List ℕ × Value → ℕ → ℕ → Option ℕ → Type 0
PairLeaves p levels room r = Leaves (pair_well p ≡ true) (pair_deep p) levels (length (pair_spell p)) room r

pub pairs_end : (ps : List (List ℕ × Value)) (i : ℕ) (d : List ℕ × Value) (levels room mid : ℕ) → 5 ≤ room → i < length ps → d ≡ get_or ps i d
    → Walked pair_well pair_deep pair_spell (take i ps) levels (room - 5) mid → PairLeaves d levels mid None
    → greatest (map (λ p. depth p.1) ps) ≤ levels → 5 + length (pairs_spelling (spelled_pairs ps)) ≤ room → ⊥
pairs_end ps i d levels room mid big lt is so_far one shallow short =
    walked_ends pair_well pair_deep pair_spell ps i d levels (room - 5) mid lt so_far (subst (λ p. PairLeaves p levels mid None) is one) shallow (omega (arith, short, ap length (pairs_spelled ps)))

pub pairs_more : (ps : List (List ℕ × Value)) (i : ℕ) (d : List ℕ × Value) (levels room mid left : ℕ) → i < length ps → d ≡ get_or ps i d
    → Walked pair_well pair_deep pair_spell (take i ps) levels room mid → PairLeaves d levels mid (Some left) → Walked pair_well pair_deep pair_spell (take (i + 1) ps) levels room left
pairs_more ps i d levels room mid left lt is so_far one =
    walked_more pair_well pair_deep pair_spell ps i d levels room mid left lt so_far (subst (λ p. PairLeaves p levels mid (Some left)) is one)

pub pairs_whole : (ps qs : List (List ℕ × Value)) (levels room left : ℕ) → 5 ≤ room → qs ≡ ps → Walked pair_well pair_deep pair_spell qs levels (room - 5) left
    → Leaves (PairsWellFormed ps) (greatest (map (λ p. depth p.1) ps)) levels (5 + length (pairs_spelling (spelled_pairs ps))) room (Some left)
pairs_whole ps qs levels room left big same h =
    let w = subst (λ l. Walked pair_well pair_deep pair_spell l levels (room - 5) left) same h in
    (pairs_well ps w.well_formed, w.within, omega (arith, w.size, ap length (pairs_spelled ps)))
