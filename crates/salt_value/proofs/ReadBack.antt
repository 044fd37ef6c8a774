-- What is read is spelled so, and what is spelled so is read.
use Rattle.std.proofs.Common.{◌≡◌, ℕ, ℤ, zero, suc, ◌^◌, ◌<◌, ◌≤◌, Bool, true, false, ◌&&◌, eqb, List, [], ◌∷◌, ◌++◌, length, map, Option, Some, None, Ok, refl, sym, ap, subst, ◌∙◌, append_assoc, arith}
use Rattle.std.specs.Int.{w32, w64, to_be_bytes, cast_unsigned}
use lib.ListN.{length-map}
use Rattle.salt_value.specs.declared.fault.Misread.{Misread}
use Rattle.salt_value.specs.declared.fault.Misread.TheVariants.{Short, TooDeep}
use Rattle.salt_value.specs.declared.value.Value.{Value, roll-Value, out-Value, roll-out-Value, fold-roll-Value}
use Rattle.salt_value.specs.declared.value.Value.TheFolds.{fold_out-Value, map-Value}
use Rattle.std.proofs.lemmas.Bool.{ne_eqb}
use Rattle.salt_value.specs.declared.value.Value.TheVariants as v
use Rattle.salt_value.specs.declared.value.Value.TheVariants.{rolls-Null, rolls-Flag, rolls-Int, rolls-Str, rolls-List, rolls-Map}
use Rattle.salt_value.specs.declared.value.Value.TheOpen.{Value-F}
use Rattle.salt_value.specs.Keys.{keys_of, before, comes_after, ascends}
use Rattle.salt_value.specs.Tags.{Tag}
use Rattle.salt_value.specs.Spelling.{bytes, spelling_layer, text, concatenation, pairs_spelling, spelled_pairs}
use Rattle.salt_value.specs.WellFormed.{well_formed, well_formed_layer, every, every_pair, is_count, is_text, is_int, IsWellFormed, AllWellFormed, PairsWellFormed, depth, depth_layer, greatest}
use Rattle.salt_value.specs.Readers.{◌>>=◌, Reader, several}
use Rattle.salt_value.specs.Decoding.{IsBytes, count_at, int_at, text_at, room_at, key_at, pair_at, pairs_at, value_at, after_tag}
use Rattle.salt_value.proofs.ReadLemmas.{tagged, tag_of-past, bind_ok, guard_ok, ok_is}
use Rattle.salt_value.proofs.WriteLemmas.{both_true, pairs_told}
use Rattle.salt_value.proofs.ByteFields.{IsBytes-rest, Takes, Takes-then, wide32, number_takes, number_again, is_count_of, count_of_is, both, text_takes, text_again, key_takes, key_again, int_takes, int_again}

-- ---- each definition at each kind of value

pub bytes-List : (xs : List Value) → bytes (v.List xs) ≡ 5 ∷ (to_be_bytes w32 (length xs) ++ concatenation (map bytes xs))
bytes-List xs = ap bytes (sym (rolls-List xs)) ∙ fold-roll-Value (List ℕ) spelling_layer (Value-F.List xs) ∙ ap (λ n. 5 ∷ (to_be_bytes w32 n ++ concatenation (map bytes xs))) (length-map xs bytes)

pub bytes-Map : (ps : List (List ℕ × Value)) → bytes (v.Map ps) ≡ 6 ∷ (to_be_bytes w32 (length ps) ++ pairs_spelling (spelled_pairs ps))
bytes-Map ps = ap bytes (sym (rolls-Map ps)) ∙ fold-roll-Value (List ℕ) spelling_layer (Value-F.Map ps) ∙ ap (λ n. 6 ∷ (to_be_bytes w32 n ++ pairs_spelling (spelled_pairs ps))) (length-map ps (λ p. (p.0, bytes p.1)))

pub well_formed-List : (xs : List Value) → well_formed (v.List xs) ≡ (is_count (length xs) && every (map well_formed xs))
well_formed-List xs = ap well_formed (sym (rolls-List xs)) ∙ fold-roll-Value Bool well_formed_layer (Value-F.List xs) ∙ ap (λ n. is_count n && every (map well_formed xs)) (length-map xs well_formed)

keys_same : (ps : List (List ℕ × Value)) → keys_of (pairs_told ps) ≡ keys_of ps
keys_same [] = refl
keys_same (p ∷ ps) = ap (λ l. p.0 ∷ l) (keys_same ps)

pub well_formed-Map : (ps : List (List ℕ × Value)) → well_formed (v.Map ps) ≡ (is_count (length ps) && (every_pair (pairs_told ps) && ascends (keys_of ps)))
well_formed-Map ps = ap well_formed (sym (rolls-Map ps)) ∙ fold-roll-Value Bool well_formed_layer (Value-F.Map ps)
    ∙ ap (λ n. is_count n && (every_pair (pairs_told ps) && ascends (keys_of (pairs_told ps)))) (length-map ps (λ p. (p.0, well_formed p.1)))
    ∙ ap (λ ks. is_count (length ps) && (every_pair (pairs_told ps) && ascends ks)) (keys_same ps)

pub depth-List : (xs : List Value) → depth (v.List xs) ≡ suc (greatest (map depth xs))
depth-List xs = ap depth (sym (rolls-List xs)) ∙ fold-roll-Value ℕ depth_layer (Value-F.List xs)

depths_same : (ps : List (List ℕ × Value)) → map (λ (p : List ℕ × ℕ). p.1) (map (λ (p : List ℕ × Value). (p.0, depth p.1)) ps) ≡ map (λ (p : List ℕ × Value). depth p.1) ps
depths_same [] = refl
depths_same (p ∷ ps) = ap (λ l. depth p.1 ∷ l) (depths_same ps)

pub depth-Map : (ps : List (List ℕ × Value)) → depth (v.Map ps) ≡ suc (greatest (map (λ p. depth p.1) ps))
depth-Map ps = ap depth (sym (rolls-Map ps)) ∙ fold-roll-Value ℕ depth_layer (Value-F.Map ps) ∙ ap (λ ns. suc (greatest ns)) (depths_same ps)

bytes-Null : bytes v.Null ≡ 0 ∷ []
bytes-Null = ap bytes (sym rolls-Null) ∙ fold-roll-Value (List ℕ) spelling_layer Value-F.Null

bytes-Flag : (b : Bool) → bytes (v.Flag b) ≡ spelling_layer (Value-F.Flag b)
bytes-Flag b = ap bytes (sym (rolls-Flag b)) ∙ fold-roll-Value (List ℕ) spelling_layer (Value-F.Flag b)

well_formed-Null : well_formed v.Null ≡ true
well_formed-Null = ap well_formed (sym rolls-Null) ∙ fold-roll-Value Bool well_formed_layer Value-F.Null

well_formed-Flag : (b : Bool) → well_formed (v.Flag b) ≡ true
well_formed-Flag b = ap well_formed (sym (rolls-Flag b)) ∙ fold-roll-Value Bool well_formed_layer (Value-F.Flag b)

depth-Null : depth v.Null ≡ 1
depth-Null = ap depth (sym rolls-Null) ∙ fold-roll-Value ℕ depth_layer Value-F.Null

depth-Flag : (b : Bool) → depth (v.Flag b) ≡ 1
depth-Flag b = ap depth (sym (rolls-Flag b)) ∙ fold-roll-Value ℕ depth_layer (Value-F.Flag b)

bytes-Int : (z : ℤ) → bytes (v.Int z) ≡ 3 ∷ to_be_bytes w64 (cast_unsigned w64 z)
bytes-Int z = ap bytes (sym (rolls-Int z)) ∙ fold-roll-Value (List ℕ) spelling_layer (Value-F.Int z)

bytes-Str : (t : List ℕ) → bytes (v.Str t) ≡ 4 ∷ text t
bytes-Str t = ap bytes (sym (rolls-Str t)) ∙ fold-roll-Value (List ℕ) spelling_layer (Value-F.Str t)

well_formed-Int : (z : ℤ) → well_formed (v.Int z) ≡ is_int z
well_formed-Int z = ap well_formed (sym (rolls-Int z)) ∙ fold-roll-Value Bool well_formed_layer (Value-F.Int z)

well_formed-Str : (t : List ℕ) → well_formed (v.Str t) ≡ is_text t
well_formed-Str t = ap well_formed (sym (rolls-Str t)) ∙ fold-roll-Value Bool well_formed_layer (Value-F.Str t)

depth-Int : (z : ℤ) → depth (v.Int z) ≡ 1
depth-Int z = ap depth (sym (rolls-Int z)) ∙ fold-roll-Value ℕ depth_layer (Value-F.Int z)

depth-Str : (t : List ℕ) → depth (v.Str t) ≡ 1
depth-Str t = ap depth (sym (rolls-Str t)) ∙ fold-roll-Value ℕ depth_layer (Value-F.Str t)

-- ---- what is read

one : (tag : ℕ) (b body : List ℕ) (w : Value) (rest : List ℕ) → bytes w ≡ tag ∷ body → Takes b body rest → Takes (tag ∷ b) (bytes w) rest
one tag b body w rest e t = record { parts = ap (λ l. tag ∷ l) t.parts ∙ ap (λ l. l ++ rest) (sym e); rest_fits = t.rest_fits }

abbrev pub Took : ℕ → List ℕ → Value × List ℕ → Type 0
Took d b x = Takes b (bytes x.0) x.1 × IsWellFormed x.0 × (depth x.0 ≤ d)

-- the keys ascend, and the first one stands after this one
abbrev pub chain : Option (List ℕ) → List (List ℕ) → Bool
chain last [] = true
chain last (k ∷ ks) = comes_after last k && chain (Some k) ks

chain_is : (k : List ℕ) (ks : List (List ℕ)) → chain (Some k) ks ≡ ascends (k ∷ ks)
chain_is k [] = refl
chain_is k (l ∷ ks) = ap (λ b. before k l && b) (chain_is l ks)

pub chain_first : (ks : List (List ℕ)) → chain None ks ≡ ascends ks
chain_first [] = refl
chain_first (k ∷ ks) = chain_is k ks

module _ (d : ℕ) (item : Reader Misread Value) (law : (b : List ℕ) (x : Value × List ℕ) → IsBytes b → item b ≡ Ok x → Took d b x) where
  several_takes : (n : ℕ) (b : List ℕ) (x : List Value × List ℕ) → IsBytes b → several item n b ≡ Ok x
      → Takes b (concatenation (map bytes x.0)) x.1 × (length x.0 ≡ n) × AllWellFormed x.0 × (greatest (map depth x.0) ≤ d)
  unfolding several
  several_takes zero b x fits e =
      subst (λ (y : List Value × List ℕ). Takes b (concatenation (map bytes y.0)) y.1 × (length y.0 ≡ 0) × AllWellFormed y.0 × (greatest (map depth y.0) ≤ d)) (ok_is ([], b) x e) (record { parts = refl; rest_fits = fits }, refl, refl, omega arith)
  several_takes (suc n) b x fits e =
      let a = bind_ok (item b) (λ first. several item n first.1 >>= λ others. Ok (first.0 ∷ others.0, others.1)) x e in
      let c = bind_ok (several item n a.0.1) (λ others. Ok (a.0.0 ∷ others.0, others.1)) x a.2 in
      let first = law b a.0 fits a.1 in
      let second = several_takes n a.0.1 c.0 first.0.rest_fits c.1 in
      let made : List Value × List ℕ = (a.0.0 ∷ c.0.0, c.0.1) in
      subst (λ (y : List Value × List ℕ). Takes b (concatenation (map bytes y.0)) y.1 × (length y.0 ≡ suc n) × AllWellFormed y.0 × (greatest (map depth y.0) ≤ d)) (ok_is made x c.2)
      (Takes-then b (bytes a.0.0) a.0.1 (concatenation (map bytes c.0.0)) c.0.1 first.0 second.0, ap suc second.1, both (well_formed a.0.0) (every (map well_formed c.0.0)) first.1 second.2, omega (arith, first.2, second.3))

  abbrev TookPairs : Option (List ℕ) → ℕ → List ℕ → List (List ℕ × Value) × List ℕ → Type 0
  TookPairs last n b x = Takes b (pairs_spelling (spelled_pairs x.0)) x.1 × (length x.0 ≡ n) × PairsWellFormed x.0 × (chain last (keys_of x.0) ≡ true) × (greatest (map (λ p. depth p.1) x.0) ≤ d)

  abbrev pub TookPair : Option (List ℕ) → List ℕ → (List ℕ × Value) × List ℕ → Type 0
  TookPair last b x = Takes b (text x.0.0 ++ bytes x.0.1) x.1 × (is_text x.0.0 ≡ true) × (comes_after last x.0.0 ≡ true) × IsWellFormed x.0.1 × (depth x.0.1 ≤ d)

  room_is : (k : ℕ) (b : List ℕ) (x : Unit {0} × List ℕ) → room_at k b ≡ Ok x → b ≡ x.1
  room_is k b x e = ap (λ (p : Unit {0} × List ℕ). p.1) (guard_ok (eqb k 0) TooDeep (tt, b) x e).1

  pub pair_takes : (last : Option (List ℕ)) (b : List ℕ) (x : (List ℕ × Value) × List ℕ) → IsBytes b → pair_at d item last b ≡ Ok x → TookPair last b x
  unfolding pair_at
  pair_takes last b x fits e =
      let r = bind_ok (room_at d b) (λ room. key_at last room.1 >>= λ key. item key.1 >>= λ value. Ok ((key.0, value.0), value.1)) x e in
      let k = bind_ok (key_at last r.0.1) (λ key. item key.1 >>= λ value. Ok ((key.0, value.0), value.1)) x r.2 in
      let w = bind_ok (item k.0.1) (λ value. Ok ((k.0.0, value.0), value.1)) x k.2 in
      let same : key_at last b ≡ Ok k.0 = ap (key_at last) (room_is d b r.0 r.1) ∙ k.1 in
      let key = key_takes last b k.0 fits same in
      let value = law k.0.1 w.0 key.0.rest_fits w.1 in
      let made : (List ℕ × Value) × List ℕ = ((k.0.0, w.0.0), w.0.1) in
      subst (λ (y : (List ℕ × Value) × List ℕ). TookPair last b y) (ok_is made x w.2)
      (Takes-then b (text k.0.0) k.0.1 (bytes w.0.0) w.0.1 key.0 value.0, key.1, key.2, value.1, value.2)

  pairs_takes : (n : ℕ) (last : Option (List ℕ)) (b : List ℕ) (x : List (List ℕ × Value) × List ℕ) → IsBytes b → pairs_at d item last n b ≡ Ok x → TookPairs last n b x
  unfolding pairs_at
  pairs_takes zero last b x fits e =
      subst (λ (y : List (List ℕ × Value) × List ℕ). TookPairs last 0 b y) (ok_is ([], b) x e) (record { parts = refl; rest_fits = fits }, refl, refl, refl, omega arith)
  pairs_takes (suc n) last b x fits e =
      let a = bind_ok (pair_at d item last b) (λ first. pairs_at d item (Some first.0.0) n first.1 >>= λ others. Ok (first.0 ∷ others.0, others.1)) x e in
      let c = bind_ok (pairs_at d item (Some a.0.0.0) n a.0.1) (λ others. Ok (a.0.0 ∷ others.0, others.1)) x a.2 in
      let first = pair_takes last b a.0 fits a.1 in
      let second = pairs_takes n (Some a.0.0.0) a.0.1 c.0 first.0.rest_fits c.1 in
      let made : List (List ℕ × Value) × List ℕ = (a.0.0 ∷ c.0.0, c.0.1) in
      let p = a.0.0 in
      let joins = Takes-then b (text p.0 ++ bytes p.1) a.0.1 (pairs_spelling (spelled_pairs c.0.0)) c.0.1 first.0 second.0 in
      let whole : Takes b (pairs_spelling (spelled_pairs (p ∷ c.0.0))) c.0.1 = subst (λ (t : List ℕ). Takes b t c.0.1) (append_assoc (text p.0) (bytes p.1) (pairs_spelling (spelled_pairs c.0.0))) joins in
      subst (λ (y : List (List ℕ × Value) × List ℕ). TookPairs last (suc n) b y) (ok_is made x c.2) (
        whole,
        ap suc second.1,
        both (is_text p.0) (well_formed p.1 && every_pair (pairs_told c.0.0)) first.1 (both (well_formed p.1) (every_pair (pairs_told c.0.0)) first.3 second.2),
        both (comes_after last p.0) (chain (Some p.0) (keys_of c.0.0)) first.2 second.3,
        omega (arith, first.4, second.4),
      )

tagged_takes : (d : ℕ) (item : Reader Misread Value) (law : (b : List ℕ) (x : Value × List ℕ) → IsBytes b → item b ≡ Ok x → Took d b x) (tag : ℕ) (b : List ℕ) (x : Value × List ℕ) → IsBytes b → tagged d item tag b ≡ Ok x → Took (suc d) (tag ∷ b) x
unfolding after_tag
tagged_takes d item law zero b x fits e =
    subst (λ (y : Value × List ℕ). Took (suc d) (0 ∷ b) y) (ok_is (v.Null, b) x e) (one 0 b [] v.Null b bytes-Null (record { parts = refl; rest_fits = fits }), well_formed-Null, omega (arith, depth-Null))
tagged_takes d item law (suc zero) b x fits e =
    subst (λ (y : Value × List ℕ). Took (suc d) (1 ∷ b) y) (ok_is (v.Flag false, b) x e) (one 1 b [] (v.Flag false) b (bytes-Flag false) (record { parts = refl; rest_fits = fits }), well_formed-Flag false, omega (arith, depth-Flag false))
tagged_takes d item law (suc (suc zero)) b x fits e =
    subst (λ (y : Value × List ℕ). Took (suc d) (2 ∷ b) y) (ok_is (v.Flag true, b) x e) (one 2 b [] (v.Flag true) b (bytes-Flag true) (record { parts = refl; rest_fits = fits }), well_formed-Flag true, omega (arith, depth-Flag true))
tagged_takes d item law (suc (suc (suc zero))) b x fits e =
    let a = bind_ok (int_at b) (λ z. Ok (v.Int z.0, z.1)) x e in
    let t = int_takes b a.0 fits a.1 in
    let made : Value × List ℕ = (v.Int a.0.0, a.0.1) in
    subst (λ (y : Value × List ℕ). Took (suc d) (3 ∷ b) y) (ok_is made x a.2)
    (one 3 b (to_be_bytes w64 (cast_unsigned w64 a.0.0)) (v.Int a.0.0) a.0.1 (bytes-Int a.0.0) t.0, well_formed-Int a.0.0 ∙ t.1, omega (arith, depth-Int a.0.0))
tagged_takes d item law (suc (suc (suc (suc zero)))) b x fits e =
    let a = bind_ok (text_at b) (λ t. Ok (v.Str t.0, t.1)) x e in
    let t = text_takes b a.0 fits a.1 in
    let made : Value × List ℕ = (v.Str a.0.0, a.0.1) in
    subst (λ (y : Value × List ℕ). Took (suc d) (4 ∷ b) y) (ok_is made x a.2)
    (one 4 b (text a.0.0) (v.Str a.0.0) a.0.1 (bytes-Str a.0.0) t.0, well_formed-Str a.0.0 ∙ t.1, omega (arith, depth-Str a.0.0))
tagged_takes d item law (suc (suc (suc (suc (suc zero))))) b x fits e =
    let n = bind_ok (count_at b) (λ n. several item n.0 n.1 >>= λ items. Ok (v.List items.0, items.1)) x e in
    let a = bind_ok (several item n.0.0 n.0.1) (λ items. Ok (v.List items.0, items.1)) x n.2 in
    let count = number_takes w32 (2 ^ 32) wide32 Short b n.0.0 n.0.1 fits n.1 in
    let t = several_takes d item law n.0.0 n.0.1 a.0 count.0.rest_fits a.1 in
    let xs = a.0.0 in
    let joins = Takes-then b (to_be_bytes w32 n.0.0) n.0.1 (concatenation (map bytes xs)) a.0.1 count.0 t.0 in
    let whole : Takes b (to_be_bytes w32 (length xs) ++ concatenation (map bytes xs)) a.0.1 = subst (λ (k : ℕ). Takes b (to_be_bytes w32 k ++ concatenation (map bytes xs)) a.0.1) (sym t.1) joins in
    let small : length xs < 2 ^ 32 = omega (arith, t.1, count.1) in
    let made : Value × List ℕ = (v.List xs, a.0.1) in
    subst (λ (y : Value × List ℕ). Took (suc d) (5 ∷ b) y) (ok_is made x a.2)
    (one 5 b (to_be_bytes w32 (length xs) ++ concatenation (map bytes xs)) (v.List xs) a.0.1 (bytes-List xs) whole, well_formed-List xs ∙ both (is_count (length xs)) (every (map well_formed xs)) (is_count_of (length xs) small) t.2, omega (arith, depth-List xs, t.3))
tagged_takes d item law (suc (suc (suc (suc (suc (suc zero)))))) b x fits e =
    let n = bind_ok (count_at b) (λ n. pairs_at d item None n.0 n.1 >>= λ pairs. Ok (v.Map pairs.0, pairs.1)) x e in
    let a = bind_ok (pairs_at d item None n.0.0 n.0.1) (λ pairs. Ok (v.Map pairs.0, pairs.1)) x n.2 in
    let count = number_takes w32 (2 ^ 32) wide32 Short b n.0.0 n.0.1 fits n.1 in
    let t = pairs_takes d item law n.0.0 None n.0.1 a.0 count.0.rest_fits a.1 in
    let ps = a.0.0 in
    let joins = Takes-then b (to_be_bytes w32 n.0.0) n.0.1 (pairs_spelling (spelled_pairs ps)) a.0.1 count.0 t.0 in
    let whole : Takes b (to_be_bytes w32 (length ps) ++ pairs_spelling (spelled_pairs ps)) a.0.1 = subst (λ (k : ℕ). Takes b (to_be_bytes w32 k ++ pairs_spelling (spelled_pairs ps)) a.0.1) (sym t.1) joins in
    let small : length ps < 2 ^ 32 = omega (arith, t.1, count.1) in
    let ordered : ascends (keys_of ps) ≡ true = sym (chain_first (keys_of ps)) ∙ t.3 in
    let made : Value × List ℕ = (v.Map ps, a.0.1) in
    subst (λ (y : Value × List ℕ). Took (suc d) (6 ∷ b) y) (ok_is made x a.2) (
      one 6 b (to_be_bytes w32 (length ps) ++ pairs_spelling (spelled_pairs ps)) (v.Map ps) a.0.1 (bytes-Map ps) whole,
      well_formed-Map ps ∙ both (is_count (length ps)) (every_pair (pairs_told ps) && ascends (keys_of ps)) (is_count_of (length ps) small) (both (every_pair (pairs_told ps)) (ascends (keys_of ps)) t.2 ordered),
      omega (arith, depth-Map ps, t.4),
    )
tagged_takes d item law (suc (suc (suc (suc (suc (suc (suc t))))))) b x fits e =
    let none : after_tag d item None b ≡ Ok x = sym (ap (λ (t : Option Tag). after_tag d item t b) (tag_of-past t)) ∙ e in absurd cc

pub value_takes : (d : ℕ) (b : List ℕ) (x : Value × List ℕ) → IsBytes b → value_at d b ≡ Ok x → Took d b x
unfolding value_at
value_takes zero b x fits e = absurd cc
value_takes (suc d) [] x fits e = absurd cc
value_takes (suc d) (tag ∷ b) x fits e = tagged_takes d (value_at d) (value_takes d) tag b x (IsBytes-rest tag b fits) e

-- ---- what is spelled is read

not_zero : (n : ℕ) → 1 ≤ n → eqb n 0 ≡ false
not_zero zero h = absurd (omega arith)
not_zero (suc n) h = ne_eqb (suc n) 0 (λ e. omega (arith, e))

positive_step : (l : Value-F ℕ) → 1 ≤ depth_layer l
positive_step Value-F.Null = omega arith
positive_step (Value-F.Flag b) = omega arith
positive_step (Value-F.Int z) = omega arith
positive_step (Value-F.Str t) = omega arith
positive_step (Value-F.List ns) = omega arith
positive_step (Value-F.Map ps) = omega arith

pub positive : (w : Value) → 1 ≤ depth w
positive w = rw (fold_out-Value ℕ depth_layer w) (positive_step (map-Value _ _ depth (out-Value w)))

module _ (d : ℕ) (item : Reader Misread Value) (law : (w : Value) (rest : List ℕ) → IsWellFormed w → depth w ≤ d → item (bytes w ++ rest) ≡ Ok (w, rest)) where
  several_again : (ws : List Value) (rest : List ℕ) → AllWellFormed ws → greatest (map depth ws) ≤ d → several item (length ws) (concatenation (map bytes ws) ++ rest) ≡ Ok (ws, rest)
  unfolding several
  several_again [] rest h deep = refl
  several_again (w ∷ ws) rest h deep =
      let parts = both_true (well_formed w) (every (map well_formed ws)) h in
      let regrouped : concatenation (map bytes (w ∷ ws)) ++ rest ≡ bytes w ++ (concatenation (map bytes ws) ++ rest) = append_assoc (bytes w) (concatenation (map bytes ws)) rest in
      ap (several item (suc (length ws))) regrouped ∙ rw (law w (concatenation (map bytes ws) ++ rest) parts.0 (omega arith), several_again ws rest parts.1 (omega arith)) refl

  pub pair_again : (last : Option (List ℕ)) (p : List ℕ × Value) (rest : List ℕ) → is_text p.0 ≡ true → comes_after last p.0 ≡ true → IsWellFormed p.1 → depth p.1 ≤ d
      → pair_at d item last (text p.0 ++ (bytes p.1 ++ rest)) ≡ Ok (p, rest)
  unfolding pair_at
  pair_again last p rest t after h deep =
      let some : eqb d 0 ≡ false = not_zero d (omega (arith, positive p.1)) in
      rw (some, key_again last p.0 (bytes p.1 ++ rest) t after, law p.1 rest h deep) refl

  pairs_again : (ps : List (List ℕ × Value)) (last : Option (List ℕ)) (rest : List ℕ) → PairsWellFormed ps → chain last (keys_of ps) ≡ true → greatest (map (λ (p : List ℕ × Value). depth p.1) ps) ≤ d
      → pairs_at d item last (length ps) (pairs_spelling (spelled_pairs ps) ++ rest) ≡ Ok (ps, rest)
  unfolding pairs_at
  pairs_again [] last rest h order deep = refl
  pairs_again (p ∷ ps) last rest h order deep =
      let parts = both_true (is_text p.0) (well_formed p.1 && every_pair (pairs_told ps)) h in
      let more = both_true (well_formed p.1) (every_pair (pairs_told ps)) parts.1 in
      let after = both_true (comes_after last p.0) (chain (Some p.0) (keys_of ps)) order in
      let regrouped : pairs_spelling (spelled_pairs (p ∷ ps)) ++ rest ≡ text p.0 ++ (bytes p.1 ++ (pairs_spelling (spelled_pairs ps) ++ rest))
      = append_assoc (text p.0) (bytes p.1 ++ pairs_spelling (spelled_pairs ps)) rest ∙ ap (λ l. text p.0 ++ l) (append_assoc (bytes p.1) (pairs_spelling (spelled_pairs ps)) rest) in
      ap (pairs_at d item last (suc (length ps))) regrouped
      ∙ rw (pair_again last p (pairs_spelling (spelled_pairs ps) ++ rest) parts.0 after.0 more.0 (omega arith), pairs_again ps (Some p.0) rest more.1 after.1 (omega arith)) refl

abbrev Again : ℕ → Value → Type 0
Again d w = (rest : List ℕ) → IsWellFormed w → depth w ≤ suc d → value_at (suc d) (bytes w ++ rest) ≡ Ok (w, rest)

module _ (d : ℕ) (law : (w : Value) (rest : List ℕ) → IsWellFormed w → depth w ≤ d → value_at d (bytes w ++ rest) ≡ Ok (w, rest)) where
  at_tag : (w : Value) (tag : ℕ) (body rest : List ℕ) → bytes w ≡ tag ∷ body → tagged d (value_at d) tag (body ++ rest) ≡ Ok (w, rest) → value_at (suc d) (bytes w ++ rest) ≡ Ok (w, rest)
  unfolding value_at
  at_tag w tag body rest e h = ap (λ l. value_at (suc d) (l ++ rest)) e ∙ h

  again_Null : Again d v.Null
  unfolding after_tag
  again_Null rest h deep = at_tag v.Null 0 [] rest bytes-Null refl

  again_Flag : (b : Bool) → Again d (v.Flag b)
  unfolding after_tag
  again_Flag false rest h deep = at_tag (v.Flag false) 1 [] rest (bytes-Flag false) refl
  again_Flag true rest h deep = at_tag (v.Flag true) 2 [] rest (bytes-Flag true) refl

  again_Int : (z : ℤ) → Again d (v.Int z)
  unfolding after_tag
  again_Int z rest h deep = at_tag (v.Int z) 3 (to_be_bytes w64 (cast_unsigned w64 z)) rest (bytes-Int z) (ap (λ r. r >>= λ x. Ok (v.Int x.0, x.1)) (int_again z rest (sym (well_formed-Int z) ∙ h)))

  again_Str : (t : List ℕ) → Again d (v.Str t)
  unfolding after_tag
  again_Str t rest h deep = at_tag (v.Str t) 4 (text t) rest (bytes-Str t) (ap (λ r. r >>= λ x. Ok (v.Str x.0, x.1)) (text_again t rest (sym (well_formed-Str t) ∙ h)))

  again_List : (ws : List Value) → Again d (v.List ws)
  unfolding after_tag
  again_List ws rest h deep =
      let parts = both_true (is_count (length ws)) (every (map well_formed ws)) (sym (well_formed-List ws) ∙ h) in
      at_tag (v.List ws) 5 (to_be_bytes w32 (length ws) ++ concatenation (map bytes ws)) rest (bytes-List ws)
      (ap (tagged d (value_at d) 5) (append_assoc (to_be_bytes w32 (length ws)) (concatenation (map bytes ws)) rest)
      ∙ rw (number_again w32 (2 ^ 32) wide32 Short (length ws) (concatenation (map bytes ws) ++ rest) (count_of_is (length ws) parts.0), several_again d (value_at d) law ws rest parts.1 (omega (arith, depth-List ws))) refl)

  again_Map : (ps : List (List ℕ × Value)) → Again d (v.Map ps)
  unfolding after_tag
  again_Map ps rest h deep =
      let parts = both_true (is_count (length ps)) (every_pair (pairs_told ps) && ascends (keys_of ps)) (sym (well_formed-Map ps) ∙ h) in
      let more = both_true (every_pair (pairs_told ps)) (ascends (keys_of ps)) parts.1 in
      at_tag (v.Map ps) 6 (to_be_bytes w32 (length ps) ++ pairs_spelling (spelled_pairs ps)) rest (bytes-Map ps)
      (ap (tagged d (value_at d) 6) (append_assoc (to_be_bytes w32 (length ps)) (pairs_spelling (spelled_pairs ps)) rest)
      ∙ rw (number_again w32 (2 ^ 32) wide32 Short (length ps) (pairs_spelling (spelled_pairs ps) ++ rest) (count_of_is (length ps) parts.0), pairs_again d (value_at d) law ps None rest more.0 (chain_first (keys_of ps) ∙ more.1) (omega (arith, depth-Map ps))) refl)

  again_layer : (l : Value-F Value) → Again d (roll-Value l)
  again_layer Value-F.Null = subst (Again d) (sym rolls-Null) again_Null
  again_layer (Value-F.Flag b) = subst (Again d) (sym (rolls-Flag b)) (again_Flag b)
  again_layer (Value-F.Int z) = subst (Again d) (sym (rolls-Int z)) (again_Int z)
  again_layer (Value-F.Str t) = subst (Again d) (sym (rolls-Str t)) (again_Str t)
  again_layer (Value-F.List ws) = subst (Again d) (sym (rolls-List ws)) (again_List ws)
  again_layer (Value-F.Map ps) = subst (Again d) (sym (rolls-Map ps)) (again_Map ps)

pub value_again : (d : ℕ) (w : Value) (rest : List ℕ) → IsWellFormed w → depth w ≤ d → value_at d (bytes w ++ rest) ≡ Ok (w, rest)
value_again zero w rest h deep = absurd (omega (arith, positive w))
value_again (suc d) w rest h deep = subst (Again d) (roll-out-Value w) (again_layer d (value_again d) (out-Value w)) rest h deep
