-- Keys, and their order by bytes.
use Rattle.std.specs.Prelude.{◌≡◌, ℕ, Bool, true, ◌&&◌, List, [], ◌∷◌, map, Option, Some, None, if◌then◌else◌}
use Rattle.std.specs.Str.{bytes_eq}
use Rattle.std.specs.Ordering.{nat_cmp, is_lt}
use Rattle.std.specs.Cmp.Lexicographic.{slice_cmp}

-- the keys of pairs
abbrev pub keys_of : {A : Type 0} → List (List ℕ × A) → List (List ℕ)
keys_of ps = map (λ p. p.0) ps

-- the first key stands before the second, by bytes
abbrev pub before : List ℕ → List ℕ → Bool
before a b = is_lt (slice_cmp nat_cmp a b)

-- each key stands before the next
abbrev pub ascends : List (List ℕ) → Bool
ascends [] = true
ascends (k ∷ []) = true
ascends (k ∷ l ∷ ks) = before k l && ascends (l ∷ ks)

-- the keys ascend strictly by bytes
abbrev pub Ascend : List (List ℕ) → Type 0
Ascend ks = ascends ks ≡ true

-- the last pair's key
abbrev pub last_key : {A : Type 0} → List (List ℕ × A) → Option (List ℕ)
last_key [] = None
last_key (p ∷ []) = Some p.0
last_key (p ∷ q ∷ ps) = last_key (q ∷ ps)

-- a key may stand after this one, or first
abbrev pub comes_after : Option (List ℕ) → List ℕ → Bool
comes_after None key = true
comes_after (Some last) key = before last key

-- what stands under exactly this key
abbrev pub under : {A : Type 0} → List ℕ → List (List ℕ × A) → Option A
under key [] = None
under key (p ∷ ps) = if bytes_eq p.0 key then Some p.1 else under key ps
