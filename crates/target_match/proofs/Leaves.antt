-- Readable and bad leaves in lists of leaves.
use Rattle.std.proofs.Common.{◌≡◌, ℕ, zero, suc, ◌+◌, ◌<◌, List, [], ◌∷◌, ◌++◌, length, Option, None, Some, slice_index_or, subst, sym, ap, ◌∙◌, refl, arith}
use Rattle.std.specs.Prelude.{Result, Ok, Err, IfErr, IsErrAnd}
use Rattle.target_match.specs.declared.fault.BuildFault.{BuildFault}
use Rattle.target_match.specs.declared.fault.BuildFault.TheVariants.{NoMemory, BadPattern, TooBig}
use Rattle.target_match.specs.Patterns.{IsReadable}
use Rattle.target_match.specs.Holds.{IsReadableLeaf, AreReadable, IsBadAt, IsBigAt, leaf_count, IsToldAs}
use Rattle.target_match.specs.Building.{IsRefusalOf, IsFaultOf}

abbrev Leaves : Type 0
Leaves = List (Option (List ℕ))

pub readable_none : AreReadable (None ∷ [])
readable_none zero lt = tt
readable_none (suc k) lt = absurd (omega (arith, lt))

pub readable_one : (pattern : List ℕ) → IsReadable pattern → AreReadable (Some pattern ∷ [])
readable_one pattern h zero lt = h
readable_one pattern h (suc k) lt = absurd (omega (arith, lt))

after_first : (x : Option (List ℕ)) (xs : Leaves) → AreReadable (x ∷ xs) → AreReadable xs
after_first x xs h k lt = h (suc k) (omega (arith, lt))

pub readable_both : (left right : Leaves) → AreReadable left → AreReadable right → AreReadable (left ++ right)
readable_both [] right a b k lt = b k lt
readable_both (x ∷ left) right a b zero lt = a zero (omega arith)
readable_both (x ∷ left) right a b (suc k) lt = readable_both left right (after_first x left a) b k (omega (arith, lt))

before : (x : Option (List ℕ)) (xs : Leaves) (at : ℕ) → IsReadableLeaf x → ((k : ℕ) → k < at → IsReadableLeaf (slice_index_or xs k None)) → (k : ℕ) → k < suc at → IsReadableLeaf (slice_index_or (x ∷ xs) k None)
before x xs at r b zero lt = r
before x xs at r b (suc k) lt = b k (omega (arith, lt))

bad_later : (x : Option (List ℕ)) (xs : Leaves) (at : ℕ) → IsReadableLeaf x → IsBadAt xs at → IsBadAt (x ∷ xs) (suc at)
bad_later x xs at r b = record {
  within = let lt : at < length xs = b.within in omega (arith, lt);
  bad = b.bad;
  before = λ k lt. before x xs at r b.before k lt;
}

bad_first : (x : Option (List ℕ)) (xs : Leaves) → (IsReadableLeaf x → ⊥) → IsBadAt (x ∷ xs) zero
bad_first x xs unread = record { within = omega arith; bad = unread; before = λ k lt. absurd (omega (arith, lt)) }

bad_rest : (x : Option (List ℕ)) (xs : Leaves) (at : ℕ) → IsBadAt (x ∷ xs) (suc at) → IsBadAt xs at
bad_rest x xs at b = record {
  within = let lt : suc at < length (x ∷ xs) = b.within in omega (arith, lt);
  bad = b.bad;
  before = λ k lt. b.before (suc k) (omega (arith, lt));
}

bad_left : (left right : Leaves) (at : ℕ) → IsBadAt left at → IsBadAt (left ++ right) at
bad_left [] right at b = let lt : at < length {A = Option (List ℕ)} [] = b.within in absurd (omega (arith, lt))
bad_left (x ∷ left) right zero b = bad_first x (left ++ right) b.bad
bad_left (x ∷ left) right (suc at) b =
    bad_later x (left ++ right) at (b.before zero (omega arith)) (bad_left left right at (bad_rest x left at b))

bad_right : (left right : Leaves) (at place : ℕ) → place ≡ length left + at → AreReadable left → IsBadAt right at → IsBadAt (left ++ right) place
bad_right [] right at place e a b = let same : at ≡ place = omega (arith, e) in subst (IsBadAt right) same b
bad_right (x ∷ left) right at zero e a b = absurd (omega (arith, e))
bad_right (x ∷ left) right at (suc place) e a b =
    bad_later x (left ++ right) place (a zero (omega arith)) (bad_right left right at place (omega (arith, e)) (after_first x left a) b)

-- the same of a leaf that is too big
big_later : (x : Option (List ℕ)) (xs : Leaves) (at : ℕ) → IsReadableLeaf x → IsBigAt xs at → IsBigAt (x ∷ xs) (suc at)
big_later x xs at r b = record {
  within = let lt : at < length xs = b.within in omega (arith, lt);
  big = b.big;
  before = λ k lt. before x xs at r b.before k lt;
}

big_first : (pattern : List ℕ) (xs : Leaves) → IsReadable pattern → IsBigAt (Some pattern ∷ xs) zero
big_first pattern xs r = record { within = omega arith; big = r; before = λ k lt. absurd (omega (arith, lt)) }

big_left : (left right : Leaves) (at : ℕ) → IsBigAt left at → IsBigAt (left ++ right) at
big_left [] right at b = let lt : at < length {A = Option (List ℕ)} [] = b.within in absurd (omega (arith, lt))
big_left (x ∷ left) right zero b = record { within = omega arith; big = b.big; before = λ k lt. absurd (omega (arith, lt)) }
big_left (x ∷ left) right (suc at) b =
    let lt : suc at < length (x ∷ left) = b.within in
    big_later x (left ++ right) at (b.before zero (omega arith))
    (big_left left right at (record { within = omega (arith, lt); big = b.big; before = λ k le. b.before (suc k) (omega (arith, le)) }))

big_right : (left right : Leaves) (at place : ℕ) → place ≡ length left + at → AreReadable left → IsBigAt right at → IsBigAt (left ++ right) place
big_right [] right at place e a b = let same : at ≡ place = omega (arith, e) in subst (IsBigAt right) same b
big_right (x ∷ left) right at zero e a b = absurd (omega (arith, e))
big_right (x ∷ left) right at (suc place) e a b = big_later x (left ++ right) place (a zero (omega arith)) (big_right left right at place (omega (arith, e)) (after_first x left a) b)

-- a count goes on from a count
counts_on : (a b : ℕ) → leaf_count (leaf_count a + b) ≡ leaf_count (a + b)
counts_on a b = grind arith

none_before : (leaf first : ℕ) → leaf ≡ leaf_count first → leaf ≡ leaf_count (first + zero)
none_before leaf first e = let same : first ≡ first + zero = omega arith in e ∙ ap leaf_count same

some_before : (leaf first next n at : ℕ) → next ≡ leaf_count (first + n) → leaf ≡ leaf_count (next + at) → leaf ≡ leaf_count (first + (n + at))
some_before leaf first next n at e f =
    let sum : (first + n) + at ≡ first + (n + at) = omega arith in
    f ∙ ap (λ x. leaf_count (x + at)) e ∙ counts_on (first + n) at ∙ ap leaf_count sum

pub fault_one : (pattern : List ℕ) (leaf first : ℕ) (e : BuildFault) → leaf ≡ leaf_count first → IsRefusalOf pattern leaf e → IsFaultOf (Some pattern ∷ []) first e
fault_one pattern leaf first NoMemory same h = tt
fault_one pattern leaf first (BadPattern at) same h = (zero, h.0 ∙ none_before leaf first same, bad_first (Some pattern) [] h.1)
fault_one pattern leaf first (TooBig at) same h = (zero, h.0 ∙ none_before leaf first same, big_first pattern [] h.1)

pub fault_left : (left right : Leaves) (first : ℕ) (e : BuildFault) → IsFaultOf left first e → IsFaultOf (left ++ right) first e
fault_left left right first NoMemory h = tt
fault_left left right first (BadPattern leaf) h = (h.0, h.1, bad_left left right h.0 h.2)
fault_left left right first (TooBig leaf) h = (h.0, h.1, big_left left right h.0 h.2)

pub fault_right : (left right : Leaves) (first next : ℕ) (e : BuildFault) → AreReadable left → next ≡ leaf_count (first + length left) → IsFaultOf right next e → IsFaultOf (left ++ right) first e
fault_right left right first next NoMemory a n h = tt
fault_right left right first next (BadPattern leaf) a n h = (length left + h.0, some_before leaf first next (length left) h.0 n h.1, bad_right left right h.0 (length left + h.0) refl a h.2)
fault_right left right first next (TooBig leaf) a n h = (length left + h.0, some_before leaf first next (length left) h.0 n h.1, big_right left right h.0 (length left + h.0) refl a h.2)

pub bad_whole : (leaves : Leaves) (leaf : ℕ) → IsFaultOf leaves 0 (BadPattern leaf) → IsToldAs leaf (IsBadAt leaves)
bad_whole leaves leaf h = let same : 0 + h.0 ≡ h.0 = omega arith in (h.0, h.1 ∙ ap leaf_count same, h.2)

pub big_whole : (leaves : Leaves) (leaf : ℕ) → IsFaultOf leaves 0 (TooBig leaf) → IsToldAs leaf (IsBigAt leaves)
big_whole leaves leaf h = let same : 0 + h.0 ≡ h.0 = omega arith in (h.0, h.1 ∙ ap leaf_count same, h.2)

-- what `?` hands on
pub handed : {A : Type 0} (r : Result A BuildFault) (e : BuildFault) (leaves : Leaves) (first : ℕ) → IsErrAnd r (λ f. f ≡ e) → IsFaultOf leaves first e → IfErr r (IsFaultOf leaves first)
handed (Ok x) e leaves first h p = absurd h
handed (Err f) e leaves first h p = subst (IsFaultOf leaves first) (sym h) p

length_both : (left right : Leaves) → length (left ++ right) ≡ length left + length right
length_both [] right = omega arith
length_both (x ∷ left) right = let e : length (left ++ right) ≡ length left + length right = length_both left right in omega (arith, e)

pub both_counted : (left right : Leaves) (first next last : ℕ) → next ≡ leaf_count (first + length left) → last ≡ leaf_count (next + length right) → last ≡ leaf_count (first + length (left ++ right))
both_counted left right first next last e f = some_before last first next (length left) (length right) e f ∙ ap (λ n. leaf_count (first + n)) (sym (length_both left right))
