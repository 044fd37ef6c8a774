-- Globs on a value, one equation for each kind, and over lists from the left.
use Rattle.std.proofs.Common.{◌≡◌, ℕ, zero, suc, ◌+◌, ◌<◌, ◌≤◌, ◌||◌, Bool, true, false, List, [], ◌∷◌, length, map, get_or, drop, refl, sym, ap, ◌∙◌, arith}
use Rattle.std.specs.Prelude.{codes, ℤ, Option, Some, Result, Ok, Err, IfOk, bytes_eq, if◌then◌else◌}
use Rattle.std.specs.List.{list_any}
use Rattle.std.specs.Fmt.{signed_decimal}
use Rattle.std.proofs.lemmas.List.{drop_more}
use denote.Param.Weighed.{most}
use Rattle.salt_glob.specs.LowerCase.{glob_caseless}
use Rattle.salt_value.specs.Keys.{under}
use Rattle.salt_value.specs.Scalar.{flag_text}
use Rattle.salt_value.specs.declared.value.Value.{Value, Null, Flag, Int, Str, List as ListOf, Map, size-Value, fold-roll-Value}
use Rattle.salt_value.specs.declared.value.Value.TheVariants.{rolls-Null, rolls-Flag, rolls-Int, rolls-Str, rolls-List, rolls-Map}
use Rattle.salt_value.specs.declared.value.Value.TheOpen.{Value-F}
use Rattle.target_match.specs.Patterns.{starts}
use Rattle.target_match.specs.Holds.{glob_holds, pattern_holds}
use Rattle.target_match.specs.Paths.{parts, path_of, pattern_of}
use Rattle.target_match.specs.Data.{Test, meets_layer, meets, map_meets, told_pairs, child_passes, reaches_layer, reaches, map_reaches, reaches_pairs}
use Rattle.target_match.proofs.Splits.{parts-joined, some_parts}

any-map : (items : List Value) (ps : List (List ℕ)) → list_any (λ item. item ps) (map meets items) ≡ list_any (λ v. meets v ps) items
any-map [] ps = refl
any-map (v ∷ items) ps = ap (λ b. meets v ps || b) (any-map items ps)

pub meets-List : (items : List Value) (ps : List (List ℕ)) → meets (ListOf items) ps ≡ list_any (λ v. meets v ps) items
meets-List items ps = ap (λ v. meets v ps) (sym (rolls-List items)) ∙ ap (λ (t : Test). t ps) (fold-roll-Value Test meets_layer (Value-F.List items)) ∙ any-map items ps

pub meets-Map : (pairs : List (List ℕ × Value)) (ps : List (List ℕ)) → meets (Map pairs) ps ≡ map_meets (told_pairs pairs) ps
meets-Map pairs ps = ap (λ v. meets v ps) (sym (rolls-Map pairs)) ∙ ap (λ (t : Test). t ps) (fold-roll-Value Test meets_layer (Value-F.Map pairs))

pub meets-Null : (text : List ℕ) → meets Null (parts text) ≡ glob_caseless text (codes "None")
meets-Null text =
    ap (λ v. meets v (parts text)) (sym rolls-Null) ∙ ap (λ (t : Test). t (parts text)) (fold-roll-Value Test meets_layer Value-F.Null)
    ∙ ap (λ p. glob_caseless p (codes "None")) (parts-joined text)

pub meets-Flag : (flag : Bool) (text : List ℕ) → meets (Flag flag) (parts text) ≡ glob_caseless text (flag_text flag)
meets-Flag flag text =
    ap (λ v. meets v (parts text)) (sym (rolls-Flag flag)) ∙ ap (λ (t : Test). t (parts text)) (fold-roll-Value Test meets_layer (Value-F.Flag flag))
    ∙ ap (λ p. glob_caseless p (flag_text flag)) (parts-joined text)

pub meets-Str : (own text : List ℕ) → meets (Str own) (parts text) ≡ glob_caseless text own
meets-Str own text =
    ap (λ v. meets v (parts text)) (sym (rolls-Str own)) ∙ ap (λ (t : Test). t (parts text)) (fold-roll-Value Test meets_layer (Value-F.Str own))
    ∙ ap (λ p. glob_caseless p own) (parts-joined text)

-- no member passes up to one more
or_false : (a b : Bool) → a ≡ false → (a || b) ≡ b
or_false true b e = absurd cc
or_false false b e = refl

or_true : (a b : Bool) → a ≡ true → (a || b) ≡ true
or_true true b e = refl
or_true false b e = absurd cc

pub any-next : {A : Type 0} (p : A → Bool) (xs : List A) (i : ℕ) (d : A) → i < length xs → list_any p (drop i xs) ≡ (p (get_or xs i d) || list_any p (drop (i + 1) xs))
any-next p xs i d lt = ap (list_any p) (drop_more xs i d lt)

pub any-none : {A : Type 0} (p : A → Bool) (xs : List A) (i : ℕ) (d : A) → i < length xs → p (get_or xs i d) ≡ false → list_any p (drop i xs) ≡ list_any p (drop (i + 1) xs)
any-none p xs i d lt e = any-next p xs i d lt ∙ or_false _ _ e

pub any-some : {A : Type 0} (p : A → Bool) (xs : List A) (i : ℕ) (d : A) → i < length xs → p (get_or xs i d) ≡ true → list_any p (drop i xs) ≡ true
any-some p xs i d lt e = any-next p xs i d lt ∙ or_true _ _ e

-- the pairs whose keys are tested
keys-map : (p : List ℕ → Bool) (pairs : List (List ℕ × Value)) → list_any (λ pair. p pair.0) (told_pairs pairs) ≡ list_any (λ pair. p pair.0) pairs
keys-map p [] = refl
keys-map p (x ∷ pairs) = ap (λ b. p x.0 || b) (keys-map p pairs)

pub keys-any : (glob : List ℕ) (pairs : List (List ℕ × Value)) → list_any (λ pair. glob_caseless glob pair.0) (told_pairs pairs) ≡ list_any (λ pair. glob_caseless glob pair.0) pairs
keys-any glob pairs = keys-map (glob_caseless glob) pairs

-- the child under a key, from the left
under-here : (c : Bool) (t : Test) (o : Option Test) → c ≡ true → (if c then Some t else o) ≡ Some t
under-here true t o e = refl
under-here false t o e = absurd cc

under-later : (c : Bool) (t : Test) (o : Option Test) → c ≡ false → (if c then Some t else o) ≡ o
under-later true t o e = absurd cc
under-later false t o e = refl

pub child-here : (key : List ℕ) (pairs : List (List ℕ × Value)) (i : ℕ) (d : List ℕ × Value) (ps : List (List ℕ)) → i < length pairs → bytes_eq (get_or pairs i d).0 key ≡ true
    → child_passes (under key (told_pairs (drop i pairs))) ps ≡ meets (get_or pairs i d).1 ps
child-here key pairs i d ps lt e =
    ap (λ l. child_passes (under key (told_pairs l)) ps) (drop_more pairs i d lt) ∙ ap (λ o. child_passes o ps) (under-here _ _ _ e)

pub child-later : (key : List ℕ) (pairs : List (List ℕ × Value)) (i : ℕ) (d : List ℕ × Value) (ps : List (List ℕ)) → i < length pairs → bytes_eq (get_or pairs i d).0 key ≡ false
    → child_passes (under key (told_pairs (drop i pairs))) ps ≡ child_passes (under key (told_pairs (drop (i + 1) pairs))) ps
child-later key pairs i d ps lt e =
    ap (λ l. child_passes (under key (told_pairs l)) ps) (drop_more pairs i d lt) ∙ ap (λ o. child_passes o ps) (under-later _ _ _ e)

pub pairs_most : (ps : List (List ℕ × Value)) (i : ℕ) (d : List ℕ × Value) → i < length ps → size-Value (get_or ps i d).1 ≤ most size-Value (map (λ p. p.1) ps)
pairs_most [] i d lt = absurd (omega arith)
pairs_most (p ∷ ps) zero d lt = omega arith
pairs_most (p ∷ ps) (suc i) d lt = let h : size-Value (get_or ps i d).1 ≤ most size-Value (map (λ p. p.1) ps) = pairs_most ps i d (omega arith) in omega arith

pub meets-Int : (number : ℤ) (text : List ℕ) → meets (Int number) (parts text) ≡ glob_caseless text (signed_decimal number)
meets-Int number text =
    ap (λ v. meets v (parts text)) (sym (rolls-Int number)) ∙ ap (λ (t : Test). t (parts text)) (fold-roll-Value Test meets_layer (Value-F.Int number))
    ∙ ap (λ p. glob_caseless p (signed_decimal number)) (parts-joined text)

pub carried : {E : Type 0} (r : Result Bool E) (x y : Bool) → IfOk r (λ b. b ≡ x) → x ≡ y → IfOk r (λ b. b ≡ y)
carried (Ok b) x y h e = h ∙ e
carried (Err f) x y h e = tt

-- a first part before others is a key
pub more_parts : (pairs : List (List ℕ × Test)) (key rest text : List ℕ) → parts text ≡ key ∷ parts rest → map_meets pairs (parts text) ≡ child_passes (under key pairs) (parts rest)
more_parts pairs key rest text e =
    let r = some_parts rest in
    ap (map_meets pairs) (e ∙ ap (λ l. key ∷ l) r.2) ∙ ap (child_passes (under key pairs)) (sym r.2)

-- The same of any test of values: the child under a key from the left, the keys, and one equation for lists and maps.
pub child-found : (f : Value → Test) (key : List ℕ) (pairs : List (List ℕ × Value)) (i : ℕ) (d : List ℕ × Value) (ps : List (List ℕ)) → i < length pairs → bytes_eq (get_or pairs i d).0 key ≡ true
    → child_passes (under key (map (λ p. (p.0, f p.1)) (drop i pairs))) ps ≡ f (get_or pairs i d).1 ps
child-found f key pairs i d ps lt e =
    ap (λ (l : List (List ℕ × Value)). child_passes (under key (map (λ p. (p.0, f p.1)) l)) ps) (drop_more pairs i d lt) ∙ ap (λ o. child_passes o ps) (under-here _ _ _ e)

pub keys-told : (f : Value → Test) (test : List ℕ → Bool) (pairs : List (List ℕ × Value)) → list_any (λ (p : List ℕ × Test). test p.0) (map (λ (p : List ℕ × Value). (p.0, f p.1)) pairs) ≡ list_any (λ (p : List ℕ × Value). test p.0) pairs
keys-told f test [] = refl
keys-told f test (x ∷ pairs) = ap (λ b. test x.0 || b) (keys-told f test pairs)

any-reached : (test : List ℕ → Bool) (items : List Value) (ps : List (List ℕ)) → list_any (λ item. item ps) (map (reaches test) items) ≡ list_any (λ v. reaches test v ps) items
any-reached test [] ps = refl
any-reached test (v ∷ items) ps = ap (λ b. reaches test v ps || b) (any-reached test items ps)

pub reached-List : (test : List ℕ → Bool) (items : List Value) (ps : List (List ℕ)) → reaches test (ListOf items) ps ≡ list_any (λ v. reaches test v ps) items
reached-List test items ps =
    ap (λ v. reaches test v ps) (sym (rolls-List items)) ∙ ap (λ (t : Test). t ps) (fold-roll-Value Test (reaches_layer test) (Value-F.List items)) ∙ any-reached test items ps

pub reached-Map : (test : List ℕ → Bool) (pairs : List (List ℕ × Value)) (ps : List (List ℕ)) → reaches test (Map pairs) ps ≡ map_reaches test (reaches_pairs test pairs) ps
reached-Map test pairs ps = ap (λ v. reaches test v ps) (sym (rolls-Map pairs)) ∙ ap (λ (t : Test). t ps) (fold-roll-Value Test (reaches_layer test) (Value-F.Map pairs))

-- a leaf on data, over the pairs of the map
pub glob-holds : (text : List ℕ) (pairs : List (List ℕ × Value)) → glob_holds text pairs ≡ map_meets (told_pairs pairs) (parts text)
glob-holds text pairs = meets-Map pairs (parts text)

pub pattern-holds : (text : List ℕ) (pairs : List (List ℕ × Value)) → pattern_holds text pairs ≡ map_reaches (starts (pattern_of (parts text))) (reaches_pairs (starts (pattern_of (parts text))) pairs) (path_of (parts text))
pattern-holds text pairs = reached-Map (starts (pattern_of (parts text))) pairs (path_of (parts text))
