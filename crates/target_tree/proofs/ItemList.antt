-- The items of a list, from the left, and ids as a test.
use Rattle.std.proofs.Common.{◌≡◌, ◌≢◌, ℕ, ◌<◌, Bool, true, false, List, [], ◌∷◌, ◌++◌, length, map, get_or, refl, ap, sym, ◌∙◌, arith, append_assoc}
use Rattle.std.specs.Prelude.{if◌then◌else◌, nat_le, nat_eq, ◌&&◌}
use Rattle.std.specs.List.{slice_split, list_all, before_first, after_first, position_or_len}
use Rattle.std.proofs.lemmas.Bool.Decides.{nat_tests}
use Rattle.std.proofs.lemmas.List.Splits.{slice_split_first}
use Rattle.std.proofs.lemmas.List.Folds.{list_all-append}
use Rattle.salt_value.specs.Id.{IsId, is_id_byte}
use Rattle.target_tree.specs.declared.target.Target.TheVariants.{IdList}
use Rattle.target_tree.specs.declared.token.Token.TheVariants.{Leaf, NoLeaf}
use Rattle.target_tree.specs.Words.{id_list, is_id, list_items, trimmed_item}
use Rattle.target_tree.proofs.Cuts.{uncut}

both-true : (a b : Bool) → (a && b) ≡ true → (a ≡ true) × (b ≡ true)
both-true true b h = (refl, h)
both-true false b h = absurd (cc)

-- the test of an id tells ids
id-told : (bytes : List ℕ) → is_id bytes ≡ true → IsId bytes
id-told bytes h =
    let first = both-true (nat_le 1 (length bytes) && nat_le (length bytes) 64) (list_all is_id_byte bytes) h in
    let second = both-true (nat_le 1 (length bytes)) (nat_le (length bytes) 64) first.0 in
    (grind (arith, nat_tests, second.0), grind (arith, nat_tests, second.1), first.1)

pub id-yes : (bytes : List ℕ) → IsId bytes → is_id bytes ≡ true
id-yes bytes (some, short, all) =
    let low : nat_le 1 (length bytes) ≡ true = grind (arith, nat_tests) in
    let high : nat_le (length bytes) 64 ≡ true = grind (arith, nat_tests) in
    rw (low, high) all

pub id-no : (bytes : List ℕ) → (IsId bytes → ⊥) → is_id bytes ≡ false
id-no bytes bad = by (is_id bytes) refl
  where
    by : (b : Bool) → is_id bytes ≡ b → is_id bytes ≡ false
    by true e = absurd (bad (id-told bytes e))
    by false e = e

abbrev pub comma : ℕ → Bool
comma b = nat_eq b 44

-- the first item, and the others
pub items-more : (text item rest : List ℕ) → item ≡ before_first comma text → rest ≡ after_first comma text → position_or_len comma text < length text → list_items text ≡ trimmed_item item ∷ list_items rest
unfolding list_items
items-more text item rest e f h =
    let cut : slice_split comma text ≡ item ∷ slice_split comma rest = slice_split_first comma text 0 h ∙ cc in
    ap (map trimmed_item) cut

pub items-last : (text : List ℕ) → ((i : ℕ) → i < length text → get_or text i 0 ≢ 44) → list_items text ≡ trimmed_item text ∷ []
unfolding list_items
items-last text h = ap (map trimmed_item) (uncut 44 text h)

false-and : (a b : Bool) → b ≡ false → (a && b) ≡ false
false-and true b e = e
false-and false b e = refl

-- an item that is no id
pub items-bad : (text : List ℕ) (ids more : List (List ℕ)) (item : List ℕ) → list_items text ≡ ids ++ item ∷ more → is_id item ≡ false → NoLeaf ≡ id_list text
unfolding id_list
items-bad text ids more item e bad =
    let none : list_all is_id (list_items text) ≡ false =
    ap (list_all is_id) e ∙ (list_all-append is_id ids (item ∷ more) ∙ false-and (list_all is_id ids) (is_id item && list_all is_id more) (ap (λ (b : Bool). b && list_all is_id more) bad)) in
    sym (ap (λ (b : Bool). if b then Leaf (IdList (list_items text)) else NoLeaf) none)

-- one id more
pub ids-more : (ids : List (List ℕ)) (item : List ℕ) → list_all is_id ids ≡ true → is_id item ≡ true → list_all is_id (ids ++ item ∷ []) ≡ true
ids-more ids item e f = list_all-append is_id ids (item ∷ []) ∙ rw (e, f) refl

-- all are ids
pub items-good : (text : List ℕ) (ids : List (List ℕ)) → list_items text ≡ ids → list_all is_id ids ≡ true → Leaf (IdList ids) ≡ id_list text
unfolding id_list
items-good text ids e good =
    let all : list_all is_id (list_items text) ≡ true = ap (list_all is_id) e ∙ good in
    ap (λ (x : List (List ℕ)). Leaf (IdList x)) (sym e) ∙ sym (ap (λ (b : Bool). if b then Leaf (IdList (list_items text)) else NoLeaf) all)

-- the items after ids that were read
pub next-item : (ids : List (List ℕ)) (text item rest : List ℕ) → item ≡ before_first comma text → rest ≡ after_first comma text → position_or_len comma text < length text
    → ids ++ list_items text ≡ ids ++ trimmed_item item ∷ list_items rest
next-item ids text item rest e f h = ap (λ (x : List (List ℕ)). ids ++ x) (items-more text item rest e f h)

pub last-item : (ids : List (List ℕ)) (text : List ℕ) → ((i : ℕ) → i < length text → get_or text i 0 ≢ 44) → ids ++ list_items text ≡ ids ++ trimmed_item text ∷ []
last-item ids text h = ap (λ (x : List (List ℕ)). ids ++ x) (items-last text h)

pub one-more : (ids : List (List ℕ)) (text item rest id : List ℕ) (more : List (List ℕ)) → item ≡ before_first comma text → rest ≡ after_first comma text → position_or_len comma text < length text
    → id ≡ trimmed_item item → more ≡ ids ++ id ∷ [] → ids ++ list_items text ≡ more ++ list_items rest
one-more ids text item rest id more e f h same pushed =
    next-item ids text item rest e f h
    ∙ (ap (λ (x : List ℕ). ids ++ x ∷ list_items rest) (sym same) ∙ (sym (append_assoc ids (id ∷ []) (list_items rest)) ∙ ap (λ (x : List (List ℕ)). x ++ list_items rest) (sym pushed)))

pub last-more : (ids : List (List ℕ)) (text id : List ℕ) (more : List (List ℕ)) → ((i : ℕ) → i < length text → get_or text i 0 ≢ 44) → id ≡ trimmed_item text → more ≡ ids ++ id ∷ []
    → ids ++ list_items text ≡ more
last-more ids text id more h same pushed = last-item ids text h ∙ (ap (λ (x : List ℕ). ids ++ x ∷ []) (sym same) ∙ sym pushed)

pub all-more : (ids : List (List ℕ)) (id : List ℕ) (more : List (List ℕ)) → list_all is_id ids ≡ true → is_id id ≡ true → more ≡ ids ++ id ∷ [] → list_all is_id more ≡ true
all-more ids id more all one pushed = ap (list_all is_id) pushed ∙ ids-more ids id all one
