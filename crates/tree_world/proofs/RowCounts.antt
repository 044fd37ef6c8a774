-- How many rows the reports of some jobs have.
use Rattle.std.proofs.Common.{◌≡◌, ℕ, zero, suc, ◌+◌, ◌≤◌, ◌∙◌, ap, refl, true, ◌&&◌, List, [], ◌∷◌, length, arith}
use Rattle.std.specs.Prelude.{filter_map, Option, None, Some}
use Rattle.std.specs.List.{cons_option}
use Rattle.std.specs.Option.{option_to_list}
use Rattle.std.proofs.lemmas.List.{length_push}
use Rattle.std.proofs.lemmas.List.Sums.{sum_by-append}
use Rattle.fleet_config.specs.Tree.{Tree, minions, is_minion, is_within, up_to}
use Rattle.salt_wire.specs.declared.deed.Deed.{Deed}
use Rattle.tree_world.specs.Report.{by_id, rank, report, row_count}
use Rattle.tree_world.proofs.Orders.{kept_le, all_kept, parts_few}

-- ---- an order of minions is no longer than the tree

up_to_length : (n : ℕ) → length (up_to n) ≡ n
up_to_length zero = refl
up_to_length (suc n) = length_push (up_to n) n ∙ ap (λ k. k + 1) (up_to_length n) ∙ omega arith

minions_few : (t : Tree) → length (minions t 0) ≤ length t
minions_few t =
    let all = up_to_length (length t) in
    let kept = kept_le (λ m. is_minion t m && is_within t 0 m) (λ m. true) (up_to (length t)) (λ m e. refl) in
    let same = ap length (all_kept (up_to (length t))) in
    omega arith

pub order_few : (t : Tree) (order : List ℕ) → order ≡ by_id t (minions t 0) → length order ≤ length t
order_few t order e =
    let parts : length (by_id t (minions t 0)) ≤ length (minions t 0) = parts_few (rank t (minions t 0)) (minions t 0) (length (minions t 0)) in
    let few = minions_few t in
    let same = ap length e in
    omega arith

-- ---- the rows of a job

one_row : {B : Type 0} (o : Option B) (rest : List B) → length (cons_option o rest) ≡ length (option_to_list o) + length rest
one_row None rest = omega arith
one_row (Some row) rest = omega arith

pub row_next : {A B : Type 0} (f : A → Option B) (x : A) (xs : List A) → length (filter_map f (x ∷ xs)) ≡ length (option_to_list (f x)) + length (filter_map f xs)
row_next f x xs = one_row (f x) (filter_map f xs)

-- ---- the rows of some jobs

pub none_yet : (t : Tree) (records : List Deed) → row_count t records 0 ≡ 0
none_yet t records = refl

pub one_more : (t : Tree) (records : List Deed) (n : ℕ) → row_count t records (n + 1) ≡ row_count t records n + length (report t records n)
one_more t records n =
    let more : n + 1 ≡ suc n = omega arith in
    rw more (sum_by-append (λ seq. length (report t records seq)) (up_to n) (n ∷ []) ∙ omega arith)
