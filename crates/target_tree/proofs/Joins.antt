-- The reading with its tree, the faults and the grammar are one.
use Rattle.std.proofs.Common.{◌≡◌, ◌≢◌, ℕ, ◌-◌, ◌<◌, ◌≤◌, Bool, true, false, List, [], ◌∷◌, length, Option, None, Result, Ok, Err, refl, ap, sym, subst, ◌∙◌, arith}
use Rattle.std.specs.Prelude.{if◌then◌else◌, nat_le, nat_eq, IsOk, IfOk}
use Rattle.std.proofs.lemmas.Bool.Decides.{nat_tests}
use Rattle.target_tree.specs.Nodegroups.{Group}
use Rattle.target_tree.specs.declared.kind.Kind.{Kind}
use Rattle.target_tree.specs.declared.target.Target.{Target}
use Rattle.target_tree.specs.declared.token.Token.{Token}
use Rattle.target_tree.specs.declared.reader.Ended.{Ended}
use Rattle.target_tree.specs.declared.reader.Part.{Part}
use Rattle.target_tree.specs.declared.fault.TargetFault.{TargetFault}
use Rattle.target_tree.specs.declared.fault.TargetFault.TheVariants.{NoMemory, Empty, TooLong}
use Rattle.salt_value.specs.Readers.{◌>>=◌}
use Rattle.target_tree.specs.Reading.{Counts, text_end, group_word, IsFaultAsRead}
use Rattle.target_tree.specs.Machine.{joined_or, GivesTree, counts_of, state_of, machine_all, machine_group, machine_begun, machine_end, machine_target, tree_of, machine_tree}
use Rattle.target_tree.specs.Targets.{IsTarget, IsReadUnlessLimit, IsReadUnlessRefused, IsAsRead, reading, target_words, sole_word}
use Rattle.target_tree.specs.declared.kind.Kind.TheVariants.{Compound}
use Rattle.target_tree.specs.WaitingTexts.{Goes, going, within}
use Rattle.target_tree.specs.declared.run.Outer.{Outer}
use Rattle.target_tree.specs.declared.reader.Reader.{Reader as Machine}
use Rattle.target_tree.specs.Words.{tokens_of}
use Rattle.target_tree.proofs.Erasure.{erased, erased-cond, erased-bind, erase-all, erase-end, erase-group}
use Rattle.target_tree.proofs.Complete.{ReadsTo, limit, reads, guarded, then_reads, complete, begins, due_at, done_at}
use Rattle.target_tree.proofs.Sound.{unguarded, bind_ok, ok_is, all-read, end-stands, begun-read, group-stands}
use Rattle.target_tree.proofs.Steps.{carry}

-- the faults are those of the fold
pub same-faults : (kind : Kind) (groups : List Group) (text : List ℕ) → erased counts_of (machine_target kind groups text) ≡ reading kind groups text
same-faults kind groups text =
    erased-cond counts_of (nat_le (length (target_words kind text)) 0) Empty _ _
    (erased-cond counts_of (nat_le 4097 (length text)) TooLong _ _
    (erased-bind state_of counts_of (machine_all (machine_group 257 groups []) (target_words kind text) (machine_begun 0 0 0)) machine_end _ text_end
    (erase-all (machine_group 257 groups []) (group_word 257 groups []) (erase-group 257 groups []) (target_words kind text) (machine_begun 0 0 0)) erase-end))

-- what is read stands for its tree
pub stands : (kind : Kind) (groups : List Group) (text : List ℕ) (e : Ended) → machine_target kind groups text ≡ Ok e → IsTarget kind groups text e.tree
stands kind groups text e h =
    let words = target_words kind text in
    let all = bind_ok (machine_all (machine_group 257 groups []) words (machine_begun 0 0 0)) machine_end e (unguarded (nat_le 4097 (length text)) TooLong _ _ (unguarded (nat_le (length words) 0) Empty _ _ h)) in
    let r = all-read groups [] (machine_group 257 groups []) (group-stands groups 257 []) words (machine_begun 0 0 0) all.0 [] (begun-read groups [] 0 0 0) all.1 in
    end-stands groups [] all.0.last all.0 words r.outer r.inner r.split r.around r.here e all.2

-- words that stand for a tree are read to it, unless a limit is passed
pub read-so : (kind : Kind) (groups : List Group) (text : List ℕ) (t : Target) → IsTarget kind groups text t → ReadsTo (machine_target kind groups text) (λ at patterns. record { tree = t; at = at; patterns = patterns })
read-so kind groups text t tree = by (complete groups tree 257)
  where
    by : (left_or : Option Target) × (last : Target) × (joined_or left_or last ≡ t) × ((around : ℕ) (parts : List Part) (at patterns : ℕ) → ReadsTo (machine_all (machine_group 257 groups []) (target_words kind text) (due_at None None around around parts at patterns)) (done_at last left_or around parts))
        → ReadsTo (machine_target kind groups text) (λ at patterns. record { tree = t; at = at; patterns = patterns })
    by (left_or, last, whole, run) =
        let some : 0 < length (target_words kind text) = begins tree in
        let none : nat_le (length (target_words kind text)) 0 ≡ false = grind (arith, nat_tests) in
        rw none (guarded (nat_le 4097 (length text)) TooLong _ _ tt
        (then_reads _ (done_at last left_or 0 []) machine_end _ (run 0 [] 0 0)
        (λ now count. reads now count (ap (λ (u : Target). Ok (record { tree = u; at = now; patterns = count })) whole))))

-- no other tree
pub one-tree : (kind : Kind) (groups : List Group) (text : List ℕ) (e : Ended) (t : Target) → machine_target kind groups text ≡ Ok e → IsTarget kind groups text t → t ≡ e.tree
one-tree kind groups text e t h tree = by (read-so kind groups text t tree)
  where
    by : ReadsTo (machine_target kind groups text) (λ at patterns. record { tree = t; at = at; patterns = patterns }) → t ≡ e.tree
    by (limit f l g) = cc
    by (reads at patterns g) = ap (λ (x : Ended). x.tree) (ok_is _ _ (sym g ∙ h))

-- a tree stands exactly where the reading has no fault, but for the limits
pub read-unless-limit : (kind : Kind) (groups : List Group) (text : List ℕ) (t : Target) → IsTarget kind groups text t → IsReadUnlessLimit (reading kind groups text)
read-unless-limit kind groups text t tree = subst (λ (r : Result Counts TargetFault). IsReadUnlessLimit r) (same-faults kind groups text) (by (read-so kind groups text t tree))
  where
    by : ReadsTo (machine_target kind groups text) (λ at patterns. record { tree = t; at = at; patterns = patterns }) → IsReadUnlessLimit (erased counts_of (machine_target kind groups text))
    by (limit f l g) = subst (λ (r : Result Ended TargetFault). IsReadUnlessLimit (erased counts_of r)) (sym g) l
    by (reads at patterns g) = subst (λ (r : Result Ended TargetFault). IsReadUnlessLimit (erased counts_of r)) (sym g) tt

-- the clauses of read_target
pub tree-clause : (kind : Kind) (groups : List Group) (text : List ℕ) (t : Target) → (machine_target kind groups text >>= tree_of) ≡ Ok t → IsTarget kind groups text t
tree-clause kind groups text t h =
    let e = bind_ok (machine_target kind groups text) tree_of t h in
    subst (λ (x : Target). IsTarget kind groups text x) (ok_is _ _ e.2) (stands kind groups text e.0 e.1)

pub only-clause : (kind : Kind) (groups : List Group) (text : List ℕ) (t : Target) → (machine_target kind groups text >>= tree_of) ≡ Ok t → (u : Target) → IsTarget kind groups text u → u ≡ t
only-clause kind groups text t h u tree =
    let e = bind_ok (machine_target kind groups text) tree_of t h in
    one-tree kind groups text e.0 u e.1 tree ∙ ok_is _ _ e.2

pub if-tree : (kind : Kind) (groups : List Group) (text : List ℕ) (r : Result Target TargetFault) → GivesTree r (machine_tree kind groups text) → IfOk r (IsTarget kind groups text)
if-tree kind groups text (Ok t) h = tree-clause kind groups text t h
if-tree kind groups text (Err f) h = tt

pub if-only : (kind : Kind) (groups : List Group) (text : List ℕ) (r : Result Target TargetFault) → GivesTree r (machine_tree kind groups text)
    → IfOk r (λ tree. (other : Target) → IsTarget kind groups text other → other ≡ tree)
if-only kind groups text (Ok t) h = only-clause kind groups text t h
if-only kind groups text (Err f) h = tt

pub fault-clause : (kind : Kind) (groups : List Group) (text : List ℕ) (r : Result Target TargetFault) → GivesTree r (machine_target kind groups text >>= tree_of) → IsAsRead r (reading kind groups text)
fault-clause kind groups text (Ok t) h =
    let e = bind_ok (machine_target kind groups text) tree_of t h in
    subst (λ (x : Result Counts TargetFault). IsOk x) (same-faults kind groups text) (subst (λ (x : Result Ended TargetFault). IsOk (erased counts_of x)) (sym e.1) refl)
fault-clause kind groups text (Err f) h =
    carry f (machine_target kind groups text >>= tree_of) (reading kind groups text) h (λ g. sym (same-faults kind groups text) ∙ ap (erased counts_of) (failed (machine_target kind groups text) f g))
  where
    failed : (x : Result Ended TargetFault) (e : TargetFault) → (x >>= tree_of) ≡ Err e → x ≡ Err e
    failed (Ok x) e g = cc
    failed (Err x) e g = cc

-- a fault that words which stand for a tree may have
limit-or-memory : (f : TargetFault) (read : Result Counts TargetFault) → IsFaultAsRead f read → IsReadUnlessLimit read → IsReadUnlessRefused (Err f)
limit-or-memory NoMemory read h l = tt
limit-or-memory f read h l = subst (λ (r : Result Counts TargetFault). IsReadUnlessLimit r) h l

pub complete-clause : (kind : Kind) (groups : List Group) (text : List ℕ) (r : Result Target TargetFault) → GivesTree r (machine_target kind groups text >>= tree_of)
    → (t : Target) → IsTarget kind groups text t → IsReadUnlessRefused r
complete-clause kind groups text (Ok u) h t tree = tt
complete-clause kind groups text (Err f) h t tree = limit-or-memory f (reading kind groups text) (fault-clause kind groups text (Err f) h) (read-unless-limit kind groups text t tree)

-- what the loop is begun with
going-first : (groups : List Group) (words : List Token) → ((machine_all (machine_group 257 groups []) words (machine_begun 0 0 0) >>= machine_end) >>= tree_of) ≡ going 257 groups [] words (machine_begun 0 0 0)
unfolding going
going-first groups words = refl

pub compound-run : (groups : List Group) (text rest : List ℕ) (r : Result Target TargetFault) → within text ≡ Ok rest → GivesTree r (going 257 groups [] (tokens_of rest) (machine_begun 0 0 0)) → GivesTree r (machine_tree Compound groups text)
compound-run groups text rest r h g = subst (λ (x : Result Target TargetFault). GivesTree r x) (sym (by (nat_le (length (tokens_of text)) 0) (nat_le 4097 (length text)) h)) g
  where
    by : (a b : Bool) → (if a then Err Empty else if b then Err TooLong else Ok text) ≡ Ok rest
        → ((if a then Err Empty else if b then Err TooLong else (machine_all (machine_group 257 groups []) (tokens_of text) (machine_begun 0 0 0) >>= machine_end)) >>= tree_of) ≡ going 257 groups [] (tokens_of rest) (machine_begun 0 0 0)
    by true b e = cc
    by false true e = cc
    by false false e = going-first groups (tokens_of text) ∙ ap (λ (x : List ℕ). going 257 groups [] (tokens_of x) (machine_begun 0 0 0)) (ok_is _ _ e)

pub compound-shut : (groups : List Group) (text : List ℕ) (f : TargetFault) → IsFaultAsRead f (within text) → IsFaultAsRead f (machine_tree Compound groups text)
compound-shut groups text f h = carry f (within text) (machine_tree Compound groups text) h (λ e. by (nat_le (length (tokens_of text)) 0) (nat_le 4097 (length text)) e)
  where
    by : (a b : Bool) → (if a then Err Empty else if b then Err TooLong else Ok text) ≡ Err f
        → ((if a then Err Empty else if b then Err TooLong else (machine_all (machine_group 257 groups []) (tokens_of text) (machine_begun 0 0 0) >>= machine_end)) >>= tree_of) ≡ Err f
    by true b e = ap (λ (x : Result (List ℕ) TargetFault). x >>= λ (y : List ℕ). machine_tree Compound groups y) e
    by false true e = ap (λ (x : Result (List ℕ) TargetFault). x >>= λ (y : List ℕ). machine_tree Compound groups y) e
    by false false e = cc

sole-words : (kind : Kind) (text : List ℕ) → kind ≢ Compound → nat_eq (length text) 0 ≡ false → target_words kind text ≡ sole_word kind text ∷ []
sole-words Compound text other some = absurd (other refl)
sole-words kind [] other some = absurd (grind (arith, nat_tests))
sole-words kind (b ∷ text) other some = refl

sole-tree : (kind : Kind) (groups : List Group) (text : List ℕ) → kind ≢ Compound → nat_eq (length text) 0 ≡ false → length text ≤ 4096 → machine_tree kind groups text ≡ going 257 groups [] (sole_word kind text ∷ []) (machine_begun 0 0 0)
sole-tree kind groups text other some few =
    let short : nat_le 4097 (length text) ≡ false = grind (arith, nat_tests) in
    ap (λ (ws : List Token). (if nat_le (length ws) 0 then Err Empty else if nat_le 4097 (length text) then Err TooLong else (machine_all (machine_group 257 groups []) ws (machine_begun 0 0 0) >>= machine_end)) >>= tree_of) (sole-words kind text other some)
    ∙ (ap (λ (b : Bool). (if b then Err TooLong else (machine_all (machine_group 257 groups []) (sole_word kind text ∷ []) (machine_begun 0 0 0) >>= machine_end)) >>= tree_of) short
    ∙ going-first groups (sole_word kind text ∷ []))

sole-begun : (groups : List Group) (os : List Outer) (m : Machine) (w sole : Token) (none : List ℕ) → os ≡ [] → m ≡ machine_begun 0 0 0 → w ≡ sole → tokens_of none ≡ []
    → going 257 groups [] (sole ∷ []) (machine_begun 0 0 0) ≡ going (257 - length os) groups os (w ∷ tokens_of none) m
sole-begun groups os m w sole none a b c d =
    ap (λ (ws : List Token). going 257 groups [] (sole ∷ ws) (machine_begun 0 0 0)) (sym d)
    ∙ (ap (λ (x : Token). going 257 groups [] (x ∷ tokens_of none) (machine_begun 0 0 0)) (sym c)
    ∙ (ap (λ (x : Machine). going 257 groups [] (w ∷ tokens_of none) x) (sym b)
    ∙ ap (λ (x : List Outer). going (257 - length x) groups x (w ∷ tokens_of none) m) (sym a)))

pub sole-run : (kind : Kind) (groups : List Group) (text : List ℕ) (os new : List Outer) (m next : Machine) (w : Token) (none rest : List ℕ) (r : Result Target TargetFault)
    → kind ≢ Compound → nat_eq (length text) 0 ≡ false → length text ≤ 4096 → os ≡ [] → m ≡ machine_begun 0 0 0 → w ≡ sole_word kind text → tokens_of none ≡ []
    → Goes groups os new m (w ∷ tokens_of none) next rest → GivesTree r (going (257 - length new) groups new (tokens_of rest) next) → GivesTree r (machine_tree kind groups text)
sole-run kind groups text os new m next w none rest r other some few a b c d goes h =
    subst (λ (x : Result Target TargetFault). GivesTree r x) (sym (sole-tree kind groups text other some few ∙ (sole-begun groups os m w (sole_word kind text) none a b c d ∙ goes.same))) h

pub sole-fails : (kind : Kind) (groups : List Group) (text : List ℕ) (os : List Outer) (m : Machine) (w : Token) (none : List ℕ) (f : TargetFault)
    → kind ≢ Compound → nat_eq (length text) 0 ≡ false → length text ≤ 4096 → os ≡ [] → m ≡ machine_begun 0 0 0 → w ≡ sole_word kind text → tokens_of none ≡ []
    → IsFaultAsRead f (going (257 - length os) groups os (w ∷ tokens_of none) m) → IsFaultAsRead f (machine_tree kind groups text)
sole-fails kind groups text os m w none f other some few a b c d h =
    subst (λ (x : Result Target TargetFault). IsFaultAsRead f x) (sym (sole-tree kind groups text other some few ∙ sole-begun groups os m w (sole_word kind text) none a b c d)) h

pub no-tokens : tokens_of [] ≡ []
unfolding tokens_of
no-tokens = refl

-- what has no fault stands for a tree
pub has-tree : (kind : Kind) (groups : List Group) (text : List ℕ) → IsOk (reading kind groups text) → (t : Target) × IsTarget kind groups text t
has-tree kind groups text h = by (machine_target kind groups text) refl (subst (λ (x : Result Counts TargetFault). IsOk x) (sym (same-faults kind groups text)) h)
  where
    by : (r : Result Ended TargetFault) → machine_target kind groups text ≡ r → IsOk (erased counts_of r) → (t : Target) × IsTarget kind groups text t
    by (Ok e) g ok = (e.tree, stands kind groups text e g)
    by (Err f) g ok = cc

-- what is read is no longer than the limit
pub short-clause : (kind : Kind) (groups : List Group) (text : List ℕ) (r : Result Target TargetFault) → GivesTree r (machine_tree kind groups text) → IfOk r (λ _. length text ≤ 4096)
short-clause kind groups text (Err e) h = tt
short-clause kind groups text (Ok t) h = by (nat_le (length (target_words kind text)) 0) (nat_le 4097 (length text)) refl h
  where
    by : (a b : Bool) → nat_le 4097 (length text) ≡ b
        → ((if a then Err Empty else if b then Err TooLong else (machine_all (machine_group 257 groups []) (target_words kind text) (machine_begun 0 0 0) >>= machine_end)) >>= tree_of) ≡ Ok t
        → length text ≤ 4096
    by true b e g = absurd cc
    by false true e g = absurd cc
    by false false e g = grind (arith, nat_tests)
