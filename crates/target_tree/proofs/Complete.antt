-- Words that stand for a tree are read to that tree, unless a limit is passed.
use Rattle.std.proofs.Common.{◌≡◌, ℕ, zero, suc, ◌+◌, ◌-◌, ◌≤◌, ◌<◌, Bool, true, false, List, [], ◌∷◌, ◌++◌, length, Option, None, Some, Result, Ok, Err, refl, ap, sym, subst, arith, length-append}
use Rattle.std.proofs.lemmas.Bool.Decides.{nat_tests}
use Rattle.std.specs.Prelude.{if◌then◌else◌, nat_le}
use Rattle.target_tree.specs.Nodegroups.{Group}
use Rattle.target_tree.specs.declared.target.Target.{Target}
use Rattle.target_tree.specs.declared.target.Target.TheVariants.{Not, And, Or}
use Rattle.target_tree.specs.declared.fault.TargetFault.{TargetFault}
use Rattle.target_tree.specs.declared.fault.TargetFault.TheVariants.{TooLong, TooDeep, TooManyWords, TooManyPatterns, Circle}
use Rattle.target_tree.specs.declared.token.Token.{Token}
use Rattle.target_tree.specs.declared.token.Token.TheVariants.{AndWord, OrWord, NotWord, OpenWord, CloseWord, Leaf, Pattern, Nodegroup}
use Rattle.target_tree.specs.Words.{tokens_of}
use Rattle.target_tree.specs.Nodegroups.{text_named, is_among}
use Rattle.target_tree.specs.Targets.{IsLimit}
use Rattle.target_tree.specs.Grammar.{Level, operand, conjunction, compound, Stands, one_leaf, one_pattern, one_group, negated, in_parens, one_operand, joined_by_and, one_conjunction, joined_by_or}
use Rattle.salt_value.specs.Readers.{◌>>=◌}
use Rattle.target_tree.specs.declared.reader.Part.{Part}
use Rattle.target_tree.specs.declared.reader.Reader.{Reader as Machine}
use Rattle.target_tree.specs.Machine.{Step, fresh, joined_and, joined_or, negations, machine_by, machine_word, machine_all, machine_end, machine_text, machine_begun, machine_found, machine_resumed, machine_group}

-- The reading comes to this machine, or passes a limit.
pub data ReadsTo {A : Type 0} (r : Result A TargetFault) (to : ℕ → ℕ → A) : Type 0 where
  limit : (e : TargetFault) → IsLimit e → r ≡ Err e → ReadsTo r to
  reads : (at patterns : ℕ) → r ≡ Ok (to at patterns) → ReadsTo r to

pub then_reads : {A B : Type 0} (r : Result A TargetFault) (to : ℕ → ℕ → A) (k : A → Result B TargetFault) (on : ℕ → ℕ → B)
    → ReadsTo r to → ((at patterns : ℕ) → ReadsTo (k (to at patterns)) on) → ReadsTo (r >>= k) on
then_reads r to k on (limit e l h) each = limit e l (ap (λ x. x >>= k) h)
then_reads r to k on (reads at patterns h) each = subst (λ x. ReadsTo (x >>= k) on) (sym h) (each at patterns)

pub guarded : {A : Type 0} (b : Bool) (e : TargetFault) (r : Result A TargetFault) (to : ℕ → ℕ → A) → IsLimit e → ReadsTo r to → ReadsTo (if b then Err e else r) to
guarded true e r to l h = limit e l refl
guarded false e r to l h = h

pub all-append : (group : List ℕ → Machine → Step) (a b : List Token) (m : Machine) → machine_all group (a ++ b) m ≡ (machine_all group a m >>= machine_all group b)
all-append group [] b m = refl
all-append group (w ∷ a) b m = bound (machine_word group w m) (λ x. all-append group a b x)
  where
    bound : (r : Step) → ((x : Machine) → machine_all group (a ++ b) x ≡ (machine_all group a x >>= machine_all group b)) → (r >>= machine_all group (a ++ b)) ≡ ((r >>= machine_all group a) >>= machine_all group b)
    bound (Ok x) each = each x
    bound (Err e) each = refl

-- an operand is due
abbrev pub due_at : Option Target → Option Target → ℕ → ℕ → List Part → ℕ → ℕ → Machine
due_at left_or left_and around deep parts at patterns = record {
  last = None;
  part = record { left_or = left_or; left_and = left_and; nest = record { around = around; deep = deep } };
  parts = parts;
  at = at;
  patterns = patterns;
}

-- this operand stands
abbrev pub done_at : Target → Option Target → ℕ → List Part → ℕ → ℕ → Machine
done_at t left_or around parts at patterns = record {
  last = Some t;
  part = record { left_or = left_or; left_and = None; nest = fresh around };
  parts = parts;
  at = at;
  patterns = patterns;
}

pub append_reads : (group : List ℕ → Machine → Step) (a b : List Token) (m : Machine) (to on : ℕ → ℕ → Machine)
    → ReadsTo (machine_all group a m) to → ((at patterns : ℕ) → ReadsTo (machine_all group b (to at patterns)) on) → ReadsTo (machine_all group (a ++ b) m) on
append_reads group a b m to on h each = subst (λ x. ReadsTo x on) (sym (all-append group a b m)) (then_reads _ to (machine_all group b) on h each)

-- What each level of the grammar does to the machine.
abbrev pub ReadsAs : Level → (List ℕ → Machine → Step) → List Token → Target → Type 0
ReadsAs operand group ws t = (left_or left_and : Option Target) (around deep : ℕ) (parts : List Part) → around ≤ deep → (at patterns : ℕ)
    → ReadsTo (machine_all group ws (due_at left_or left_and around deep parts at patterns)) (done_at (joined_and left_and (negations (deep - around) t)) left_or around parts)
ReadsAs conjunction group ws t = (left_or : Option Target) (around : ℕ) (parts : List Part) (at patterns : ℕ)
    → ReadsTo (machine_all group ws (due_at left_or None around around parts at patterns)) (done_at t left_or around parts)
ReadsAs compound group ws t = (left_or : Option Target) × (last : Target) × (joined_or left_or last ≡ t) × ((around : ℕ) (parts : List Part) (at patterns : ℕ)
    → ReadsTo (machine_all group ws (due_at None None around around parts at patterns)) (done_at last left_or around parts))

pub begins : {groups : List Group} {names : List (List ℕ)} {level : Level} {ws : List Token} {t : Target} → Stands groups names level ws t → 0 < length ws
begins one_leaf = omega arith
begins one_pattern = omega arith
begins (one_group text found free tree) = omega arith
begins (negated tree) = omega arith
begins (in_parens tree) = omega arith
begins (one_operand tree) = begins tree
begins (joined_by_and {left = a} {right = b} left right) = omega (arith, length-append a (AndWord ∷ b))
begins (one_conjunction tree) = begins tree
begins (joined_by_or {left = a} {right = b} left right) = omega (arith, length-append a (OrWord ∷ b))

module _ (group : List ℕ → Machine → Step) where
  -- a word, and then the others
  pub word_reads : (w : Token) (ws : List Token) (m : Machine) (to on : ℕ → ℕ → Machine)
      → ReadsTo (machine_by group w m.last m) to → ((at patterns : ℕ) → ReadsTo (machine_all group ws (to at patterns)) on) → ReadsTo (machine_all group (w ∷ ws) m) on
  word_reads w ws m to on h each = then_reads _ to (machine_all group ws) on (guarded (nat_le 256 m.at) TooManyWords _ to tt h) each

  pub last_word_reads : (w : Token) (m : Machine) (on : ℕ → ℕ → Machine) → ReadsTo (machine_by group w m.last m) on → ReadsTo (machine_all group (w ∷ []) m) on
  last_word_reads w m on h = word_reads w [] m on on h (λ at patterns. reads at patterns refl)

  reads_leaf : (t : Target) → ReadsAs operand group (Leaf t ∷ []) t
  reads_leaf t left_or left_and around deep parts le at patterns =
      last_word_reads (Leaf t) (due_at left_or left_and around deep parts at patterns) (done_at (joined_and left_and (negations (deep - around) t)) left_or around parts) (reads (at + 1) patterns refl)

  reads_pattern : (t : Target) → ReadsAs operand group (Pattern t ∷ []) t
  reads_pattern t left_or left_and around deep parts le at patterns =
      last_word_reads (Pattern t) (due_at left_or left_and around deep parts at patterns) (done_at (joined_and left_and (negations (deep - around) t)) left_or around parts)
      (guarded (nat_le 16 patterns) TooManyPatterns _ _ tt (reads (at + 1) (patterns + 1) refl))

  reads_negated : (ws : List Token) (t : Target) → ReadsAs operand group ws t → ReadsAs operand group (NotWord ∷ ws) (Not t)
  reads_negated ws t tree left_or left_and around deep parts le at patterns =
      let one_more : (deep + 1) - around ≡ suc (deep - around) = omega arith in
      let further : around ≤ deep + 1 = omega arith in
      word_reads NotWord ws (due_at left_or left_and around deep parts at patterns) (due_at left_or left_and around (deep + 1) parts) (done_at (joined_and left_and (negations (deep - around) (Not t))) left_or around parts)
      (guarded (nat_le 64 deep) TooDeep _ _ tt (reads (at + 1) patterns refl))
      (λ now count. subst (λ (n : ℕ). ReadsTo (machine_all group ws (due_at left_or left_and around (deep + 1) parts now count)) (done_at (joined_and left_and (negations n t)) left_or around parts)) one_more
      (tree left_or left_and around (deep + 1) parts further now count))

  reads_parens : (ws : List Token) (t : Target) → ReadsAs compound group ws t → ReadsAs operand group (OpenWord ∷ (ws ++ CloseWord ∷ [])) t
  reads_parens ws t (inner_or, last, whole, run) left_or left_and around deep parts le at patterns =
      let part : Part = record { left_or = left_or; left_and = left_and; nest = record { around = around; deep = deep } } in
      let on : ℕ → ℕ → Machine = done_at (joined_and left_and (negations (deep - around) t)) left_or around parts in
      word_reads OpenWord (ws ++ CloseWord ∷ []) (due_at left_or left_and around deep parts at patterns) (due_at None None (deep + 1) (deep + 1) (part ∷ parts)) on
      (guarded (nat_le 64 deep) TooDeep _ _ tt (reads (at + 1) patterns refl))
      (λ now count. append_reads group ws (CloseWord ∷ []) (due_at None None (deep + 1) (deep + 1) (part ∷ parts) now count) (done_at last inner_or (deep + 1) (part ∷ parts)) on (run (deep + 1) (part ∷ parts) now count)
      (λ later total. last_word_reads CloseWord (done_at last inner_or (deep + 1) (part ∷ parts) later total) on
      (reads (later + 1) total (ap (λ (u : Target). Ok (done_at (joined_and left_and (negations (deep - around) u)) left_or around parts (later + 1) total)) whole))))

  reads_operand : (ws : List Token) (t : Target) → ReadsAs operand group ws t → ReadsAs conjunction group ws t
  reads_operand ws t tree left_or around parts at patterns =
      let none : around - around ≡ 0 = omega arith in
      let le : around ≤ around = omega arith in
      subst (λ (n : ℕ). ReadsTo (machine_all group ws (due_at left_or None around around parts at patterns)) (done_at (negations n t) left_or around parts)) none
      (tree left_or None around around parts le at patterns)

  reads_and : (a b : List Token) (x y : Target) → ReadsAs conjunction group a x → ReadsAs operand group b y → ReadsAs conjunction group (a ++ AndWord ∷ b) (And x y)
  reads_and a b x y left right left_or around parts at patterns =
      let none : around - around ≡ 0 = omega arith in
      let le : around ≤ around = omega arith in
      append_reads group a (AndWord ∷ b) (due_at left_or None around around parts at patterns) (done_at x left_or around parts) (done_at (And x y) left_or around parts) (left left_or around parts at patterns)
      (λ now count. word_reads AndWord b (done_at x left_or around parts now count) (due_at left_or (Some x) around around parts) (done_at (And x y) left_or around parts) (reads (now + 1) count refl)
      (λ later total. subst (λ (n : ℕ). ReadsTo (machine_all group b (due_at left_or (Some x) around around parts later total)) (done_at (And x (negations n y)) left_or around parts)) none
      (right left_or (Some x) around around parts le later total)))

  reads_or : (a b : List Token) (x y : Target) → ReadsAs compound group a x → ReadsAs conjunction group b y → ReadsAs compound group (a ++ OrWord ∷ b) (Or x y)
  reads_or a b x y (left_or, last, whole, run) right = (
    Some x,
    y,
    refl,
    λ around parts at patterns.
        append_reads group a (OrWord ∷ b) (due_at None None around around parts at patterns) (done_at last left_or around parts) (done_at y (Some x) around parts) (run around parts at patterns)
        (λ now count. word_reads OrWord b (done_at last left_or around parts now count) (due_at (Some x) None around around parts) (done_at y (Some x) around parts)
        (reads (now + 1) count (ap (λ (u : Target). Ok (due_at (Some u) None around around parts (now + 1) count)) whole))
        (λ later total. right (Some x) around parts later total)),
  )

  -- a whole text
  text_reads : (text : List ℕ) (t : Target) (around at patterns : ℕ) → 0 < length (tokens_of text) → (tree : ReadsAs compound group (tokens_of text) t)
      → ReadsTo (machine_text group text (machine_begun around at patterns)) (λ now count. record { tree = t; at = now; patterns = count })
  text_reads text t around at patterns some (left_or, last, whole, run) =
      let none : nat_le (length (tokens_of text)) 0 ≡ false = grind (arith, nat_tests) in
      rw none (guarded (nat_le 4097 (length text)) TooLong _ _ tt
      (then_reads _ (done_at last left_or around []) machine_end _ (run around [] at patterns)
      (λ now count. reads now count (ap (λ (u : Target). Ok (record { tree = u; at = now; patterns = count })) whole))))

reads_group : (groups : List Group) (text : List ℕ) (t : Target) (name : List ℕ) (names : List (List ℕ)) → text_named groups name ≡ Some text → is_among names name ≡ false → 0 < length (tokens_of text)
    → ((depth : ℕ) → ReadsAs compound (machine_group depth groups (name ∷ names)) (tokens_of text) t)
    → (depth : ℕ) → ReadsAs operand (machine_group depth groups names) (Nodegroup name ∷ []) t
unfolding machine_group
reads_group groups text t name names found free some tree zero left_or left_and around deep parts le at patterns =
    last_word_reads (machine_group zero groups names) (Nodegroup name) (due_at left_or left_and around deep parts at patterns) (done_at (joined_and left_and (negations (deep - around) t)) left_or around parts) (limit TooManyWords tt refl)
reads_group groups text t name names found free some tree (suc depth) left_or left_and around deep parts le at patterns =
    let inner = tree depth in
    let from : Machine = due_at left_or left_and around deep parts at patterns in
    let on : ℕ → ℕ → Machine = done_at (joined_and left_and (negations (deep - around) t)) left_or around parts in
    last_word_reads (machine_group (suc depth) groups names) (Nodegroup name) from on
    (subst (λ (x : Option (List ℕ)). ReadsTo (machine_found (machine_group depth groups) names name from x) on) (sym found) (subst (λ (b : Bool). ReadsTo (if b then Err (Circle at) else (machine_text (machine_group depth groups (name ∷ names)) text (machine_begun deep (at + 1) patterns) >>= machine_resumed from)) on) (sym free)
    (then_reads _ (λ now count. record { tree = t; at = now; patterns = count }) (machine_resumed from) on
    (text_reads (machine_group depth groups (name ∷ names)) text t deep (at + 1) patterns some inner)
    (λ now count. reads now count refl))))

pub complete : (groups : List Group) {names : List (List ℕ)} {level : Level} {ws : List Token} {t : Target} → Stands groups names level ws t → (depth : ℕ) → ReadsAs level (machine_group depth groups names) ws t
complete groups (one_leaf {names = names} {tree = t}) depth = reads_leaf (machine_group depth groups names) t
complete groups (one_pattern {names = names} {tree = t}) depth = reads_pattern (machine_group depth groups names) t
complete groups (one_group {names = names} {name = name} {tree = t} text found free tree) depth = reads_group groups text t name names found free (begins tree) (complete groups tree) depth
complete groups (negated {names = names} {words = ws} {tree = t} tree) depth = reads_negated (machine_group depth groups names) ws t (complete groups tree depth)
complete groups (in_parens {names = names} {words = ws} {tree = t} tree) depth = reads_parens (machine_group depth groups names) ws t (complete groups tree depth)
complete groups (one_operand {names = names} {words = ws} {tree = t} tree) depth = reads_operand (machine_group depth groups names) ws t (complete groups tree depth)
complete groups (joined_by_and {names = names} {left = a} {right = b} {first = x} {second = y} left right) depth = reads_and (machine_group depth groups names) a b x y (complete groups left depth) (complete groups right depth)
complete groups (one_conjunction {names = names} {words = ws} {tree = t} tree) depth = (None, t, refl, λ around parts at patterns. complete groups tree depth None around parts at patterns)
complete groups (joined_by_or {names = names} {left = a} {right = b} {first = x} {second = y} left right) depth = reads_or (machine_group depth groups names) a b x y (complete groups left depth) (complete groups right depth)
