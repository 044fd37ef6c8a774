-- The fold is the machine without its trees.
use Rattle.std.proofs.Common.{◌≡◌, ℕ, zero, suc, ◌+◌, Bool, true, false, List, [], ◌∷◌, length, map, Option, None, Some, Result, Ok, Err, refl, ap, ◌∙◌}
use Rattle.std.specs.Prelude.{if◌then◌else◌, nat_le}
use Rattle.target_tree.specs.Nodegroups.{Group}
use Rattle.target_tree.specs.declared.target.Target.{Target}
use Rattle.target_tree.specs.declared.fault.TargetFault.{TargetFault}
use Rattle.target_tree.specs.declared.fault.TargetFault.TheVariants.{Empty, TooLong, Word, TooDeep, TooManyWords, TooManyPatterns, Circle}
use Rattle.target_tree.specs.declared.token.Token.{Token}
use Rattle.target_tree.specs.declared.token.Token.TheVariants.{AndWord, OrWord, NotWord, OpenWord, CloseWord, Leaf, Pattern, Nodegroup, NoLetter, NoLeaf}
use Rattle.target_tree.specs.Words.{tokens_of}
use Rattle.target_tree.specs.Nodegroups.{text_named, is_among}
use Rattle.salt_value.specs.Readers.{◌>>=◌}
use Rattle.target_tree.specs.Reading.{State, ReadAnswer, operand_word, operator_word, closing, after_closing, after_group, group_answer, one_word, all_words, text_end, whole_text, group_word}
use Rattle.target_tree.specs.declared.reader.Part.{Part}
use Rattle.target_tree.specs.declared.reader.Reader.{Reader as Machine}
use Rattle.target_tree.specs.Machine.{counts_of, Step, level_of, machine_operand, machine_operator, machine_closing, machine_by, machine_closed, machine_word, machine_all, machine_end, machine_end_by, machine_text, machine_begun, machine_found, machine_resumed, machine_group, state_of, is_due}

abbrev pub erased : {A B : Type 0} → (A → B) → Result A TargetFault → Result B TargetFault
erased f (Ok x) = Ok (f x)
erased f (Err e) = Err e

pub erased-cond : {A B : Type 0} (f : A → B) (b : Bool) (e : TargetFault) (r : Result A TargetFault) (s : Result B TargetFault) → erased f r ≡ s → erased f (if b then Err e else r) ≡ (if b then Err e else s)
erased-cond f true e r s h = refl
erased-cond f false e r s h = h

pub erased-bind : {A B C D : Type 0} (f : A → C) (h : B → D) (r : Result A TargetFault) (k : A → Result B TargetFault) (s : Result C TargetFault) (l : C → Result D TargetFault)
    → erased f r ≡ s → ((x : A) → erased h (k x) ≡ l (f x)) → erased h (r >>= k) ≡ (s >>= l)
erased-bind {C = C} f h (Ok x) k s l e each = each x ∙ ap (λ (a : Result C TargetFault). a >>= l) e
erased-bind {C = C} f h (Err x) k s l e each = ap (λ (a : Result C TargetFault). a >>= l) e

module _ (group : List ℕ → Machine → Step) (reads : List ℕ → State → ReadAnswer) (same : (name : List ℕ) (m : Machine) → erased state_of (group name m) ≡ reads name (state_of m)) where
  erase-operand : (w : Token) (m : Machine) → erased state_of (machine_operand group w m) ≡ operand_word reads w (state_of m)
  erase-operand NotWord m = erased-cond state_of (nat_le 64 m.part.nest.deep) TooDeep _ _ refl
  erase-operand OpenWord m = erased-cond state_of (nat_le 64 m.part.nest.deep) TooDeep _ _ refl
  erase-operand (Leaf t) m = refl
  erase-operand (Pattern t) m = erased-cond state_of (nat_le 16 m.patterns) TooManyPatterns _ _ refl
  erase-operand (Nodegroup name) m = same name m
  erase-operand NoLetter m = refl
  erase-operand AndWord m = refl
  erase-operand OrWord m = refl
  erase-operand CloseWord m = refl
  erase-operand NoLeaf m = refl

pub erase-closing : (t : Target) (parts : List Part) (m : Machine) → erased state_of (machine_closing t parts m) ≡ closing (map level_of parts) (state_of m)
erase-closing t [] m = refl
erase-closing t (part ∷ parts) m = refl

pub erase-operator : (t : Target) (w : Token) (m : Machine) → erased state_of (machine_operator t w m) ≡ operator_word w (state_of m)
erase-operator t AndWord m = refl
erase-operator t OrWord m = refl
erase-operator t CloseWord m = erase-closing t m.parts m
erase-operator t NotWord m = refl
erase-operator t OpenWord m = refl
erase-operator t (Leaf u) m = refl
erase-operator t (Pattern u) m = refl
erase-operator t (Nodegroup name) m = refl
erase-operator t NoLetter m = refl
erase-operator t NoLeaf m = refl

erase-closed : (t : Target) (parts : List Part) (m : Machine) → erased counts_of (machine_closed t parts m) ≡ after_closing (map level_of parts) (state_of m)
erase-closed t [] m = refl
erase-closed t (part ∷ parts) m = refl

erase-end_by : (last : Option Target) (m : Machine) → erased counts_of (machine_end_by last m) ≡ (if is_due last then Err (Word m.at) else after_closing (map level_of m.parts) (state_of m))
erase-end_by None m = refl
erase-end_by (Some t) m = erase-closed t m.parts m

pub erase-end : (m : Machine) → erased counts_of (machine_end m) ≡ text_end (state_of m)
erase-end m = erase-end_by m.last m

module _ (group : List ℕ → Machine → Step) (reads : List ℕ → State → ReadAnswer) (same : (name : List ℕ) (m : Machine) → erased state_of (group name m) ≡ reads name (state_of m)) where
  erase-by : (w : Token) (last : Option Target) (m : Machine) → erased state_of (machine_by group w last m) ≡ (if is_due last then operand_word reads w (state_of m) else operator_word w (state_of m))
  erase-by w None m = erase-operand group reads same w m
  erase-by w (Some t) m = erase-operator t w m

  pub erase-word : (w : Token) (m : Machine) → erased state_of (machine_word group w m) ≡ one_word reads w (state_of m)
  erase-word w m = erased-cond state_of (nat_le 256 m.at) TooManyWords _ _ (erase-by w m.last m)

  pub erase-all : (words : List Token) (m : Machine) → erased state_of (machine_all group words m) ≡ all_words reads words (state_of m)
  erase-all [] m = refl
  erase-all (w ∷ words) m = erased-bind state_of state_of (machine_word group w m) (machine_all group words) _ (all_words reads words) (erase-word w m) (λ x. erase-all words x)

  pub erase-text : (text : List ℕ) (m : Machine) → erased counts_of (machine_text group text m) ≡ whole_text reads text (state_of m)
  erase-text text m =
      erased-cond counts_of (nat_le (length (tokens_of text)) 0) Empty _ _
      (erased-cond counts_of (nat_le 4097 (length text)) TooLong _ _
      (erased-bind state_of counts_of (machine_all group (tokens_of text) m) machine_end _ text_end (erase-all (tokens_of text) m) erase-end))

erase-found : (group : List (List ℕ) → List ℕ → Machine → Step) (reads : List (List ℕ) → List ℕ → State → ReadAnswer)
    → ((names : List (List ℕ)) (name : List ℕ) (m : Machine) → erased state_of (group names name m) ≡ reads names name (state_of m))
    → (names : List (List ℕ)) (name : List ℕ) (m : Machine) (text : Option (List ℕ)) → erased state_of (machine_found group names name m text) ≡ group_answer reads names name (state_of m) text
erase-found group reads same names name m None = refl
erase-found group reads same names name m (Some text) =
    erased-cond state_of (is_among names name) (Circle m.at) _ _
    (erased-bind counts_of state_of (machine_text (group (name ∷ names)) text (machine_begun m.part.nest.deep (m.at + 1) m.patterns)) (machine_resumed m) _ (after_group (state_of m))
    (erase-text (group (name ∷ names)) (reads (name ∷ names)) (same (name ∷ names)) text (machine_begun m.part.nest.deep (m.at + 1) m.patterns))
    (λ r. refl))

-- what a nodegroup's word does
pub erase-group : (depth : ℕ) (groups : List Group) (names : List (List ℕ)) (name : List ℕ) (m : Machine) → erased state_of (machine_group depth groups names name m) ≡ group_word depth groups names name (state_of m)
unfolding machine_group group_word
erase-group zero groups names name m = refl
erase-group (suc depth) groups names name m =
    erase-found (machine_group depth groups) (group_word depth groups) (erase-group depth groups) names name m (text_named groups name)
