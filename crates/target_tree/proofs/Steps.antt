-- One word of what is left to be read.
use Rattle.std.proofs.Common.{◌≡◌, ℕ, suc, ◌+◌, ◌-◌, ◌≤◌, ◌<◌, Bool, true, false, List, [], ◌∷◌, length, Option, None, Some, Result, Ok, Err, refl, ap, sym, subst, ◌∙◌, arith}
use Rattle.std.specs.Prelude.{IsErrAnd, if◌then◌else◌, nat_le}
use Rattle.std.proofs.lemmas.Bool.Decides.{nat_tests}
use Rattle.target_tree.specs.Nodegroups.{Group}
use Rattle.target_tree.specs.declared.target.Target.{Target}
use Rattle.target_tree.specs.declared.token.Token.{Token}
use Rattle.target_tree.specs.declared.token.Token.TheVariants.{AndWord, OrWord, NotWord, OpenWord, CloseWord, Leaf, Pattern, Nodegroup, NoLetter, NoLeaf}
use Rattle.target_tree.specs.declared.reader.Part.{Part}
use Rattle.target_tree.proofs.Sound.{unguarded, ok_is}
use Rattle.target_tree.specs.declared.reader.Reader.{Reader as Machine}
use Rattle.target_tree.specs.declared.reader.Ended.{Ended}
use Rattle.target_tree.specs.declared.run.Outer.{Outer}
use Rattle.target_tree.specs.declared.fault.TargetFault.{TargetFault}
use Rattle.target_tree.specs.declared.fault.TargetFault.TheVariants.{NoMemory, Empty, TooLong, TooDeep, TooManyWords, TooManyPatterns, Circle}
use Rattle.target_tree.specs.Words.{tokens_of}
use Rattle.target_tree.specs.Nodegroups.{text_named, is_among}
use Rattle.salt_value.specs.Readers.{◌>>=◌}
use Rattle.target_tree.specs.Reading.{IsFaultAsRead}
use Rattle.target_tree.specs.Machine.{Step, machine_operator, machine_closing, machine_operand, machine_by, machine_word, machine_all, machine_end, machine_end_by, machine_closed, machine_resumed, machine_group, machine_found, machine_text, machine_begun, no_group}
use Rattle.target_tree.specs.WaitingTexts.{Goes, going, names_of, within, entered_by, opened_by, group_text}

abbrev pub IsPlain : Token → Type 0
IsPlain (Nodegroup name) = ⊥
IsPlain _ = Unit {0}

plain-by : (group : List ℕ → Machine → Step) (w : Token) (last : Option Target) (m : Machine) → IsPlain w → machine_by group w last m ≡ machine_by no_group w last m
plain-by group w (Some t) m plain = refl
plain-by group AndWord None m plain = refl
plain-by group OrWord None m plain = refl
plain-by group NotWord None m plain = refl
plain-by group OpenWord None m plain = refl
plain-by group CloseWord None m plain = refl
plain-by group (Leaf t) None m plain = refl
plain-by group (Pattern t) None m plain = refl
plain-by group (Nodegroup name) None m plain = absurd plain
plain-by group NoLetter None m plain = refl
plain-by group NoLeaf None m plain = refl

pub plain-word : (group : List ℕ → Machine → Step) (w : Token) (m : Machine) → IsPlain w → machine_word group w m ≡ machine_word no_group w m
plain-word group w m plain = ap (λ (r : Step). if nat_le 256 m.at then Err TooManyWords else r) (plain-by group w m.last m plain)

-- a step of what is left
pub going-step : (depth : ℕ) (groups : List Group) (outers : List Outer) (w : Token) (ws : List Token) (m : Machine) (step : Step) → machine_word (machine_group depth groups (names_of outers)) w m ≡ step
    → going depth groups outers (w ∷ ws) m ≡ (step >>= going depth groups outers ws)
unfolding going
going-step depth groups [] w ws m (Ok x) e = ap (λ (r : Step). ((r >>= machine_all (machine_group depth groups []) ws) >>= machine_end) >>= λ (f : Ended). Ok f.tree) e
going-step depth groups [] w ws m (Err x) e = ap (λ (r : Step). ((r >>= machine_all (machine_group depth groups []) ws) >>= machine_end) >>= λ (f : Ended). Ok f.tree) e
going-step depth groups (o ∷ os) w ws m (Ok x) e =
    ap (λ (r : Step). (((r >>= machine_all (machine_group depth groups (names_of (o ∷ os))) ws) >>= machine_end) >>= machine_resumed o.reader) >>= going (suc depth) groups os (tokens_of o.rest.now)) e
going-step depth groups (o ∷ os) w ws m (Err x) e =
    ap (λ (r : Step). (((r >>= machine_all (machine_group depth groups (names_of (o ∷ os))) ws) >>= machine_end) >>= machine_resumed o.reader) >>= going (suc depth) groups os (tokens_of o.rest.now)) e

-- the end of the innermost text
pub going-end : (depth : ℕ) (groups : List Group) (o : Outer) (os : List Outer) (m : Machine) (e : Ended) → machine_end m ≡ Ok e
    → going depth groups (o ∷ os) [] m ≡ (machine_resumed o.reader e >>= going (suc depth) groups os (tokens_of o.rest.now))
unfolding going
going-end depth groups o os m e h = ap (λ (r : Result Ended TargetFault). (r >>= machine_resumed o.reader) >>= going (suc depth) groups os (tokens_of o.rest.now)) h

pub going-last : (depth : ℕ) (groups : List Group) (m : Machine) (e : Ended) → machine_end m ≡ Ok e → going depth groups [] [] m ≡ Ok e.tree
unfolding going
going-last depth groups m e h = ap (λ (r : Result Ended TargetFault). r >>= λ (f : Ended). Ok f.tree) h

pub going-fails : (depth : ℕ) (groups : List Group) (outers : List Outer) (m : Machine) (f : TargetFault) → machine_end m ≡ Err f → going depth groups outers [] m ≡ Err f
unfolding going
going-fails depth groups [] m f h = ap (λ (r : Result Ended TargetFault). r >>= λ (e : Ended). Ok e.tree) h
going-fails depth groups (o ∷ os) m f h = ap (λ (r : Result Ended TargetFault). (r >>= machine_resumed o.reader) >>= going (suc depth) groups os (tokens_of o.rest.now)) h

-- what a nodegroup's text gives to the text around
abbrev inner : ℕ → List Group → List (List ℕ) → Machine → List ℕ → Step
inner depth groups names m text = (machine_all (machine_group depth groups names) (tokens_of text) (machine_begun m.part.nest.deep (m.at + 1) m.patterns) >>= machine_end) >>= machine_resumed m

within-text : (depth : ℕ) (groups : List Group) (names : List (List ℕ)) (m : Machine) (text : List ℕ)
    → (machine_text (machine_group depth groups names) text (machine_begun m.part.nest.deep (m.at + 1) m.patterns) >>= machine_resumed m) ≡ (within text >>= inner depth groups names m)
within-text depth groups names m text = tested (nat_le (length (tokens_of text)) 0) (nat_le 4097 (length text))
  where
    tested : (a b : Bool) → ((if a then Err Empty else if b then Err TooLong else (machine_all (machine_group depth groups names) (tokens_of text) (machine_begun m.part.nest.deep (m.at + 1) m.patterns) >>= machine_end)) >>= machine_resumed m)
        ≡ ((if a then Err Empty else if b then Err TooLong else Ok text) >>= inner depth groups names m)
    tested true b = refl
    tested false true = refl
    tested false false = refl

found-entered : (depth : ℕ) (groups : List Group) (names : List (List ℕ)) (name : List ℕ) (m : Machine) (text : Option (List ℕ))
    → machine_found (machine_group depth groups) names name m text ≡ (entered_by names name m.at text >>= inner depth groups (name ∷ names) m)
found-entered depth groups names name m None = refl
found-entered depth groups names name m (Some text) = tested (is_among names name) (within-text depth groups (name ∷ names) m text)
  where
    tested : (a : Bool) → (machine_text (machine_group depth groups (name ∷ names)) text (machine_begun m.part.nest.deep (m.at + 1) m.patterns) >>= machine_resumed m) ≡ (within text >>= inner depth groups (name ∷ names) m)
        → (if a then Err (Circle m.at) else (machine_text (machine_group depth groups (name ∷ names)) text (machine_begun m.part.nest.deep (m.at + 1) m.patterns) >>= machine_resumed m))
        ≡ ((if a then Err (Circle m.at) else within text) >>= inner depth groups (name ∷ names) m)
    tested true e = refl
    tested false e = e

by-opened : (depth : ℕ) (groups : List Group) (names : List (List ℕ)) (name : List ℕ) (m : Machine) (last : Option Target)
    → machine_by (machine_group (suc depth) groups names) (Nodegroup name) last m ≡ (opened_by groups names name m.at last >>= inner depth groups (name ∷ names) m)
unfolding machine_group
by-opened depth groups names name m None = found-entered depth groups names name m (text_named groups name)
by-opened depth groups names name m (Some t) = refl

word-opened : (depth : ℕ) (groups : List Group) (names : List (List ℕ)) (name : List ℕ) (m : Machine)
    → machine_word (machine_group (suc depth) groups names) (Nodegroup name) m ≡ (group_text groups names name m >>= inner depth groups (name ∷ names) m)
word-opened depth groups names name m = tested (nat_le 256 m.at)
  where
    tested : (a : Bool) → (if a then Err TooManyWords else machine_by (machine_group (suc depth) groups names) (Nodegroup name) m.last m)
        ≡ ((if a then Err TooManyWords else opened_by groups names name m.at m.last) >>= inner depth groups (name ∷ names) m)
    tested true = refl
    tested false = by-opened depth groups names name m m.last

-- a nodegroup's word
pub going-open : (depth : ℕ) (groups : List Group) (o : Outer) (os : List Outer) (text : List ℕ) → group_text groups (names_of os) o.name o.reader ≡ Ok text
    → going (suc depth) groups os (Nodegroup o.name ∷ tokens_of o.rest.now) o.reader ≡ going depth groups (o ∷ os) (tokens_of text) (machine_begun o.reader.part.nest.deep (o.reader.at + 1) o.reader.patterns)
unfolding going
going-open depth groups o os text e =
    let step = word-opened depth groups (names_of os) o.name o.reader ∙ ap (λ (r : Result (List ℕ) TargetFault). r >>= inner depth groups (o.name ∷ names_of os) o.reader) e in
    going-step (suc depth) groups os (Nodegroup o.name) (tokens_of o.rest.now) o.reader _ step

pub going-shut : (depth : ℕ) (groups : List Group) (os : List Outer) (name : List ℕ) (ws : List Token) (m : Machine) (f : TargetFault) → group_text groups (names_of os) name m ≡ Err f
    → going (suc depth) groups os (Nodegroup name ∷ ws) m ≡ Err f
going-shut depth groups os name ws m f e =
    going-step (suc depth) groups os (Nodegroup name) ws m (Err f) (word-opened depth groups (names_of os) name m ∙ ap (λ (r : Result (List ℕ) TargetFault). r >>= inner depth groups (name ∷ names_of os) m) e)

pub carry : {A B : Type 0} (f : TargetFault) (to : Result A TargetFault) (on : Result B TargetFault) → IsFaultAsRead f to → (to ≡ Err f → on ≡ Err f) → IsFaultAsRead f on
carry NoMemory to on h each = tt
carry f to on h each = each h

pub opened-at : (groups : List Group) (names : List (List ℕ)) (name : List ℕ) (m : Machine) (text : List ℕ) → group_text groups names name m ≡ Ok text → m.at < 256
opened-at groups names name m text e = tested (nat_le 256 m.at) refl e
  where
    tested : (b : Bool) → nat_le 256 m.at ≡ b → (if b then Err TooManyWords else opened_by groups names name m.at m.last) ≡ Ok text → m.at < 256
    tested true le h = cc
    tested false le h = grind (arith, nat_tests)

pub goes-open : (groups : List Group) (o : Outer) (os new : List Outer) (text : List ℕ) (next : Machine) → length os ≤ o.reader.at → group_text groups (names_of os) o.name o.reader ≡ Ok text
    → new ≡ o ∷ os → next ≡ machine_begun o.reader.part.nest.deep (o.reader.at + 1) o.reader.patterns → Goes groups os new o.reader (Nodegroup o.name ∷ tokens_of o.rest.now) next text
goes-open groups o os new text next le e pushed begun =
    let few : o.reader.at < 256 = opened-at groups (names_of os) o.name o.reader text e in
    let outside : 257 - length os ≡ suc (256 - length os) = omega arith in
    let inside : 256 - length os ≡ 257 - length (o ∷ os) = omega arith in
    let longer : length new ≡ length (o ∷ os) = ap length pushed in
    let counted : next.at ≡ o.reader.at + 1 = ap (λ (m : Machine). m.at) begun in
    record {
      same = ap (λ (d : ℕ). going d groups os (Nodegroup o.name ∷ tokens_of o.rest.now) o.reader) outside
          ∙ (going-open (256 - length os) groups o os text e
          ∙ (ap (λ (d : ℕ). going d groups (o ∷ os) (tokens_of text) (machine_begun o.reader.part.nest.deep (o.reader.at + 1) o.reader.patterns)) inside
          ∙ (ap (λ (x : List Outer). going (257 - length x) groups x (tokens_of text) (machine_begun o.reader.part.nest.deep (o.reader.at + 1) o.reader.patterns)) (sym pushed)
          ∙ ap (λ (x : Machine). going (257 - length new) groups new (tokens_of text) x) (sym begun))));
      one_word = counted;
      counted = omega arith;
      nested = omega arith;
    }

pub shut-goes : (groups : List Group) (os : List Outer) (name : List ℕ) (ws : List Token) (m : Machine) (f : TargetFault) → length os ≤ m.at → m.at ≤ 256 → IsFaultAsRead f (group_text groups (names_of os) name m)
    → IsFaultAsRead f (going (257 - length os) groups os (Nodegroup name ∷ ws) m)
shut-goes groups os name ws m f le few h =
    let outside : 257 - length os ≡ suc (256 - length os) = omega arith in
    carry f (group_text groups (names_of os) name m) (going (257 - length os) groups os (Nodegroup name ∷ ws) m) h
    (λ e. ap (λ (d : ℕ). going d groups os (Nodegroup name ∷ ws) m) outside ∙ going-shut (256 - length os) groups os name ws m f e)

operand-at : (w : Token) (m new : Machine) → machine_operand no_group w m ≡ Ok new → new.at ≡ m.at + 1
operand-at NotWord m new e = sym (ap (λ (x : Machine). x.at) (ok_is _ _ (unguarded (nat_le 64 m.part.nest.deep) TooDeep _ new e)))
operand-at OpenWord m new e = sym (ap (λ (x : Machine). x.at) (ok_is _ _ (unguarded (nat_le 64 m.part.nest.deep) TooDeep _ new e)))
operand-at (Leaf t) m new e = sym (ap (λ (x : Machine). x.at) (ok_is _ _ e))
operand-at (Pattern t) m new e = sym (ap (λ (x : Machine). x.at) (ok_is _ _ (unguarded (nat_le 16 m.patterns) TooManyPatterns _ new e)))
operand-at (Nodegroup name) m new e = cc
operand-at AndWord m new e = cc
operand-at OrWord m new e = cc
operand-at CloseWord m new e = cc
operand-at NoLetter m new e = cc
operand-at NoLeaf m new e = cc

closing-at : (t : Target) (parts : List Part) (m new : Machine) → machine_closing t parts m ≡ Ok new → new.at ≡ m.at + 1
closing-at t [] m new e = cc
closing-at t (p ∷ ps) m new e = sym (ap (λ (x : Machine). x.at) (ok_is _ _ e))

operator-at : (t : Target) (w : Token) (m new : Machine) → machine_operator t w m ≡ Ok new → new.at ≡ m.at + 1
operator-at t AndWord m new e = sym (ap (λ (x : Machine). x.at) (ok_is _ _ e))
operator-at t OrWord m new e = sym (ap (λ (x : Machine). x.at) (ok_is _ _ e))
operator-at t CloseWord m new e = closing-at t m.parts m new e
operator-at t NotWord m new e = cc
operator-at t OpenWord m new e = cc
operator-at t (Leaf u) m new e = cc
operator-at t (Pattern u) m new e = cc
operator-at t (Nodegroup name) m new e = cc
operator-at t NoLetter m new e = cc
operator-at t NoLeaf m new e = cc

by-at : (w : Token) (last : Option Target) (m new : Machine) → machine_by no_group w last m ≡ Ok new → new.at ≡ m.at + 1
by-at w None m new e = operand-at w m new e
by-at w (Some t) m new e = operator-at t w m new e

word-few : (w : Token) (m new : Machine) → machine_word no_group w m ≡ Ok new → m.at < 256
word-few w m new e = tested (nat_le 256 m.at) refl e
  where
    tested : (b : Bool) → nat_le 256 m.at ≡ b → (if b then Err TooManyWords else machine_by no_group w m.last m) ≡ Ok new → m.at < 256
    tested true le h = cc
    tested false le h = grind (arith, nat_tests)

pub goes-plain : (groups : List Group) (os : List Outer) (w : Token) (m next : Machine) (more : List ℕ) → IsPlain w → machine_word no_group w m ≡ Ok next → Goes groups os os m (w ∷ tokens_of more) next more
goes-plain groups os w m next more plain e =
    let few : m.at < 256 = word-few w m next e in
    let counted : next.at ≡ m.at + 1 = by-at w m.last m next (unguarded (nat_le 256 m.at) TooManyWords _ next e) in
    record {
      same = going-step (257 - length os) groups os w (tokens_of more) m (Ok next) (plain-word (machine_group (257 - length os) groups (names_of os)) w m plain ∙ e);
      one_word = counted;
      counted = omega arith;
      nested = omega arith;
    }

pub plain-fails : (groups : List Group) (os : List Outer) (w : Token) (ws : List Token) (m : Machine) (f : TargetFault) → IsPlain w → IsFaultAsRead f (machine_word no_group w m) → IsFaultAsRead f (going (257 - length os) groups os (w ∷ ws) m)
plain-fails groups os w ws m f plain h =
    carry f (machine_word no_group w m) (going (257 - length os) groups os (w ∷ ws) m) h
    (λ e. going-step (257 - length os) groups os w ws m (Err f) (plain-word (machine_group (257 - length os) groups (names_of os)) w m plain ∙ e))

pub is_plain : (w : Token) → ((name : List ℕ) → w ≡ Nodegroup name → ⊥) → IsPlain w
is_plain (Nodegroup name) not = not name refl
is_plain _ not = tt

-- the steps of the loop
pub run-word : (groups : List Group) (os new : List Outer) (m next : Machine) (rest more to : List ℕ) (w : Token) (whole : Result Target TargetFault) → tokens_of rest ≡ w ∷ tokens_of more
    → whole ≡ going (257 - length os) groups os (tokens_of rest) m → Goes groups os new m (w ∷ tokens_of more) next to → whole ≡ going (257 - length new) groups new (tokens_of to) next
run-word groups os new m next rest more to w whole words so step = so ∙ (ap (λ (ws : List Token). going (257 - length os) groups os ws m) words ∙ step.same)

pub run-word-fails : (groups : List Group) (os : List Outer) (m : Machine) (rest more : List ℕ) (w : Token) (whole : Result Target TargetFault) (f : TargetFault) → tokens_of rest ≡ w ∷ tokens_of more
    → whole ≡ going (257 - length os) groups os (tokens_of rest) m → IsFaultAsRead f (going (257 - length os) groups os (w ∷ tokens_of more) m) → IsFaultAsRead f whole
run-word-fails groups os m rest more w whole f words so h =
    carry f (going (257 - length os) groups os (w ∷ tokens_of more) m) whole h (λ e. so ∙ (ap (λ (ws : List Token). going (257 - length os) groups os ws m) words ∙ e))

pub run-last : (groups : List Group) (os : List Outer) (m : Machine) (rest : List ℕ) (whole : Result Target TargetFault) (e : Ended) → tokens_of rest ≡ [] → whole ≡ going (257 - length os) groups os (tokens_of rest) m
    → os ≡ [] → machine_end m ≡ Ok e → whole ≡ Ok e.tree
run-last groups os m rest whole e none so empty h =
    so ∙ (ap (λ (ws : List Token). going (257 - length os) groups os ws m) none ∙ (ap (λ (x : List Outer). going (257 - length x) groups x [] m) empty ∙ going-last 257 groups m e h))

pub run-end : (groups : List Group) (os new : List Outer) (o : Outer) (m next : Machine) (rest : List ℕ) (whole : Result Target TargetFault) (e : Ended) → tokens_of rest ≡ [] → length os ≤ 257 → whole ≡ going (257 - length os) groups os (tokens_of rest) m
    → os ≡ o ∷ new → machine_end m ≡ Ok e → machine_resumed o.reader e ≡ Ok next → whole ≡ going (257 - length new) groups new (tokens_of o.rest.now) next
run-end groups os new o m next rest whole e none few so popped h resumed =
    let longer : length os ≡ length (o ∷ new) = ap length popped in
    let depth : suc (257 - length (o ∷ new)) ≡ 257 - length new = omega arith in
    so ∙ (ap (λ (ws : List Token). going (257 - length os) groups os ws m) none
    ∙ (ap (λ (x : List Outer). going (257 - length x) groups x [] m) popped
    ∙ (going-end (257 - length (o ∷ new)) groups o new m e h
    ∙ (ap (λ (r : Step). r >>= going (suc (257 - length (o ∷ new))) groups new (tokens_of o.rest.now)) resumed
    ∙ ap (λ (d : ℕ). going d groups new (tokens_of o.rest.now) next) depth))))

pub run-end-fails : (groups : List Group) (os : List Outer) (m : Machine) (rest : List ℕ) (whole : Result Target TargetFault) (f : TargetFault) → tokens_of rest ≡ [] → whole ≡ going (257 - length os) groups os (tokens_of rest) m
    → IsFaultAsRead f (machine_end m) → IsFaultAsRead f whole
run-end-fails groups os m rest whole f none so h =
    carry f (machine_end m) whole h (λ e. so ∙ (ap (λ (ws : List Token). going (257 - length os) groups os ws m) none ∙ going-fails (257 - length os) groups os m f e))

-- resuming never fails but for memory, and goes on with the inner counts
pub resumed-at : (m next : Machine) (e : Ended) → machine_resumed m e ≡ Ok next → next.at ≡ e.at
resumed-at m next e h = sym (ap (λ (x : Machine). x.at) (ok_is _ _ h))

pub ended-at : (m : Machine) (e : Ended) → machine_end m ≡ Ok e → e.at ≡ m.at
ended-at m e h = by m.last h
  where
    shut : (t : Target) (parts : List Part) → machine_closed t parts m ≡ Ok e → e.at ≡ m.at
    shut t [] f = sym (ap (λ (x : Ended). x.at) (ok_is _ _ f))
    shut t (p ∷ ps) f = cc

    by : (last : Option Target) → machine_end_by last m ≡ Ok e → e.at ≡ m.at
    by None f = cc
    by (Some t) f = shut t m.parts f

-- what `?` hands on
pub handed : {A : Type 0} (r : Result A TargetFault) (f : TargetFault) (P : Result A TargetFault → Type 0) → IsErrAnd r (λ e. e ≡ f) → P (Err f) → P r
handed (Ok x) f P h p = absurd h
handed (Err e) f P h p = subst (λ (x : TargetFault). P (Err x)) (sym h) p
