-- What the machine reads stands for its tree.
use Rattle.std.proofs.Common.{◌≡◌, ℕ, zero, suc, ◌+◌, ◌-◌, ◌≤◌, Bool, true, false, List, [], ◌∷◌, ◌++◌, length, Option, None, Some, Result, Ok, Err, refl, ap, sym, subst, ◌∙◌, arith, append_assoc, append-nil}
use Rattle.std.specs.Prelude.{if◌then◌else◌, nat_le}
use Rattle.target_tree.specs.Nodegroups.{Group}
use Rattle.target_tree.specs.declared.target.Target.{Target}
use Rattle.target_tree.specs.declared.target.Target.TheVariants.{Not, And, Or}
use Rattle.target_tree.specs.declared.fault.TargetFault.{TargetFault}
use Rattle.target_tree.specs.declared.fault.TargetFault.TheVariants.{Empty, TooLong, TooDeep, TooManyWords, TooManyPatterns, Circle}
use Rattle.target_tree.specs.declared.token.Token.{Token}
use Rattle.target_tree.specs.declared.token.Token.TheVariants.{AndWord, OrWord, NotWord, OpenWord, CloseWord, Leaf, Pattern, Nodegroup, NoLetter, NoLeaf}
use Rattle.target_tree.specs.Words.{tokens_of}
use Rattle.target_tree.specs.Nodegroups.{text_named, is_among}
use Rattle.target_tree.specs.Grammar.{operand, conjunction, compound, Stands, one_leaf, one_pattern, one_group, negated, in_parens, one_operand, joined_by_and, one_conjunction, joined_by_or}
use Rattle.salt_value.specs.Readers.{◌>>=◌}
use Rattle.target_tree.specs.declared.reader.Part.{Part}
use Rattle.target_tree.specs.declared.reader.Reader.{Reader as Machine}
use Rattle.target_tree.specs.declared.reader.Ended.{Ended}
use Rattle.target_tree.specs.Machine.{Step, fresh, deeper, bare, joined_and, joined_or, negations, with_operand, machine_operand, machine_operator, machine_closing, machine_closed, machine_by, machine_word, machine_all, machine_end_by, machine_end, machine_text, machine_begun, machine_found, machine_resumed, machine_group}

-- that an answer is there, taken apart
pub unguarded : {A : Type 0} (b : Bool) (e : TargetFault) (r : Result A TargetFault) (x : A) → (if b then Err e else r) ≡ Ok x → r ≡ Ok x
unguarded true e r x h = cc
unguarded false e r x h = h

pub bind_ok : {A B : Type 0} (r : Result A TargetFault) (f : A → Result B TargetFault) (y : B) → (r >>= f) ≡ Ok y → (x : A) × (r ≡ Ok x) × (f x ≡ Ok y)
bind_ok (Ok x) f y h = (x, refl, h)
bind_ok (Err e) f y h = cc

pub ok_is : {A : Type 0} (x y : A) → ◌≡◌ {A = Result A TargetFault} (Ok x) (Ok y) → x ≡ y
ok_is x y h = cc

abbrev pub nots : ℕ → List Token
nots zero = []
nots (suc n) = NotWord ∷ nots n

deep-append : (a b c d : List Token) → (a ++ (b ++ c)) ++ d ≡ a ++ (b ++ (c ++ d))
deep-append a b c d = simp append_assoc

and-words : (a b : List Token) → (a ++ b) ++ AndWord ∷ [] ≡ a ++ ((b ++ AndWord ∷ []) ++ [])
and-words a b = append_assoc a b (AndWord ∷ []) ∙ ap (λ (x : List Token). a ++ x) (sym (append-nil (b ++ AndWord ∷ [])))

not-last : (n : ℕ) (u : List Token) → nots n ++ NotWord ∷ u ≡ NotWord ∷ (nots n ++ u)
not-last zero u = refl
not-last (suc n) u = ap (λ (ws : List Token). NotWord ∷ ws) (not-last n u)

nots-more : (n : ℕ) → nots n ++ NotWord ∷ [] ≡ nots (suc n)
nots-more zero = refl
nots-more (suc n) = ap (λ (ws : List Token). NotWord ∷ ws) (nots-more n)

module _ (groups : List Group) (names : List (List ℕ)) where
  pub all_negated : (n : ℕ) (u : List Token) (t : Target) → Stands groups names operand u t → Stands groups names operand (nots n ++ u) (negations n t)
  all_negated zero u t h = h
  all_negated (suc n) u t h = subst (λ (ws : List Token). Stands groups names operand ws (negations n (Not t))) (not-last n u) (all_negated n (NotWord ∷ u) (Not t) (negated h))

  -- the words up to an `or` and an `and`
  abbrev pub Ors : Option Target → List Token → Type 0
  Ors None ws = ws ≡ []
  Ors (Some t) ws = (left : List Token) × (ws ≡ left ++ OrWord ∷ []) × Stands groups names compound left t

  abbrev pub Ands : Option Target → List Token → Type 0
  Ands None ws = ws ≡ []
  Ands (Some t) ws = (left : List Token) × (ws ≡ left ++ AndWord ∷ []) × Stands groups names conjunction left t

  -- of one parenthesis: these words were read, and an operand is due
  pub record Waits (part : Part) (ws : List Token) : Type 0 where
    pub ors : List Token
    pub ands : List Token
    pub whole : ws ≡ ors ++ (ands ++ nots (part.nest.deep - part.nest.around))
    pub before_or : Ors part.left_or ors
    pub before_and : Ands part.left_and ands
    pub inside : part.nest.around ≤ part.nest.deep

  -- of one parenthesis: these words were read, and this operand stands
  pub record Done (part : Part) (t : Target) (ws : List Token) : Type 0 where
    pub ors : List Token
    pub ands : List Token
    pub whole : ws ≡ ors ++ ands
    pub before_or : Ors part.left_or ors
    pub stands : Stands groups names conjunction ands t
    pub none_open : part.nest.deep ≡ part.nest.around

  and-joined : (left_and : Option Target) (ands u : List Token) (t : Target) → Ands left_and ands → Stands groups names operand u t → Stands groups names conjunction (ands ++ u) (joined_and left_and t)
  and-joined None ands u t h stands = subst (λ (ws : List Token). Stands groups names conjunction (ws ++ u) t) (sym h) (one_operand stands)
  and-joined (Some a) ands u t (left, e, h) stands =
      subst (λ (ws : List Token). Stands groups names conjunction ws (And a t)) (sym (ap (λ (ws : List Token). ws ++ u) e ∙ append_assoc left (AndWord ∷ []) u)) (joined_by_and h stands)

  or-joined : (left_or : Option Target) (ors u : List Token) (t : Target) → Ors left_or ors → Stands groups names conjunction u t → Stands groups names compound (ors ++ u) (joined_or left_or t)
  or-joined None ors u t h stands = subst (λ (ws : List Token). Stands groups names compound (ws ++ u) t) (sym h) (one_conjunction stands)
  or-joined (Some a) ors u t (left, e, h) stands =
      subst (λ (ws : List Token). Stands groups names compound ws (Or a t)) (sym (ap (λ (ws : List Token). ws ++ u) e ∙ append_assoc left (OrWord ∷ []) u)) (joined_by_or h stands)

  -- an operand's words come
  pub waits-done : (m : Machine) (ws u : List Token) (t : Target) → Waits m.part ws → Stands groups names operand u t
      → Done (record { left_or = m.part.left_or; left_and = None; nest = fresh m.part.nest.around }) (joined_and m.part.left_and (negations (m.part.nest.deep - m.part.nest.around) t)) (ws ++ u)
  waits-done m ws u t h stands =
      let n : ℕ = m.part.nest.deep - m.part.nest.around in
      record {
        ors = h.ors;
        ands = h.ands ++ (nots n ++ u);
        whole = ap (λ (x : List Token). x ++ u) h.whole ∙ simp append_assoc;
        before_or = h.before_or;
        stands = and-joined m.part.left_and h.ands (nots n ++ u) (negations n t) h.before_and (all_negated n u t stands);
        none_open = refl;
      }

  pub whole-stands : (part : Part) (t : Target) (ws : List Token) → Done part t ws → Stands groups names compound ws (joined_or part.left_or t)
  whole-stands part t ws h = subst (λ (x : List Token). Stands groups names compound x (joined_or part.left_or t)) (sym h.whole) (or-joined part.left_or h.ors h.ands t h.before_or h.stands)

  -- the words up to the innermost open `(`
  abbrev pub Around : List Part → List Token → Type 0
  Around [] all = all ≡ []
  Around (part ∷ parts) all = (outer inner : List Token) × (all ≡ outer ++ (inner ++ OpenWord ∷ [])) × Waits part inner × Around parts outer

  abbrev pub Here : Option Target → Part → List Token → Type 0
  Here None part ws = Waits part ws
  Here (Some t) part ws = Done part t ws

  -- The machine has read these words of its text.
  pub record Read (m : Machine) (all : List Token) : Type 0 where
    pub outer : List Token
    pub inner : List Token
    pub split : all ≡ outer ++ inner
    pub around : Around m.parts outer
    pub here : Here m.last m.part inner

  -- What a nodegroup's word does.
  pub record IsGroup (name : List ℕ) (m new : Machine) : Type 0 where
    pub tree : Target
    pub at : ℕ
    pub patterns : ℕ
    pub ends : with_operand tree (record m { at = at; patterns = patterns }) ≡ new
    pub stands : Stands groups names operand (Nodegroup name ∷ []) tree

  waits-bare : (around : ℕ) → Waits (bare around) []
  waits-bare around =
      let none : 0 ≡ around - around = omega arith in
      record { ors = []; ands = []; whole = ap (λ (n : ℕ). nots n) none; before_or = refl; before_and = refl; inside = omega arith }

  waits-deeper : (part : Part) (ws : List Token) → Waits part ws → Waits (record { left_or = part.left_or; left_and = part.left_and; nest = deeper part.nest }) (ws ++ NotWord ∷ [])
  waits-deeper part ws h =
      let inside : part.nest.around ≤ part.nest.deep = h.inside in
      let more : suc (part.nest.deep - part.nest.around) ≡ (part.nest.deep + 1) - part.nest.around = omega arith in
      record {
        ors = h.ors;
        ands = h.ands;
        whole = ap (λ (x : List Token). x ++ NotWord ∷ []) h.whole ∙ deep-append h.ors h.ands (nots (part.nest.deep - part.nest.around)) (NotWord ∷ [])
            ∙ ap (λ (x : List Token). h.ors ++ (h.ands ++ x)) (nots-more (part.nest.deep - part.nest.around) ∙ ap (λ (n : ℕ). nots n) more);
        before_or = h.before_or;
        before_and = h.before_and;
        inside = omega arith;
      }

  -- an `and`, an `or`
  done-and : (part : Part) (t : Target) (ws : List Token) → Done part t ws → Waits (record { left_or = part.left_or; left_and = Some t; nest = part.nest }) (ws ++ AndWord ∷ [])
  done-and part t ws h =
      let level : part.nest.deep ≡ part.nest.around = h.none_open in
      let none : 0 ≡ part.nest.deep - part.nest.around = omega arith in
      record {
        ors = h.ors;
        ands = h.ands ++ AndWord ∷ [];
        whole = ap (λ (x : List Token). x ++ AndWord ∷ []) h.whole ∙ (and-words h.ors h.ands ∙ ap (λ (n : ℕ). h.ors ++ ((h.ands ++ AndWord ∷ []) ++ nots n)) none);
        before_or = h.before_or;
        before_and = (h.ands, refl, h.stands);
        inside = omega arith;
      }

  done-or : (part : Part) (t : Target) (ws : List Token) → Done part t ws → Waits (record { left_or = Some (joined_or part.left_or t); left_and = None; nest = part.nest }) (ws ++ OrWord ∷ [])
  done-or part t ws h =
      let level : part.nest.deep ≡ part.nest.around = h.none_open in
      let none : 0 ≡ part.nest.deep - part.nest.around = omega arith in
      record {
        ors = ws ++ OrWord ∷ [];
        ands = [];
        whole = sym (append-nil (ws ++ OrWord ∷ [])) ∙ ap (λ (n : ℕ). (ws ++ OrWord ∷ []) ++ nots n) none;
        before_or = (ws, refl, whole-stands part t ws h);
        before_and = refl;
        inside = omega arith;
      }

  pub begun-read : (around at patterns : ℕ) → Read (machine_begun around at patterns) []
  begun-read around at patterns = record {
    outer = [];
    inner = [];
    split = refl;
    around = refl;
    here = waits-bare around;
  }

  mended-read : (m : Machine) (all outer inner u : List Token) (t : Target) (at patterns : ℕ) → all ≡ outer ++ inner → Around m.parts outer → Waits m.part inner → Stands groups names operand u t
      → Read (with_operand t (record m { at = at; patterns = patterns })) (all ++ u)
  mended-read m all outer inner u t at patterns split around h stands = record {
    outer = outer;
    inner = inner ++ u;
    split = ap (λ (x : List Token). x ++ u) split ∙ append_assoc outer inner u;
    around = around;
    here = waits-done m inner u t h stands;
  }

  module _ (group : List ℕ → Machine → Step) (sound : (name : List ℕ) (m new : Machine) → group name m ≡ Ok new → IsGroup name m new) where
    operand-read : (w : Token) (m new : Machine) (all outer inner : List Token) → all ≡ outer ++ inner → Around m.parts outer → Waits m.part inner → m.last ≡ None → machine_operand group w m ≡ Ok new → Read new (all ++ w ∷ [])
    operand-read NotWord m new all outer inner split around h last e =
        subst (λ (x : Machine). Read x (all ++ NotWord ∷ [])) (ok_is _ _ (unguarded (nat_le 64 m.part.nest.deep) TooDeep _ new e)) (record {
          outer = outer;
          inner = inner ++ NotWord ∷ [];
          split = ap (λ (x : List Token). x ++ NotWord ∷ []) split ∙ append_assoc outer inner (NotWord ∷ []);
          around = around;
          here = subst (λ (x : Option Target). Here x (record { left_or = m.part.left_or; left_and = m.part.left_and; nest = deeper m.part.nest }) (inner ++ NotWord ∷ [])) (sym last) (waits-deeper m.part inner h);
        })
    operand-read OpenWord m new all outer inner split around h last e =
        subst (λ (x : Machine). Read x (all ++ OpenWord ∷ [])) (ok_is _ _ (unguarded (nat_le 64 m.part.nest.deep) TooDeep _ new e)) (record {
          outer = all ++ OpenWord ∷ [];
          inner = [];
          split = sym (append-nil (all ++ OpenWord ∷ []));
          around = (outer, inner, ap (λ (x : List Token). x ++ OpenWord ∷ []) split ∙ append_assoc outer inner (OpenWord ∷ []), h, around);
          here = subst (λ (x : Option Target). Here x (bare (m.part.nest.deep + 1)) []) (sym last) (waits-bare (m.part.nest.deep + 1));
        })
    operand-read (Leaf t) m new all outer inner split around h last e =
        subst (λ (x : Machine). Read x (all ++ Leaf t ∷ [])) (ok_is _ _ e) (mended-read m all outer inner (Leaf t ∷ []) t (m.at + 1) m.patterns split around h one_leaf)
    operand-read (Pattern t) m new all outer inner split around h last e =
        subst (λ (x : Machine). Read x (all ++ Pattern t ∷ [])) (ok_is _ _ (unguarded (nat_le 16 m.patterns) TooManyPatterns _ new e)) (mended-read m all outer inner (Pattern t ∷ []) t (m.at + 1) (m.patterns + 1) split around h one_pattern)
    operand-read (Nodegroup name) m new all outer inner split around h last e =
        let g = sound name m new e in
        subst (λ (x : Machine). Read x (all ++ Nodegroup name ∷ [])) g.ends (mended-read m all outer inner (Nodegroup name ∷ []) g.tree g.at g.patterns split around h g.stands)
    operand-read NoLetter m new all outer inner split around h last e = cc
    operand-read AndWord m new all outer inner split around h last e = cc
    operand-read OrWord m new all outer inner split around h last e = cc
    operand-read CloseWord m new all outer inner split around h last e = cc
    operand-read NoLeaf m new all outer inner split around h last e = cc

  closing-read : (t : Target) (parts : List Part) (m new : Machine) (all outer inner : List Token) → all ≡ outer ++ inner → Around parts outer → Done m.part t inner → machine_closing t parts m ≡ Ok new → Read new (all ++ CloseWord ∷ [])
  closing-read t [] m new all outer inner split around h e = cc
  closing-read t (part ∷ parts) m new all outer inner split (before, within, place, waits, rest) h e =
      let words : List Token = OpenWord ∷ (inner ++ CloseWord ∷ []) in
      let regrouped : all ++ CloseWord ∷ [] ≡ (before ++ within) ++ words =
      ap (λ (x : List Token). x ++ CloseWord ∷ []) (split ∙ ap (λ (x : List Token). x ++ inner) place) ∙ simp append_assoc in
      subst (λ (x : Machine). Read x (all ++ CloseWord ∷ [])) (ok_is _ _ e)
      (subst (λ (x : List Token). Read (with_operand (joined_or m.part.left_or t) (record m { part = part; parts = parts; at = m.at + 1 })) x) (sym regrouped)
      (mended-read (record m { part = part; parts = parts }) (before ++ within) before within words (joined_or m.part.left_or t) (m.at + 1) m.patterns refl rest waits
      (in_parens (whole-stands m.part t inner h))))

  operator-read : (t : Target) (w : Token) (m new : Machine) (all outer inner : List Token) → all ≡ outer ++ inner → Around m.parts outer → Done m.part t inner → machine_operator t w m ≡ Ok new → Read new (all ++ w ∷ [])
  operator-read t AndWord m new all outer inner split around h e =
      subst (λ (x : Machine). Read x (all ++ AndWord ∷ [])) (ok_is _ _ e) (record {
        outer = outer;
        inner = inner ++ AndWord ∷ [];
        split = ap (λ (x : List Token). x ++ AndWord ∷ []) split ∙ append_assoc outer inner (AndWord ∷ []);
        around = around;
        here = done-and m.part t inner h;
      })
  operator-read t OrWord m new all outer inner split around h e =
      subst (λ (x : Machine). Read x (all ++ OrWord ∷ [])) (ok_is _ _ e) (record {
        outer = outer;
        inner = inner ++ OrWord ∷ [];
        split = ap (λ (x : List Token). x ++ OrWord ∷ []) split ∙ append_assoc outer inner (OrWord ∷ []);
        around = around;
        here = done-or m.part t inner h;
      })
  operator-read t CloseWord m new all outer inner split around h e = closing-read t m.parts m new all outer inner split around h e
  operator-read t NotWord m new all outer inner split around h e = cc
  operator-read t OpenWord m new all outer inner split around h e = cc
  operator-read t (Leaf u) m new all outer inner split around h e = cc
  operator-read t (Pattern u) m new all outer inner split around h e = cc
  operator-read t (Nodegroup name) m new all outer inner split around h e = cc
  operator-read t NoLetter m new all outer inner split around h e = cc
  operator-read t NoLeaf m new all outer inner split around h e = cc

  pub end-stands : (last : Option Target) (m : Machine) (all : List Token) (outer inner : List Token) → all ≡ outer ++ inner → Around m.parts outer → Here last m.part inner → (e : Ended)
      → machine_end_by last m ≡ Ok e → Stands groups names compound all e.tree
  end-stands None m all outer inner split around h r e = cc
  end-stands (Some last) m all outer inner split around h r e = closed m.parts around e
    where
      closed : (parts : List Part) → Around parts outer → machine_closed last parts m ≡ Ok r → Stands groups names compound all r.tree
      closed [] none f =
          let tree : joined_or m.part.left_or last ≡ r.tree = ap (λ (x : Ended). x.tree) (ok_is _ _ f) in
          let words : inner ≡ all = sym (split ∙ ap (λ (x : List Token). x ++ inner) none) in
          subst (λ (x : List Token). Stands groups names compound x r.tree) words (subst (λ (x : Target). Stands groups names compound inner x) tree (whole-stands m.part last inner h))
      closed (part ∷ parts) none f = cc

  module _ (group : List ℕ → Machine → Step) (sound : (name : List ℕ) (m new : Machine) → group name m ≡ Ok new → IsGroup name m new) where
    by-read : (last : Option Target) (w : Token) (m new : Machine) (all outer inner : List Token) → m.last ≡ last → all ≡ outer ++ inner → Around m.parts outer → Here last m.part inner → machine_by group w last m ≡ Ok new → Read new (all ++ w ∷ [])
    by-read None w m new all outer inner last split around h e = operand-read group sound w m new all outer inner split around h last e
    by-read (Some t) w m new all outer inner last split around h e = operator-read t w m new all outer inner split around h e

    pub word-read : (w : Token) (m new : Machine) (all : List Token) → Read m all → machine_word group w m ≡ Ok new → Read new (all ++ w ∷ [])
    word-read w m new all h e = by-read m.last w m new all h.outer h.inner refl h.split h.around h.here (unguarded (nat_le 256 m.at) TooManyWords _ new e)

    pub all-read : (words : List Token) (m new : Machine) (all : List Token) → Read m all → machine_all group words m ≡ Ok new → Read new (all ++ words)
    all-read [] m new all h e = subst (λ (x : List Token). Read new x) (sym (append-nil all)) (subst (λ (x : Machine). Read x all) (ok_is _ _ e) h)
    all-read (w ∷ words) m new all h e =
        let step = bind_ok (machine_word group w m) (machine_all group words) new e in
        subst (λ (x : List Token). Read new x) (append_assoc all (w ∷ []) words)
        (all-read words step.0 new (all ++ w ∷ []) (word-read w m step.0 all h step.1) step.2)

    pub text-stands : (text : List ℕ) (around at patterns : ℕ) (r : Ended) → machine_text group text (machine_begun around at patterns) ≡ Ok r → Stands groups names compound (tokens_of text) r.tree
    text-stands text around at patterns r e =
        let all = bind_ok (machine_all group (tokens_of text) (machine_begun around at patterns)) machine_end r
        (unguarded (nat_le 4097 (length text)) TooLong _ _ (unguarded (nat_le (length (tokens_of text)) 0) Empty _ _ e)) in
        let h = all-read (tokens_of text) (machine_begun around at patterns) all.0 [] (begun-read around at patterns) all.1 in
        end-stands all.0.last all.0 (tokens_of text) h.outer h.inner h.split h.around h.here r all.2

pub not-among : {A : Type 0} (b : Bool) (e : TargetFault) (r : Result A TargetFault) (x : A) → (if b then Err e else r) ≡ Ok x → b ≡ false
not-among true e r x h = cc
not-among false e r x h = refl

module _ (groups : List Group) where
  found-stands : (group : List (List ℕ) → List ℕ → Machine → Step) → ((names : List (List ℕ)) (name : List ℕ) (m new : Machine) → group names name m ≡ Ok new → IsGroup groups names name m new)
      → (names : List (List ℕ)) (name : List ℕ) (m new : Machine) (text : Option (List ℕ)) → text_named groups name ≡ text → machine_found group names name m text ≡ Ok new → IsGroup groups names name m new
  found-stands group sound names name m new None there e = cc
  found-stands group sound names name m new (Some text) there e =
      let inner = bind_ok (machine_text (group (name ∷ names)) text (machine_begun m.part.nest.deep (m.at + 1) m.patterns)) (machine_resumed m) new (unguarded (is_among names name) (Circle m.at) _ new e) in
      record {
        tree = inner.0.tree;
        at = inner.0.at;
        patterns = inner.0.patterns;
        ends = ok_is _ _ inner.2;
        stands = one_group text there (not-among (is_among names name) (Circle m.at) _ new e) (text-stands groups (name ∷ names) (group (name ∷ names)) (sound (name ∷ names)) text m.part.nest.deep (m.at + 1) m.patterns inner.0 inner.1);
      }

  pub group-stands : (depth : ℕ) (names : List (List ℕ)) (name : List ℕ) (m new : Machine) → machine_group depth groups names name m ≡ Ok new → IsGroup groups names name m new
  unfolding machine_group
  group-stands zero names name m new e = cc
  group-stands (suc depth) names name m new e = found-stands (machine_group depth groups) (group-stands depth) names name m new (text_named groups name) refl e
