-- Where the bytes of a tree go wrong.
use Rattle.std.proofs.Common.{◌≡◌, inl, inr, ℕ, zero, suc, ◌+◌, ◌-◌, ◌<◌, ◌≤◌, Bool, true, false, ◌&&◌, cond, eqb, leb, List, [], ◌∷◌, ◌++◌, length, map, Option, Some, None, Result, Ok, Err, refl, sym, ap, ap₂, subst, ◌∙◌, append_assoc, arith, length-append}
use Rattle.std.specs.Int.{w8, w16, to_be_bytes}
use Rattle.std.specs.List.{list_all}
use Rattle.std.proofs.lemmas.Bool.{leb-true, le-leb}
use Rattle.std.proofs.lemmas.List.Sums.{sum_by-cons}
use Rattle.salt_value.specs.Readers.{◌>>=◌, when, several}
use Rattle.salt_value.specs.Spelling.{text, concatenation}
use Rattle.salt_value.specs.Decoding.{IsBytes}
use Rattle.target_tree.specs.declared.target.Target.{Target}
use Rattle.target_tree.specs.declared.target.Target.TheVariants as t
use Rattle.salt_wire.specs.declared.fault.Misread.{Misread}
use Rattle.salt_wire.specs.declared.fault.Misread.TheVariants.{BadField}
use Rattle.salt_wire.specs.declared.tree.Room.{Room}
use Rattle.salt_wire.specs.Spelling.{id}
use Rattle.salt_wire.specs.Limits.{is_id}
use Rattle.salt_wire.specs.Decoding.{misreading, id_or, ends_before, is_text_tag, is_pattern_tag, room_after, with_room, tag_field, leaf_text, leaf_ids, leaf, text_node, list_node, not_node, and_node, or_node, node_after, tree_at, whole_room, tree_field}
use Rattle.salt_wire.specs.FirstFault.{IsTold, After, LeafText, LeafIds, Subtrees, NoNode, after_bytes, is_node, subtrees, AreIds, IsAfter, Node, nodes_bytes, pattern_leaves, AreUnended, InLimits, NodeWrong, NodesWrong, TreeWrong}
use Rattle.salt_wire.proofs.Codec.{Lower, bind_ok, ok_is}
use Rattle.salt_wire.proofs.WriteLemmas.{both_true}
use Rattle.salt_wire.proofs.TreeBack.{made, cost, TagTook, leaf_text_written, leaf_ids_written, tag_written, tag_took, leaf_text_took, leaf_ids_took, tree_took}
use Rattle.salt_wire.proofs.FirstFaults.{never, err_is, bind_err, IsBytes-rest, IsBytes-after, Only, good, fault, both, test, number_only, text_only, counted_only, heads}

-- ---- what stands after a tag

-- the bytes after it
abbrev after_field : After → ℕ → List ℕ → Result (List ℕ) Misread
after_field LeafText stop b = leaf_text stop b >>= λ x. Ok x.1
after_field LeafIds stop b = leaf_ids stop b >>= λ x. Ok x.1
after_field (Subtrees n) stop b = Ok b
after_field NoNode stop b = Err (BadField (suc (length b)))

leaf_text_only : (stop : ℕ) (b : List ℕ) → Only (misreading b) (leaf_text stop b)
unfolding leaf_text
leaf_text_only stop b = both (misreading b) _ _ (text_only (misreading b) b) (λ x. test (misreading b) _ _ _ good fault)

several_only : (f : Misread) (n : ℕ) (b : List ℕ) → Only f (several (id_or f) n b)
unfolding several
several_only f zero b = good
several_only f (suc n) b = both f _ _ (counted_only f w8 is_id b) (λ x. both f _ _ (several_only f n x.1) (λ y. good))

leaf_ids_only : (stop : ℕ) (b : List ℕ) → Only (misreading b) (leaf_ids stop b)
unfolding leaf_ids
leaf_ids_only stop b = both (misreading b) _ _ (number_only w16 (misreading b) b) (λ n. both (misreading b) _ _ (several_only (misreading b) n.0 n.1) (λ x. test (misreading b) _ _ _ good fault))

after_only : (a : After) (stop : ℕ) (b : List ℕ) → is_node a ≡ true → Only (misreading b) (after_field a stop b)
after_only LeafText stop b h = both (misreading b) _ _ (leaf_text_only stop b) (λ x. good)
after_only LeafIds stop b h = both (misreading b) _ _ (leaf_ids_only stop b) (λ x. good)
after_only (Subtrees n) stop b h = good
after_only NoNode stop b h = absurd cc

after_none : (a : After) (stop : ℕ) (b : List ℕ) → is_node a ≡ false → after_field a stop b ≡ Err (BadField (suc (length b)))
after_none LeafText stop b h = absurd cc
after_none LeafIds stop b h = absurd cc
after_none (Subtrees n) stop b h = absurd cc
after_none NoNode stop b h = refl

room_only : (f : Misread) (tag : ℕ × List ℕ) (o : Option Room) → Only f (with_room f tag o)
room_only f tag None = fault
room_only f tag (Some r) = good

tag_only : (room : Room) (b : List ℕ) → Only (misreading b) (tag_field room b)
unfolding tag_field
tag_only room b = both (misreading b) _ _ (number_only w8 (misreading b) b) (λ x. both (misreading b) (when (ends_before room.stop x) (misreading b) x) _ (test (misreading b) (ends_before room.stop x) (Ok x) (Err (misreading b)) good fault) (λ y. room_only (misreading b) y (room_after room y.0)))

record AfterTook (a : After) (stop : ℕ) (b rest : List ℕ) : Type 0 where
  field : List ℕ
  right : IsAfter a field
  parts : b ≡ field ++ rest
  are_bytes : IsBytes rest
  inside : stop ≤ length rest

module _ (l : Lower) where
  after_took : (a : After) (stop : ℕ) (b rest : List ℕ) → IsBytes b → stop ≤ length b → after_field a stop b ≡ Ok rest → AfterTook a stop b rest
  after_took LeafText stop b rest h le q =
      let p = bind_ok (leaf_text stop b) (λ x. Ok x.1) rest q in
      let k = leaf_text_took l stop b p.0 h p.1 in
      subst (AfterTook LeafText stop b) (ok_is p.0.1 rest p.2) (record { field = text p.0.0; right = (p.0.0, k.rights, refl); parts = k.parts; are_bytes = k.are_bytes; inside = k.inside })
  after_took LeafIds stop b rest h le q =
      let p = bind_ok (leaf_ids stop b) (λ x. Ok x.1) rest q in
      let k = leaf_ids_took l stop b p.0 h p.1 in
      let c = both_true (leb 1 (length p.0.0)) (leb (length p.0.0) 65535 && list_all is_id p.0.0) k.rights in
      let d = both_true (leb (length p.0.0) 65535) (list_all is_id p.0.0) c.1 in
      let are : AreIds p.0.0 = (leb-true _ _ c.0, leb-true _ _ d.0, d.1) in
      subst (AfterTook LeafIds stop b) (ok_is p.0.1 rest p.2) (record { field = to_be_bytes w16 (length p.0.0) ++ concatenation (map id p.0.0); right = (p.0.0, are, refl); parts = k.parts; are_bytes = k.are_bytes; inside = k.inside })
  after_took (Subtrees n) stop b rest h le q = subst (AfterTook (Subtrees n) stop b) (ok_is b rest q) (record { field = []; right = refl; parts = refl; are_bytes = h; inside = le })
  after_took NoNode stop b rest h le q = absurd cc

  after_again : (a : After) (stop : ℕ) (field rest : List ℕ) → IsAfter a field → stop ≤ length rest → after_field a stop (field ++ rest) ≡ Ok rest
  after_again LeafText stop field rest h le = ap (λ (s : List ℕ). after_field LeafText stop (s ++ rest)) h.2 ∙ ap (λ r. r >>= λ x. Ok x.1) (leaf_text_written l stop h.0 rest h.1 le)
  after_again LeafIds stop field rest h le =
      let are : (leb 1 (length h.0) && (leb (length h.0) 65535 && list_all is_id h.0)) ≡ true = rw (le-leb 1 (length h.0) h.1.0, le-leb (length h.0) 65535 h.1.1, h.1.2) refl in
      ap (λ (s : List ℕ). after_field LeafIds stop (s ++ rest)) h.2 ∙ ap (λ r. r >>= λ x. Ok x.1) (leaf_ids_written l stop h.0 rest are le)
  after_again (Subtrees n) stop field rest h le = ap (λ (s : List ℕ). Ok (s ++ rest)) h
  after_again NoNode stop field rest h le = absurd h

-- ---- the nodes of so many trees, read one after the other

nodes_at : ℕ → ℕ → ℕ → ℕ → List ℕ → Result (Room × List ℕ) Misread
nodes_at zero zero p s b = Ok (made zero p s, b)
nodes_at zero (suc k) p s b = Err (misreading b)
nodes_at (suc n) zero p s b = Ok (made (suc n) p s, b)
nodes_at (suc n) (suc k) p s b = tag_field (made (suc n) p s) b >>= λ tag. after_field (after_bytes tag.0) s tag.2 >>= λ rest. nodes_at n (k + subtrees (after_bytes tag.0)) tag.1.patterns s rest

nodes_none : (n p s : ℕ) (b : List ℕ) → nodes_at n zero p s b ≡ Ok (made n p s, b)
unfolding nodes_at
nodes_none zero p s b = refl
nodes_none (suc n) p s b = refl

-- the nodes of so many trees after a tree
abbrev then_nodes : ℕ → Target × Room × List ℕ → Result (Room × List ℕ) Misread
then_nodes k y = nodes_at y.1.nodes k y.1.patterns y.1.stop y.2

-- the bytes after a tag read as nodes, and read as a tree with nodes after it
abbrev Same : Room → ℕ → List ℕ → After → Result (Target × Room × List ℕ) Misread → Type 0
Same room k b a r = (after_field a room.stop b >>= λ rest. nodes_at room.nodes (k + subtrees a) room.patterns room.stop rest) ≡ (r >>= then_nodes k)

pick : (room : Room) (k : ℕ) (b : List ℕ) (c : Bool) (a d : After) (r s : Result (Target × Room × List ℕ) Misread) → Same room k b a r → Same room k b d s → Same room k b (cond c a d) (cond c r s)
pick room k b true a d r s h g = h
pick room k b false a d r s h g = g

of_leaf : {A : Type 0} (room : Room) (k : ℕ) (make : A → Target) (r : Result (A × List ℕ) Misread)
    → ((r >>= λ x. Ok x.1) >>= λ rest. nodes_at room.nodes (k + 0) room.patterns room.stop rest) ≡ ((r >>= λ x. Ok (make x.0, room, x.1)) >>= then_nodes k)
of_leaf room k make (Ok x) = ap (λ j. nodes_at room.nodes j room.patterns room.stop x.1) (omega arith)
of_leaf room k make (Err e) = refl

module _ (l : Lower) where
  abbrev Bridge : ℕ → Type 0
  Bridge d = (n p s k : ℕ) (b : List ℕ) → n ≤ d → IsBytes b → nodes_at n (suc k) p s b ≡ (tree_at d (made n p s) b >>= then_nodes k)

  module _ (d : ℕ) (law : Bridge d) where
    of_not : (room : Room) (k : ℕ) (b : List ℕ) → room.nodes ≤ d → IsBytes b → Same room k b (Subtrees 1) (not_node (tree_at d) room b)
    unfolding not_node
    of_not room k b le h = ap (λ j. nodes_at room.nodes j room.patterns room.stop b) (omega arith) ∙ law room.nodes room.patterns room.stop k b le h ∙ by (tree_at d room b) where
      by : (r : Result (Target × Room × List ℕ) Misread) → (r >>= then_nodes k) ≡ ((r >>= λ only. Ok (t.Not only.0, only.1, only.2)) >>= then_nodes k)
      by (Ok y) = refl
      by (Err e) = refl

    of_two : (z : Target → Target → Target) (room : Room) (k : ℕ) (b : List ℕ) → room.nodes ≤ d → IsBytes b
        → Same room k b (Subtrees 2) (tree_at d room b >>= λ left. tree_at d left.1 left.2 >>= λ right. Ok (z left.0 right.0, right.1, right.2))
    of_two z room k b le h = ap (λ j. nodes_at room.nodes j room.patterns room.stop b) (omega arith) ∙ law room.nodes room.patterns room.stop (suc k) b le h ∙ by (tree_at d room b) refl where
      last : (x : Target) (r : Result (Target × Room × List ℕ) Misread) → (r >>= then_nodes k) ≡ ((r >>= λ right. Ok (z x right.0, right.1, right.2)) >>= then_nodes k)
      last x (Ok y) = refl
      last x (Err e) = refl

      by : (r : Result (Target × Room × List ℕ) Misread) → tree_at d room b ≡ r → (r >>= then_nodes (suc k)) ≡ ((r >>= λ left. tree_at d left.1 left.2 >>= λ right. Ok (z left.0 right.0, right.1, right.2)) >>= then_nodes k)
      by (Err e) q = refl
      by (Ok y) q = let g = tree_took l d room b y h q in law y.1.nodes y.1.patterns y.1.stop k y.2 (omega (arith, g.node_count, le)) g.are_bytes ∙ last y.0 (tree_at d y.1 y.2)

    node_same : (tag : ℕ) (room : Room) (k : ℕ) (b : List ℕ) → room.nodes ≤ d → IsBytes b → Same room k b (after_bytes tag) (node_after (tree_at d) tag room b)
    unfolding node_after list_node and_node or_node text_node
    node_same tag room k b le h =
        pick room k b (eqb tag 3) LeafIds _ _ _ (of_leaf room k t.IdList (leaf_ids room.stop b))
        (pick room k b (eqb tag 8) (Subtrees 1) _ _ _ (of_not room k b le h)
        (pick room k b (eqb tag 9) (Subtrees 2) _ _ _ (of_two t.And room k b le h)
        (pick room k b (eqb tag 10) (Subtrees 2) _ _ _ (of_two t.Or room k b le h)
        (pick room k b (is_text_tag tag) LeafText NoNode _ _ (of_leaf room k (leaf tag) (leaf_text room.stop b)) refl))))

  no_tag : (p s : ℕ) (b : List ℕ) → IsBytes b → tag_field (made 0 p s) b ≡ Err (misreading b)
  no_tag p s b h = by (tag_field (made 0 p s) b) refl where
    by : (r : Result (ℕ × Room × List ℕ) Misread) → tag_field (made 0 p s) b ≡ r → r ≡ Err (misreading b)
    by (Ok y) q = let g = (tag_took l (made 0 p s) b y h q).room_left in absurd (omega (arith, g.one))
    by (Err e) q = ap (λ f. Err f) ((tag_only (made 0 p s) b).is e q)

  bridge : (d : ℕ) → Bridge d
  unfolding nodes_at tree_at
  bridge zero zero p s k b le h = refl
  bridge zero (suc n) p s k b le h = absurd (omega (arith, le))
  bridge (suc d) zero p s k b le h = sym (ap (λ r. (r >>= λ tag. node_after (tree_at d) tag.0 tag.1 tag.2) >>= then_nodes k) (no_tag p s b h))
  bridge (suc d) (suc n) p s k b le h = by (bridge d) (tag_field (made (suc n) p s) b) refl where
    by : Bridge d → (r : Result (ℕ × Room × List ℕ) Misread) → tag_field (made (suc n) p s) b ≡ r
        → (r >>= λ tag. after_field (after_bytes tag.0) s tag.2 >>= λ rest. nodes_at n (k + subtrees (after_bytes tag.0)) tag.1.patterns s rest) ≡ ((r >>= λ tag. node_after (tree_at d) tag.0 tag.1 tag.2) >>= then_nodes k)
    by law (Err e) q = refl
    by law (Ok y) q =
        let g = tag_took l (made (suc n) p s) b y h q in
        let one : n ≡ y.1.nodes = omega (arith, g.room_left.one) in
        let same : s ≡ y.1.stop = sym g.room_left.stop in
        ap₂ (λ (m u : ℕ). after_field (after_bytes y.0) u y.2 >>= λ rest. nodes_at m (k + subtrees (after_bytes y.0)) y.1.patterns u rest) one same
        ∙ node_same d law y.0 y.1 k y.2 (omega (arith, one, le)) g.are_bytes

  tree_as_nodes : (b : List ℕ) (e : Misread) → IsBytes b → tree_field b ≡ Err e → nodes_at 256 1 16 (length b - 65536) b ≡ Err e
  unfolding tree_field
  tree_as_nodes b e h q =
      elim (bind_err (tree_at 256 (whole_room b) b) (λ tree. Ok (tree.0, tree.2)) e q) [
        | inl p ↦ bridge 256 256 16 (length b - 65536) 0 b (omega arith) h ∙ ap (λ r. r >>= then_nodes 0) p
        | inr p ↦ never (p.0.0, p.0.2) e p.2
      ]

  nodes_as_tree : (b : List ℕ) (e : Misread) → IsBytes b → nodes_at 256 1 16 (length b - 65536) b ≡ Err e → tree_field b ≡ Err e
  unfolding tree_field
  nodes_as_tree b e h q =
      elim (bind_err (tree_at 256 (whole_room b) b) (then_nodes 0) e (sym (bridge 256 256 16 (length b - 65536) 0 b (omega arith) h) ∙ q)) [
        | inl p ↦ ap (λ r. r >>= λ tree. Ok (tree.0, tree.2)) p
        | inr p ↦ never (p.0.1, p.0.2) e (sym (nodes_none p.0.1.nodes p.0.1.patterns p.0.1.stop p.0.2) ∙ p.2)
      ]

-- ---- limits

leaves-cons : (x : Node) (xs : List Node) → pattern_leaves (x ∷ xs) ≡ cost x.0 + pattern_leaves xs
leaves-cons x xs = sum_by-cons (λ (n : Node). cond (is_pattern_tag n.0) 1 0) x xs

-- nodes within the limits after one of them
module _ (n p q m j : ℕ) (x : Node) (patterns : q + cost x.0 ≡ p) (long : j + suc (length x.1) ≡ m) where
  shrink : (xs : List Node) → InLimits (suc n) p m (x ∷ xs) → InLimits n q j xs
  shrink xs h = record {
    few_nodes = omega (arith, h.few_nodes);
    few_patterns = omega (arith, h.few_patterns, patterns, leaves-cons x xs);
    long = omega (arith, h.long, long, length-append x.1 (nodes_bytes xs));
  }

  grow : (xs : List Node) → InLimits n q j xs → InLimits (suc n) p m (x ∷ xs)
  grow xs h = record {
    few_nodes = omega (arith, h.few_nodes);
    few_patterns = omega (arith, h.few_patterns, patterns, leaves-cons x xs);
    long = omega (arith, h.long, long, length-append x.1 (nodes_bytes xs));
  }

  wrong_shrink : (done : List Node) (b at : List ℕ) → NodeWrong (suc n) p m (x ∷ done) b at → NodeWrong n q j done b at
  wrong_shrink done b at (inl w) = inl (w.0, λ front rest h parts. w.1 front rest (h.0, (h.1.0, grow (done ++ (h.0, []) ∷ []) h.1.1), h.2) parts)
  wrong_shrink done b at (inr w) =
      inr (w.0, w.1, w.2, (w.3.0, shrink (done ++ (w.0, []) ∷ []) w.3.1), (w.4.0, λ front rest h parts. w.4.1 front rest (h.0, grow (done ++ (w.0, front) ∷ []) h.1) parts))

  wrong_grow : (done : List Node) (b at : List ℕ) → NodeWrong n q j done b at → NodeWrong (suc n) p m (x ∷ done) b at
  wrong_grow done b at (inl w) = inl (w.0, λ front rest h parts. w.1 front rest (h.0, (h.1.0, shrink (done ++ (h.0, []) ∷ []) h.1.1), h.2) parts)
  wrong_grow done b at (inr w) =
      inr (w.0, w.1, w.2, (w.3.0, grow (done ++ (w.0, []) ∷ []) w.3.1), (w.4.0, λ front rest h parts. w.4.1 front rest (h.0, shrink (done ++ (w.0, front) ∷ []) h.1) parts))

  -- a right node, and then nodes of which one is wrong
  one_more : (k : ℕ) (b rest at : List ℕ) → IsAfter (after_bytes x.0) x.1 → b ≡ (x.0 ∷ x.1) ++ rest → NodesWrong n q j (k + subtrees (after_bytes x.0)) rest at → NodesWrong (suc n) p m (suc k) b at
  one_more k b rest at right parts w =
      let same : k + subtrees (after_bytes x.0) ≡ suc k - 1 + subtrees (after_bytes x.0) = omega arith in (
        x ∷ w.0,
        w.1,
        parts ∙ ap (λ (s : List ℕ). (x.0 ∷ x.1) ++ s) w.2 ∙ sym (append_assoc (x.0 ∷ x.1) (nodes_bytes w.0) w.1),
        (omega arith, right, subst (λ i. AreUnended i w.0) same w.3),
        grow w.0 w.4,
        wrong_grow w.0 w.1 at w.5,
      )

-- no nodes are within any limits, and one is where it may be
no_nodes : (n p m : ℕ) → InLimits n p m []
no_nodes n p m = record { few_nodes = omega arith; few_patterns = omega arith; long = omega arith }

one_node : (n p m : ℕ) (x : Node) → 0 < n → cost x.0 ≤ p → suc (length x.1) ≤ m → InLimits n p m (x ∷ [])
one_node n p m x some few long = record { few_nodes = omega (arith, some); few_patterns = omega (arith, few, leaves-cons x []); long = omega (arith, long, length-append x.1 []) }

-- ---- nodes that are read

module _ (l : Lower) where
  tag_again : (n p s : ℕ) (tag : ℕ) (b rest : List ℕ) → IsBytes b → b ≡ tag ∷ rest → cost tag ≤ p → s ≤ length rest → tag_field (made (suc n) p s) b ≡ Ok (tag, made (suc n - 1) (p - cost tag) s, rest)
  tag_again n p s tag b rest h e few le = ap (tag_field (made (suc n) p s)) e ∙ tag_written l (made (suc n) p s) tag rest ((subst IsBytes e h) 0) (omega arith) few le

  abbrev then_more : ℕ → ℕ → ℕ → ℕ × Room × List ℕ → Result (Room × List ℕ) Misread
  then_more n k s tag = after_field (after_bytes tag.0) s tag.2 >>= λ rest. nodes_at n (k + subtrees (after_bytes tag.0)) tag.1.patterns s rest

  node_again : (n k p s : ℕ) (x : Node) (b rest : List ℕ) → IsBytes b → b ≡ (x.0 ∷ x.1) ++ rest → cost x.0 ≤ p → s ≤ length rest → IsAfter (after_bytes x.0) x.1
      → nodes_at (suc n) (suc k) p s b ≡ nodes_at n (k + subtrees (after_bytes x.0)) (p - cost x.0) s rest
  unfolding nodes_at
  node_again n k p s x b rest h e few le right =
      let longer : s ≤ length (x.1 ++ rest) = omega (arith, le, length-append x.1 rest) in
      ap (λ r. r >>= then_more n k s) (tag_again n p s x.0 b (x.1 ++ rest) h e few longer)
      ∙ ap (λ r. r >>= λ rest. nodes_at n (k + subtrees (after_bytes x.0)) (p - cost x.0) s rest) (after_again l (after_bytes x.0) s x.1 rest right le)

  -- the next node is wrong
  node_first : (n p m k s : ℕ) (b at : List ℕ) → IsBytes b → s ≡ length b - m → NodeWrong n p m [] b at → nodes_at n (suc k) p s b ≡ Err (BadField (length at))
  unfolding nodes_at
  node_first zero p m k s b at h e (inl w) = ap (λ (x : List ℕ). Err (BadField (length x))) (sym w.0)
  node_first zero p m k s b at h e (inr w) = absurd (omega (arith, w.3.1.few_nodes))
  node_first (suc n) p m k s b at h e (inl w) = by (tag_field (made (suc n) p s) b) refl where
    known : (y : ℕ × Room × List ℕ) → TagTook l (made (suc n) p s) b y → (c : Bool) → is_node (after_bytes y.0) ≡ c → then_more n k s y ≡ Err (BadField (length at))
    known y g true c =
        let few : cost y.0 ≤ p = omega (arith, g.room_left.pattern) in
        let some : 1 ≤ m = omega (arith, g.inside, e, ap length g.parts) in
        absurd (w.1 (y.0 ∷ []) y.2 (y.0, (c, one_node (suc n) p m (y.0, []) (omega arith) few some), refl) g.parts)
    known y g false c = ap (λ r. r >>= λ rest. nodes_at n (k + subtrees (after_bytes y.0)) y.1.patterns s rest) (after_none (after_bytes y.0) s y.2 c) ∙ ap (λ (x : List ℕ). Err (BadField (length x))) (sym (w.0 ∙ g.parts))

    by : (r : Result (ℕ × Room × List ℕ) Misread) → tag_field (made (suc n) p s) b ≡ r → (tag_field (made (suc n) p s) b >>= then_more n k s) ≡ Err (BadField (length at))
    by (Err f) q = ap (λ r. r >>= then_more n k s) q ∙ ap (λ f. Err f) ((tag_only (made (suc n) p s) b).is f q ∙ ap (λ (x : List ℕ). BadField (length x)) (sym w.0))
    by (Ok y) q = ap (λ r. r >>= then_more n k s) q ∙ known y (tag_took l (made (suc n) p s) b y h q) (is_node (after_bytes y.0)) refl
  node_first (suc n) p m k s b at h e (inr w) =
      let tag = w.0 in
      let rest = w.1 in
      let few : cost tag ≤ p = omega (arith, w.3.1.few_patterns, leaves-cons (w.0, []) []) in
      let some : 1 ≤ m = omega (arith, w.3.1.long) in
      let len : length b ≡ suc (length rest) = ap length w.2 in
      let le : s ≤ length rest = omega (arith, e, some, len) in
      ap (λ r. r >>= then_more n k s) (tag_again n p s tag b rest h w.2 few le)
      ∙ by few le len (after_field (after_bytes tag) s rest) refl
    where
      by : cost w.0 ≤ p → s ≤ length w.1 → length b ≡ suc (length w.1) → (r : Result (List ℕ) Misread) → after_field (after_bytes w.0) s w.1 ≡ r
          → (after_field (after_bytes w.0) s w.1 >>= λ rest. nodes_at n (k + subtrees (after_bytes w.0)) (p - cost w.0) s rest) ≡ Err (BadField (length at))
      by few le len (Err f) q =
          ap (λ r. r >>= λ rest. nodes_at n (k + subtrees (after_bytes w.0)) (p - cost w.0) s rest) q
          ∙ ap (λ f. Err f) ((after_only (after_bytes w.0) s w.1 w.3.0).is f q ∙ ap (λ (x : List ℕ). BadField (length x)) (sym w.4.0))
      by few le len (Ok r) q =
          let g = after_took l (after_bytes w.0) s w.1 r (IsBytes-rest w.0 w.1 (subst IsBytes w.2 h)) le q in
          let long : suc (length g.field) ≤ m = omega (arith, g.inside, e, len, ap length g.parts, length-append g.field r) in
          absurd (w.4.1 g.field r (g.right, one_node (suc n) p m (w.0, g.field) (omega arith) few long) g.parts)

  nodes_first : (done : List Node) (n p m k s : ℕ) (b rest at : List ℕ) → IsBytes b → s ≡ length b - m → b ≡ nodes_bytes done ++ rest → AreUnended k done → InLimits n p m done → NodeWrong n p m done rest at
      → nodes_at n k p s b ≡ Err (BadField (length at))
  nodes_first [] n p m zero s b rest at h e parts un lim w = absurd (omega (arith, un))
  nodes_first [] n p m (suc k) s b rest at h e parts un lim w = node_first n p m k s b at h e (subst (λ (x : List ℕ). NodeWrong n p m [] x at) (sym parts) w)
  nodes_first (x ∷ done) zero p m k s b rest at h e parts un lim w = absurd (omega (arith, lim.few_nodes))
  nodes_first (x ∷ done) (suc n) p m zero s b rest at h e parts un lim w = absurd (omega (arith, un.0))
  nodes_first (x ∷ done) (suc n) p m (suc k) s b rest at h e parts un lim w =
      let more = nodes_bytes done ++ rest in
      let split : b ≡ (x.0 ∷ x.1) ++ more = parts ∙ append_assoc (x.0 ∷ x.1) (nodes_bytes done) rest in
      let few : cost x.0 ≤ p = omega (arith, lim.few_patterns, leaves-cons x done) in
      let long : suc (length x.1) ≤ m = omega (arith, lim.long, length-append x.1 (nodes_bytes done)) in
      let len : length b ≡ suc (length x.1 + length more) = ap length split ∙ ap suc (length-append x.1 more) in
      let le : s ≤ length more = omega (arith, e, len, long) in
      let q : p - cost x.0 + cost x.0 ≡ p = omega (arith, few) in
      let j : m - suc (length x.1) + suc (length x.1) ≡ m = omega (arith, long) in
      let same : suc k - 1 + subtrees (after_bytes x.0) ≡ k + subtrees (after_bytes x.0) = omega arith in
      node_again n k p s x b more h split few le un.1
      ∙ nodes_first done n (p - cost x.0) (m - suc (length x.1)) (k + subtrees (after_bytes x.0)) s more rest at (IsBytes-after (x.0 ∷ x.1) b more split h) (omega (arith, e, len, long)) refl
      (subst (λ i. AreUnended i done) same un.2) (shrink n p (p - cost x.0) m (m - suc (length x.1)) x q j done lim) (wrong_shrink n p (p - cost x.0) m (m - suc (length x.1)) x q j done rest at w)

  -- where the nodes of so many trees go wrong
  abbrev Met : ℕ → ℕ → ℕ → ℕ → List ℕ → Misread → Type 0
  Met n p m k b f = (at : List ℕ) × NodesWrong n p m k b at × (f ≡ BadField (length at))

  -- what is wrong is the first node
  at_once : (n p m k : ℕ) (b at : List ℕ) (f : Misread) → NodeWrong n p m [] b at → f ≡ BadField (length at) → Met n p m (suc k) b f
  at_once n p m k b at f w e = (at, ([], b, refl, omega arith, no_nodes n p m, w), e)

  nodes_met : (n k p m s : ℕ) (b : List ℕ) (f : Misread) → IsBytes b → s ≡ length b - m → nodes_at n k p s b ≡ Err f → Met n p m k b f
  unfolding nodes_at
  nodes_met zero zero p m s b f h e q = never (made zero p s, b) f q
  nodes_met (suc n) zero p m s b f h e q = never (made (suc n) p s, b) f q
  nodes_met zero (suc k) p m s b f h e q =
      at_once zero p m k b b f (inl (refl, λ front rest may parts. absurd (omega (arith, may.1.1.few_nodes)))) (sym (err_is (misreading b) f q))
  nodes_met (suc n) (suc k) p m s b f h e q =
      elim (bind_err (tag_field (made (suc n) p s) b) (then_more n k s) f q) [
        | inl r ↦ at_once (suc n) p m k b b f (inl (refl, λ front rest may parts. no_tag may.0 rest may.1.1 (parts ∙ ap (λ (x : List ℕ). x ++ rest) may.2) r)) ((tag_only (made (suc n) p s) b).is f r)
        | inr r ↦ tagged (λ u v w rest g d z. nodes_met n u v w s rest f g d z) r.0 (tag_took l (made (suc n) p s) b r.0 h r.1) (is_node (after_bytes r.0.0)) refl r.2
      ]
    where
      no_tag : (tag : ℕ) (rest : List ℕ) → InLimits (suc n) p m ((tag, []) ∷ []) → b ≡ tag ∷ rest → tag_field (made (suc n) p s) b ≡ Err f → ⊥
      no_tag tag rest lim parts r =
          let le : s ≤ length rest = omega (arith, e, lim.long, ap length parts) in
          never (tag, made (suc n - 1) (p - cost tag) s, rest) f (sym (tag_again n p s tag b rest h parts (omega (arith, lim.few_patterns, leaves-cons (tag, []) [])) le) ∙ r)

      tagged : ((u v w : ℕ) (rest : List ℕ) → IsBytes rest → s ≡ length rest - w → nodes_at n u v s rest ≡ Err f → Met n v w u rest f)
          → (y : ℕ × Room × List ℕ) → TagTook l (made (suc n) p s) b y → (c : Bool) → is_node (after_bytes y.0) ≡ c → then_more n k s y ≡ Err f → Met (suc n) p m (suc k) b f
      tagged others y g false c r =
          let same : f ≡ BadField (suc (length y.2)) = sym (err_is (BadField (suc (length y.2))) f (sym (ap (λ r. r >>= λ rest. nodes_at n (k + subtrees (after_bytes y.0)) y.1.patterns s rest) (after_none (after_bytes y.0) s y.2 c)) ∙ r)) in
          at_once (suc n) p m k b b f (inl (
            refl,
            λ front rest may parts.
                let one : may.0 ≡ y.0 = heads may.0 y.0 rest y.2 (sym (parts ∙ ap (λ (x : List ℕ). x ++ rest) may.2) ∙ g.parts) in
                let clash : true ≡ false = sym may.1.0 ∙ ap (λ tag. is_node (after_bytes tag)) one ∙ c in absurd cc,
          )) (same ∙ ap (λ (x : List ℕ). BadField (length x)) (sym g.parts))
      tagged others y g true c r =
          let few : cost y.0 ≤ p = omega (arith, g.room_left.pattern) in
          let len : length b ≡ suc (length y.2) = ap length g.parts in
          let some : 1 ≤ m = omega (arith, g.inside, e, len) in
          elim (bind_err (after_field (after_bytes y.0) s y.2) (λ rest. nodes_at n (k + subtrees (after_bytes y.0)) y.1.patterns s rest) f r) [
            | inl z ↦
                at_once (suc n) p m k b y.2 f (inr (
                  y.0,
                  y.2,
                  g.parts,
                  (c, one_node (suc n) p m (y.0, []) (omega arith) few some),
                  (
                    refl,
                    λ front rest may parts.
                        let longer : suc (length front) ≤ m = omega (arith, may.1.long, length-append front []) in
                        let le : s ≤ length rest = omega (arith, e, len, longer, ap length parts, length-append front rest) in
                        never rest f (sym (ap (after_field (after_bytes y.0) s) parts ∙ after_again l (after_bytes y.0) s front rest may.0 le) ∙ z),
                  ),
                )) ((after_only (after_bytes y.0) s y.2 c).is f z)
            | inr z ↦
                let t = after_took l (after_bytes y.0) s y.2 z.0 g.are_bytes g.inside z.1 in
                let sum : length y.2 ≡ length t.field + length z.0 = ap length t.parts ∙ length-append t.field z.0 in
                let long : suc (length t.field) ≤ m = omega (arith, t.inside, e, len, sum) in
                let w = others (k + subtrees (after_bytes y.0)) y.1.patterns (m - suc (length t.field)) z.0 t.are_bytes (omega (arith, e, len, sum, long)) z.2 in (
                  w.0,
                  one_more n p y.1.patterns m (m - suc (length t.field)) (y.0, t.field) g.room_left.pattern (omega (arith, long)) k b z.0 w.0 t.right
                      (g.parts ∙ ap (λ (x : List ℕ). y.0 ∷ x) t.parts) w.1,
                  w.2,
                )
          ]

pub tree_told : Lower → IsTold TreeWrong tree_field
tree_told l = record {
  met = λ b e h q. nodes_met l 256 1 16 65536 (length b - 65536) b e h refl (tree_as_nodes l b e h q);
  first = λ b at h w. nodes_as_tree l b (BadField (length at)) h (nodes_first l w.0 256 16 65536 1 (length b - 65536) b w.1 at h refl w.2 w.3 w.4 w.5);
}
