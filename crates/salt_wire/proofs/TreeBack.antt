-- Trees: what is written is read again, and what is read was written so.
use Rattle.std.proofs.Common.{◌≡◌, ℕ, zero, suc, ◌+◌, ◌-◌, ◌<◌, ◌≤◌, Bool, true, false, ◌&&◌, cond, eqb, leb, List, [], ◌∷◌, ◌++◌, length, map, Option, Some, None, Result, Ok, Err, refl, sym, ap, ap₂, subst, ◌∙◌, append_assoc, arith, ◌⊎◌, inl, inr, length-append}
use Rattle.std.specs.Int.{w16, to_be_bytes}
use Rattle.std.specs.List.{list_all}
use Rattle.std.proofs.lemmas.Bool.{leb-true, le-leb, eqb-true, ne_eqb, or_cases}
use Rattle.salt_value.specs.Readers.{◌>>=◌, when, several}
use Rattle.salt_value.specs.Spelling.{text, concatenation}
use Rattle.salt_value.specs.WellFormed.{is_text}
use Rattle.salt_value.specs.Decoding.{IsBytes, number_or}
use Rattle.target_tree.specs.declared.target.Target.{Target, out-Target, roll-Target, roll-out-Target}
use Rattle.target_tree.specs.declared.target.Target.TheVariants as t
use Rattle.target_tree.specs.declared.target.Target.TheVariants.{rolls-IdGlob, rolls-IdPcre, rolls-IdList, rolls-GrainGlob, rolls-GrainPcre, rolls-PillarGlob, rolls-PillarPcre, rolls-Not, rolls-And, rolls-Or}
use Rattle.target_tree.specs.declared.target.Target.TheOpen.{Target-F}
use Rattle.salt_wire.specs.declared.fault.Misread.{Misread}
use Rattle.salt_wire.specs.declared.fault.Misread.TheVariants.{BadField}
use Rattle.salt_wire.specs.declared.tree.Room.{Room}
use Rattle.salt_wire.specs.Spelling.{id, tree_bytes, tree_layer}
use Rattle.salt_wire.specs.Limits.{is_id, is_leaf_text, right, right_layer, nodes, nodes_layer, pattern_count, pattern_count_layer, TreeFits}
use Rattle.salt_wire.specs.Decoding.{misreading, byte_field, text_field, id_or, is_pattern_tag, room_after, with_room, tag_field, leaf_text, leaf_ids, is_text_tag, leaf, text_node, list_node, not_node, and_node, or_node, node_after, tree_at, whole_room, tree_field}
use Rattle.salt_wire.specs.RoundTrip.{Took, IsReadBack}
use Rattle.salt_wire.proofs.TreeLayers.{at-IdGlob, at-IdPcre, at-IdList, at-GrainGlob, at-GrainPcre, at-PillarGlob, at-PillarPcre, at-Not, at-And, at-Or}
use Rattle.salt_wire.proofs.Codec.{Lower, bind_ok, ok_is, when_ok, both, join, one_byte, IsByte, a_byte, texts, ids_or, is_id-IsId, IsId-is_id}
use Rattle.salt_wire.proofs.WriteLemmas.{both_true}

-- ---- rooms

abbrev pub made : ℕ → ℕ → ℕ → Room
made n p s = record { nodes = n; patterns = p; stop = s }

same_room : (n m p q s : ℕ) → n ≡ m → p ≡ q → made n p s ≡ made m q s
same_room n m p q s e f = ap₂ (λ (a b : ℕ). made a b s) e f

-- what is left of a room after a tree
abbrev pub left : Room → Target → Room
left room x = made (room.nodes - nodes x) (room.patterns - pattern_count x) room.stop

abbrev pub cost : ℕ → ℕ
cost tag = cond (is_pattern_tag tag) 1 0

pub record Entered (room next : Room) (tag : ℕ) : Type 0 where
  pub one : next.nodes + 1 ≡ room.nodes
  pub pattern : next.patterns + cost tag ≡ room.patterns
  pub stop : next.stop ≡ room.stop

entered : (room : Room) (tag : ℕ) (next : Room) → room_after room tag ≡ Some next → Entered room next tag
entered room tag next e = by (eqb room.nodes 0) refl (is_pattern_tag tag) refl (eqb room.patterns 0) refl e where
  is_some : (r : Room) → ◌≡◌ {A = Option Room} (Some r) (Some next) → r ≡ next
  is_some r e = cc

  not_zero : (n : ℕ) → eqb n 0 ≡ false → n - 1 + 1 ≡ n
  not_zero zero e = absurd cc
  not_zero (suc n) e = omega arith

  by : (a : Bool) → eqb room.nodes 0 ≡ a → (b : Bool) → is_pattern_tag tag ≡ b → (c : Bool) → eqb room.patterns 0 ≡ c
      → cond a None (cond b (cond c None (Some (made (room.nodes - 1) (room.patterns - 1) room.stop))) (Some (made (room.nodes - 1) room.patterns room.stop))) ≡ Some next → Entered room next tag
  by true p b q c r e = absurd cc
  by false p true q true r e = absurd cc
  by false p true q false r e =
      let g = is_some (made (room.nodes - 1) (room.patterns - 1) room.stop) e in
      subst (λ (x : Room). Entered room x tag) g (record { one = not_zero room.nodes p; pattern = ap (λ k. room.patterns - 1 + cond k 1 0) q ∙ not_zero room.patterns r; stop = refl })
  by false p false q c r e =
      let g = is_some (made (room.nodes - 1) room.patterns room.stop) e in
      let same : room.patterns + 0 ≡ room.patterns = omega arith in
      subst (λ (x : Room). Entered room x tag) g (record { one = not_zero room.nodes p; pattern = ap (λ k. room.patterns + cond k 1 0) q ∙ same; stop = refl })

enter : (room : Room) (tag : ℕ) → 1 ≤ room.nodes → cost tag ≤ room.patterns → room_after room tag ≡ Some (made (room.nodes - 1) (room.patterns - cost tag) room.stop)
enter room tag some enough = by (is_pattern_tag tag) refl where
  nodes_left : eqb room.nodes 0 ≡ false
  nodes_left = ne_eqb room.nodes 0 (λ e. omega (arith, e, some))

  by : (b : Bool) → is_pattern_tag tag ≡ b → room_after room tag ≡ Some (made (room.nodes - 1) (room.patterns - cost tag) room.stop)
  by true q =
      let one : cost tag ≡ 1 = ap (λ k. cond k 1 0) q in
      let some_left : eqb room.patterns 0 ≡ false = ne_eqb room.patterns 0 (λ e. omega (arith, e, enough, one)) in
      rw (nodes_left, q, some_left) refl
  by false q =
      let same : room.patterns ≡ room.patterns - 0 = omega arith in
      rw (nodes_left, q) (ap (λ p. Some (made (room.nodes - 1) p room.stop)) same)

-- ---- leaves

-- what the definitions say of a leaf with a text
record Leaf (tag : ℕ) (z : List ℕ → Target) : Type 0 where
  spelled : (x : List ℕ) → tree_bytes (z x) ≡ tag ∷ text x
  rights : (x : List ℕ) → right (z x) ≡ is_leaf_text x
  one : (x : List ℕ) → nodes (z x) ≡ 1
  pats : (x : List ℕ) → pattern_count (z x) ≡ cost tag

leaf1 : Leaf 1 t.IdGlob
leaf1 = record { spelled = at-IdGlob tree_layer; rights = at-IdGlob right_layer; one = at-IdGlob nodes_layer; pats = at-IdGlob pattern_count_layer }

leaf2 : Leaf 2 t.IdPcre
leaf2 = record { spelled = at-IdPcre tree_layer; rights = at-IdPcre right_layer; one = at-IdPcre nodes_layer; pats = at-IdPcre pattern_count_layer }

leaf4 : Leaf 4 t.GrainGlob
leaf4 = record { spelled = at-GrainGlob tree_layer; rights = at-GrainGlob right_layer; one = at-GrainGlob nodes_layer; pats = at-GrainGlob pattern_count_layer }

leaf5 : Leaf 5 t.GrainPcre
leaf5 = record { spelled = at-GrainPcre tree_layer; rights = at-GrainPcre right_layer; one = at-GrainPcre nodes_layer; pats = at-GrainPcre pattern_count_layer }

leaf6 : Leaf 6 t.PillarGlob
leaf6 = record { spelled = at-PillarGlob tree_layer; rights = at-PillarGlob right_layer; one = at-PillarGlob nodes_layer; pats = at-PillarGlob pattern_count_layer }

leaf7 : Leaf 7 t.PillarPcre
leaf7 = record { spelled = at-PillarPcre tree_layer; rights = at-PillarPcre right_layer; one = at-PillarPcre nodes_layer; pats = at-PillarPcre pattern_count_layer }

module _ (l : Lower) where
  -- ---- what is written is read again

  pub leaf_text_written : (stop : ℕ) (x rest : List ℕ) → is_leaf_text x ≡ true → stop ≤ length rest → leaf_text stop (text x ++ rest) ≡ Ok (x, rest)
  unfolding leaf_text
  leaf_text_written stop x rest h le =
      let a = both_true (is_text x) (leb 1 (length x) && leb (length x) 4096) h in
      let b = both_true (leb 1 (length x)) (leb (length x) 4096) a.1 in
      rw ((texts l).written x rest a.0, b.0, b.1, le-leb stop (length rest) le) refl

  several_written : (f : Misread) (xs : List (List ℕ)) (rest : List ℕ) → list_all is_id xs ≡ true → several (id_or f) (length xs) (concatenation (map id xs) ++ rest) ≡ Ok (xs, rest)
  unfolding several
  several_written f [] rest h = refl
  several_written f (x ∷ xs) rest h =
      let a = both_true (is_id x) (list_all is_id xs) h in
      ap (several (id_or f) (suc (length xs))) (append_assoc (id x) (concatenation (map id xs)) rest)
      ∙ rw ((ids_or l f).written x (concatenation (map id xs) ++ rest) (is_id-IsId x a.0), several_written f xs rest a.1) refl

  pub leaf_ids_written : (stop : ℕ) (xs : List (List ℕ)) (rest : List ℕ) → (leb 1 (length xs) && (leb (length xs) 65535 && list_all is_id xs)) ≡ true → stop ≤ length rest
      → leaf_ids stop ((to_be_bytes w16 (length xs) ++ concatenation (map id xs)) ++ rest) ≡ Ok (xs, rest)
  unfolding leaf_ids
  leaf_ids_written stop xs rest h le =
      let a = both_true (leb 1 (length xs)) (leb (length xs) 65535 && list_all is_id xs) h in
      let b = both_true (leb (length xs) 65535) (list_all is_id xs) a.1 in
      let small : length xs ≤ 65535 = leb-true _ _ b.0 in
      let f = misreading ((to_be_bytes w16 (length xs) ++ concatenation (map id xs)) ++ rest) in
      rw (l.numbers_written w16 f (length xs) (concatenation (map id xs) ++ rest) (omega arith) (omega (arith, small)), several_written f xs rest b.1, a.0, le-leb stop (length rest) le) refl

  pub tag_written : (room : Room) (tag : ℕ) (more : List ℕ) → tag < 256 → 1 ≤ room.nodes → cost tag ≤ room.patterns → room.stop ≤ length more
      → tag_field room (tag ∷ more) ≡ Ok (tag, made (room.nodes - 1) (room.patterns - cost tag) room.stop, more)
  unfolding tag_field
  tag_written room tag more lt some enough le =
      rw ((a_byte l).written tag more lt, le-leb room.stop (length more) le, enter room tag some enough) refl

  -- a tree of so many levels is read again
  abbrev Again : ℕ → Target → Type 0
  Again d z = (room : Room) (rest : List ℕ) → right z ≡ true → nodes z ≤ d → nodes z ≤ room.nodes → pattern_count z ≤ room.patterns → room.stop ≤ length rest
      → tree_at d room (tree_bytes z ++ rest) ≡ Ok (z, left room z, rest)

  module _ (d : ℕ) (law : (z : Target) → Again d z) where
    at_tag : (z : Target) (tag : ℕ) (body rest : List ℕ) (room : Room) (y : Target × Room × List ℕ) → tree_bytes z ≡ tag ∷ body → tag < 256 → 1 ≤ room.nodes → cost tag ≤ room.patterns → room.stop ≤ length (body ++ rest)
        → node_after (tree_at d) tag (made (room.nodes - 1) (room.patterns - cost tag) room.stop) (body ++ rest) ≡ Ok y → tree_at (suc d) room (tree_bytes z ++ rest) ≡ Ok y
    unfolding tree_at
    at_tag z tag body rest room y e lt some enough le h =
        ap (λ (b : List ℕ). tree_at (suc d) room (b ++ rest)) e
        ∙ ap (λ r. r >>= λ tag. node_after (tree_at d) tag.0 tag.1 tag.2) (tag_written room tag (body ++ rest) lt some enough le) ∙ h

    again_leaf : (tag : ℕ) (z : List ℕ → Target) → Leaf tag z → tag < 256 → ((room : Room) (b : List ℕ) → node_after (tree_at d) tag room b ≡ (leaf_text room.stop b >>= λ text. Ok (z text.0, room, text.1)))
        → (x : List ℕ) → Again (suc d) (z x)
    again_leaf tag z f lt step x room rest h deep few pats le =
        let r = made (room.nodes - 1) (room.patterns - cost tag) room.stop in
        let longer : room.stop ≤ length (text x ++ rest) = omega (arith, le, length-append (text x) rest) in
        let some : 1 ≤ room.nodes = omega (arith, few, f.one x) in
        let enough : cost tag ≤ room.patterns = omega (arith, pats, f.pats x) in
        let n : room.nodes - 1 ≡ room.nodes - nodes (z x) = ap (λ k. room.nodes - k) (sym (f.one x)) in
        let p : room.patterns - cost tag ≡ room.patterns - pattern_count (z x) = ap (λ k. room.patterns - k) (sym (f.pats x)) in
        at_tag (z x) tag (text x) rest room (z x, left room (z x), rest) (f.spelled x) lt some enough longer
        (step r (text x ++ rest) ∙ ap (λ b. b >>= λ text. Ok (z text.0, r, text.1)) (leaf_text_written room.stop x rest (sym (f.rights x) ∙ h) le)
        ∙ ap (λ (m : Room). Ok (z x, m, rest)) (same_room _ _ _ _ room.stop n p))

    again_IdList : (xs : List (List ℕ)) → Again (suc d) (t.IdList xs)
    unfolding node_after list_node
    again_IdList xs room rest h deep few pats le =
        let r = made (room.nodes - 1) (room.patterns - 0) room.stop in
        let body = to_be_bytes w16 (length xs) ++ concatenation (map id xs) in
        let longer : room.stop ≤ length (body ++ rest) = omega (arith, le, length-append body rest) in
        let one = at-IdList nodes_layer xs in
        let none = at-IdList pattern_count_layer xs in
        at_tag (t.IdList xs) 3 body rest room (t.IdList xs, left room (t.IdList xs), rest) (at-IdList tree_layer xs) (omega arith) (omega (arith, few, one)) (omega arith) longer
        (ap (λ b. b >>= λ ids. Ok (t.IdList ids.0, r, ids.1)) (leaf_ids_written room.stop xs rest (sym (at-IdList right_layer xs) ∙ h) le)
        ∙ ap (λ (m : Room). Ok (t.IdList xs, m, rest)) (same_room _ _ _ _ room.stop (ap (λ k. room.nodes - k) (sym one)) (ap (λ k. room.patterns - k) (sym none))))

    again_Not : (x : Target) → Again (suc d) (t.Not x)
    unfolding node_after not_node
    again_Not x room rest h deep few pats le =
        let r = made (room.nodes - 1) (room.patterns - 0) room.stop in
        let longer : room.stop ≤ length (tree_bytes x ++ rest) = omega (arith, le, length-append (tree_bytes x) rest) in
        let n = at-Not nodes_layer x in
        let p = at-Not pattern_count_layer x in
        at_tag (t.Not x) 8 (tree_bytes x) rest room (t.Not x, left room (t.Not x), rest) (at-Not tree_layer x) (omega arith) (omega (arith, few, n)) (omega arith) longer
        (ap (λ y. y >>= λ only. Ok (t.Not only.0, only.1, only.2)) (law x r rest (sym (at-Not right_layer x) ∙ h) (omega (arith, deep, n)) (omega (arith, few, n)) (omega (arith, pats, p)) le)
        ∙ ap (λ (m : Room). Ok (t.Not x, m, rest)) (same_room _ _ _ _ room.stop (omega (arith, n)) (omega (arith, p))))

    abbrev joined_to : (Target → Target → Target) → Target → Target × Room × List ℕ → Result (Target × Room × List ℕ) Misread
    joined_to z x second = Ok (z x second.0, second.1, second.2)

    abbrev then_second : (Target → Target → Target) → Target × Room × List ℕ → Result (Target × Room × List ℕ) Misread
    then_second z first = tree_at d first.1 first.2 >>= joined_to z first.0

    -- two parts one after the other
    two : (x y : Target) (room : Room) (rest : List ℕ) → right x ≡ true → right y ≡ true → nodes x + nodes y ≤ d → nodes x + nodes y ≤ room.nodes → pattern_count x + pattern_count y ≤ room.patterns → room.stop ≤ length rest
        → (z : Target → Target → Target) → (tree_at d room ((tree_bytes x ++ tree_bytes y) ++ rest) >>= then_second z)
        ≡ Ok (z x y, left (left room x) y, rest)
    two x y room rest hx hy deep few pats le z =
        let longer : room.stop ≤ length (tree_bytes y ++ rest) = omega (arith, le, length-append (tree_bytes y) rest) in
        ap (λ (b : List ℕ). tree_at d room b >>= then_second z) (append_assoc (tree_bytes x) (tree_bytes y) rest)
        ∙ ap (λ r. r >>= then_second z) (law x room (tree_bytes y ++ rest) hx (omega (arith, deep)) (omega (arith, few)) (omega (arith, pats)) longer)
        ∙ ap (λ r. r >>= joined_to z x) (law y (left room x) rest hy (omega (arith, deep)) (omega (arith, few)) (omega (arith, pats)) le)

    again_And : (x y : Target) → Again (suc d) (t.And x y)
    unfolding node_after and_node
    again_And x y room rest h deep few pats le =
        let r = made (room.nodes - 1) (room.patterns - 0) room.stop in
        let longer : room.stop ≤ length ((tree_bytes x ++ tree_bytes y) ++ rest) = omega (arith, le, length-append (tree_bytes x ++ tree_bytes y) rest) in
        let n = at-And nodes_layer x y in
        let p = at-And pattern_count_layer x y in
        let hs = both_true (right x) (right y) (sym (at-And right_layer x y) ∙ h) in
        at_tag (t.And x y) 9 (tree_bytes x ++ tree_bytes y) rest room (t.And x y, left room (t.And x y), rest) (at-And tree_layer x y) (omega arith) (omega (arith, few, n)) (omega arith) longer
        (two x y r rest hs.0 hs.1 (omega (arith, deep, n)) (omega (arith, few, n)) (omega (arith, pats, p)) le t.And
        ∙ ap (λ (m : Room). Ok (t.And x y, m, rest)) (same_room _ _ _ _ room.stop (omega (arith, n)) (omega (arith, p))))

    again_Or : (x y : Target) → Again (suc d) (t.Or x y)
    unfolding node_after or_node
    again_Or x y room rest h deep few pats le =
        let r = made (room.nodes - 1) (room.patterns - 0) room.stop in
        let longer : room.stop ≤ length ((tree_bytes x ++ tree_bytes y) ++ rest) = omega (arith, le, length-append (tree_bytes x ++ tree_bytes y) rest) in
        let n = at-Or nodes_layer x y in
        let p = at-Or pattern_count_layer x y in
        let hs = both_true (right x) (right y) (sym (at-Or right_layer x y) ∙ h) in
        at_tag (t.Or x y) 10 (tree_bytes x ++ tree_bytes y) rest room (t.Or x y, left room (t.Or x y), rest) (at-Or tree_layer x y) (omega arith) (omega (arith, few, n)) (omega arith) longer
        (two x y r rest hs.0 hs.1 (omega (arith, deep, n)) (omega (arith, few, n)) (omega (arith, pats, p)) le t.Or
        ∙ ap (λ (m : Room). Ok (t.Or x y, m, rest)) (same_room _ _ _ _ room.stop (omega (arith, n)) (omega (arith, p))))

    again_layer : (x : Target-F Target) → Again (suc d) (roll-Target x)
    unfolding node_after text_node
    again_layer (Target-F.IdGlob x) = subst (Again (suc d)) (sym (rolls-IdGlob x)) (again_leaf 1 t.IdGlob leaf1 (omega arith) (λ room b. refl) x)
    again_layer (Target-F.IdPcre x) = subst (Again (suc d)) (sym (rolls-IdPcre x)) (again_leaf 2 t.IdPcre leaf2 (omega arith) (λ room b. refl) x)
    again_layer (Target-F.IdList x) = subst (Again (suc d)) (sym (rolls-IdList x)) (again_IdList x)
    again_layer (Target-F.GrainGlob x) = subst (Again (suc d)) (sym (rolls-GrainGlob x)) (again_leaf 4 t.GrainGlob leaf4 (omega arith) (λ room b. refl) x)
    again_layer (Target-F.GrainPcre x) = subst (Again (suc d)) (sym (rolls-GrainPcre x)) (again_leaf 5 t.GrainPcre leaf5 (omega arith) (λ room b. refl) x)
    again_layer (Target-F.PillarGlob x) = subst (Again (suc d)) (sym (rolls-PillarGlob x)) (again_leaf 6 t.PillarGlob leaf6 (omega arith) (λ room b. refl) x)
    again_layer (Target-F.PillarPcre x) = subst (Again (suc d)) (sym (rolls-PillarPcre x)) (again_leaf 7 t.PillarPcre leaf7 (omega arith) (λ room b. refl) x)
    again_layer (Target-F.Not x) = subst (Again (suc d)) (sym (rolls-Not x)) (again_Not x)
    again_layer (Target-F.And x y) = subst (Again (suc d)) (sym (rolls-And x y)) (again_And x y)
    again_layer (Target-F.Or x y) = subst (Again (suc d)) (sym (rolls-Or x y)) (again_Or x y)

  positive : (z : Target) → 1 ≤ nodes z
  positive z = subst (λ w. 1 ≤ nodes w) (roll-out-Target z) (by (out-Target z)) where
    by : (x : Target-F Target) → 1 ≤ nodes (roll-Target x)
    by (Target-F.IdGlob x) = subst (λ w. 1 ≤ nodes w) (sym (rolls-IdGlob x)) (omega (arith, at-IdGlob nodes_layer x))
    by (Target-F.IdPcre x) = subst (λ w. 1 ≤ nodes w) (sym (rolls-IdPcre x)) (omega (arith, at-IdPcre nodes_layer x))
    by (Target-F.IdList x) = subst (λ w. 1 ≤ nodes w) (sym (rolls-IdList x)) (omega (arith, at-IdList nodes_layer x))
    by (Target-F.GrainGlob x) = subst (λ w. 1 ≤ nodes w) (sym (rolls-GrainGlob x)) (omega (arith, at-GrainGlob nodes_layer x))
    by (Target-F.GrainPcre x) = subst (λ w. 1 ≤ nodes w) (sym (rolls-GrainPcre x)) (omega (arith, at-GrainPcre nodes_layer x))
    by (Target-F.PillarGlob x) = subst (λ w. 1 ≤ nodes w) (sym (rolls-PillarGlob x)) (omega (arith, at-PillarGlob nodes_layer x))
    by (Target-F.PillarPcre x) = subst (λ w. 1 ≤ nodes w) (sym (rolls-PillarPcre x)) (omega (arith, at-PillarPcre nodes_layer x))
    by (Target-F.Not x) = subst (λ w. 1 ≤ nodes w) (sym (rolls-Not x)) (omega (arith, at-Not nodes_layer x))
    by (Target-F.And x y) = subst (λ w. 1 ≤ nodes w) (sym (rolls-And x y)) (omega (arith, at-And nodes_layer x y))
    by (Target-F.Or x y) = subst (λ w. 1 ≤ nodes w) (sym (rolls-Or x y)) (omega (arith, at-Or nodes_layer x y))

  tree_again : (d : ℕ) (z : Target) → Again d z
  tree_again zero z = λ room rest h deep few pats le. absurd (omega (arith, positive z, deep))
  tree_again (suc d) z = subst (Again (suc d)) (roll-out-Target z) (again_layer d (tree_again d) (out-Target z))

  tree_written : (z : Target) (rest : List ℕ) → TreeFits z → tree_field (tree_bytes z ++ rest) ≡ Ok (z, rest)
  unfolding tree_field
  tree_written z rest h =
      let b = tree_bytes z ++ rest in
      let le : length b - 65536 ≤ length rest = omega (arith, length-append (tree_bytes z) rest, h.long) in
      ap (λ r. r >>= λ tree_bytes. Ok (tree_bytes.0, tree_bytes.2)) (tree_again 256 z (whole_room b) rest h.right_leaves h.few_nodes h.few_nodes h.few_patterns le)

  -- ---- what is read was written so

  pub record TreeTook (room : Room) (b : List ℕ) (y : Target × Room × List ℕ) : Type 0 where
    rights : right y.0 ≡ true
    parts : b ≡ tree_bytes y.0 ++ y.2
    pub are_bytes : IsBytes y.2
    pub node_count : y.1.nodes + nodes y.0 ≡ room.nodes
    pattern_count : y.1.patterns + pattern_count y.0 ≡ room.patterns
    stop : y.1.stop ≡ room.stop
    inside : room.stop ≤ length y.2

  pub record TagTook (room : Room) (b : List ℕ) (y : ℕ × Room × List ℕ) : Type 0 where
    pub parts : b ≡ y.0 ∷ y.2
    pub are_bytes : IsBytes y.2
    pub room_left : Entered room y.1 y.0
    pub inside : room.stop ≤ length y.2

  with_room_ok : (f : Misread) (tag : ℕ × List ℕ) (o : Option Room) (y : ℕ × Room × List ℕ) → with_room f tag o ≡ Ok y → (r : Room) × (o ≡ Some r) × ((tag.0, r, tag.1) ≡ y)
  with_room_ok f tag None y e = absurd cc
  with_room_ok f tag (Some r) y e = (r, refl, cc)

  pub tag_took : (room : Room) (b : List ℕ) (y : ℕ × Room × List ℕ) → IsBytes b → tag_field room b ≡ Ok y → TagTook room b y
  unfolding tag_field
  tag_took room b y h e =
      let a = bind_ok (byte_field b) (λ tag. when (leb room.stop (length tag.1)) (misreading b) tag >>= λ ended. with_room (misreading b) ended (room_after room ended.0)) y e in
      let w = bind_ok (when (leb room.stop (length a.0.1)) (misreading b) a.0) (λ ended. with_room (misreading b) ended (room_after room ended.0)) y a.2 in
      let g = when_ok (leb room.stop (length a.0.1)) (misreading b) a.0 w.0 w.1 in
      let r = with_room_ok (misreading b) w.0 (room_after room w.0.0) y w.2 in
      let t = (a_byte l).took b a.0 h a.1 in
      let same : Took one_byte IsByte b w.0 = subst (λ (x : ℕ × List ℕ). Took one_byte IsByte b x) g.1 t in
      let inside : room.stop ≤ length w.0.1 = subst (λ (x : ℕ × List ℕ). room.stop ≤ length x.1) g.1 (leb-true _ _ g.0) in
      subst (λ (x : ℕ × Room × List ℕ). TagTook room b x) r.2 (record { parts = same.1; are_bytes = same.2; room_left = entered room w.0.0 r.0 r.1; inside = inside })

  pub record TextTook (stop : ℕ) (b : List ℕ) (x : List ℕ × List ℕ) : Type 0 where
    pub rights : is_leaf_text x.0 ≡ true
    pub parts : b ≡ text x.0 ++ x.1
    pub are_bytes : IsBytes x.1
    pub inside : stop ≤ length x.1

  pub leaf_text_took : (stop : ℕ) (b : List ℕ) (x : List ℕ × List ℕ) → IsBytes b → leaf_text stop b ≡ Ok x → TextTook stop b x
  unfolding leaf_text
  leaf_text_took stop b x h e =
      let a = bind_ok (text_field b) (λ text. when (leb 1 (length text.0) && (leb (length text.0) 4096 && leb stop (length text.1))) (misreading b) text) x e in
      let w = when_ok (leb 1 (length a.0.0) && (leb (length a.0.0) 4096 && leb stop (length a.0.1))) (misreading b) a.0 x a.2 in
      let t = (texts l).took b a.0 h a.1 in
      let p = both_true (leb 1 (length a.0.0)) (leb (length a.0.0) 4096 && leb stop (length a.0.1)) w.0 in
      let q = both_true (leb (length a.0.0) 4096) (leb stop (length a.0.1)) p.1 in
      subst (λ (y : List ℕ × List ℕ). TextTook stop b y) w.1 (record { rights = both _ _ t.0 (both _ _ p.0 q.0); parts = t.1; are_bytes = t.2; inside = leb-true _ _ q.1 })

  record SeveralTook (n : ℕ) (b : List ℕ) (x : List (List ℕ) × List ℕ) : Type 0 where
    count : length x.0 ≡ n
    rights : list_all is_id x.0 ≡ true
    parts : b ≡ concatenation (map id x.0) ++ x.1
    are_bytes : IsBytes x.1

  several_took : (f : Misread) (n : ℕ) (b : List ℕ) (x : List (List ℕ) × List ℕ) → IsBytes b → several (id_or f) n b ≡ Ok x → SeveralTook n b x
  unfolding several
  several_took f zero b x h e =
      let none : List (List ℕ) × List ℕ = ([], b) in
      subst (λ (y : List (List ℕ) × List ℕ). SeveralTook 0 b y) (ok_is none x e) (record { count = refl; rights = refl; parts = refl; are_bytes = h })
  several_took f (suc n) b x h e =
      let a = bind_ok (id_or f b) (λ first. several (id_or f) n first.1 >>= λ others. Ok (first.0 ∷ others.0, others.1)) x e in
      let c = bind_ok (several (id_or f) n a.0.1) (λ others. Ok (a.0.0 ∷ others.0, others.1)) x a.2 in
      let first = (ids_or l f).took b a.0 h a.1 in
      let others = several_took f n a.0.1 c.0 first.2 c.1 in
      let all : List (List ℕ) × List ℕ = (a.0.0 ∷ c.0.0, c.0.1) in
      subst (λ (y : List (List ℕ) × List ℕ). SeveralTook (suc n) b y) (ok_is all x c.2) (record {
        count = ap suc others.count;
        rights = both (is_id a.0.0) (list_all is_id c.0.0) (IsId-is_id a.0.0 first.0) others.rights;
        parts = join b (id a.0.0) a.0.1 (concatenation (map id c.0.0)) c.0.1 first.1 others.parts;
        are_bytes = others.are_bytes;
      })

  pub record IdsTook (stop : ℕ) (b : List ℕ) (x : List (List ℕ) × List ℕ) : Type 0 where
    pub rights : (leb 1 (length x.0) && (leb (length x.0) 65535 && list_all is_id x.0)) ≡ true
    pub parts : b ≡ (to_be_bytes w16 (length x.0) ++ concatenation (map id x.0)) ++ x.1
    pub are_bytes : IsBytes x.1
    pub inside : stop ≤ length x.1

  pub leaf_ids_took : (stop : ℕ) (b : List ℕ) (x : List (List ℕ) × List ℕ) → IsBytes b → leaf_ids stop b ≡ Ok x → IdsTook stop b x
  unfolding leaf_ids
  leaf_ids_took stop b x h e =
      let a = bind_ok (number_or w16 (misreading b) b) (λ count. several (id_or (misreading b)) count.0 count.1 >>= λ ids. when (leb 1 count.0 && leb stop (length ids.1)) (misreading b) ids) x e in
      let c = bind_ok (several (id_or (misreading b)) a.0.0 a.0.1) (λ ids. when (leb 1 a.0.0 && leb stop (length ids.1)) (misreading b) ids) x a.2 in
      let w = when_ok (leb 1 a.0.0 && leb stop (length c.0.1)) (misreading b) c.0 x c.2 in
      let p = both_true (leb 1 a.0.0) (leb stop (length c.0.1)) w.0 in
      let n = l.numbers_read w16 (misreading b) b a.0.0 a.0.1 (omega arith) h a.1 in
      let s = several_took (misreading b) a.0.0 a.0.1 c.0 n.2 c.1 in
      let some : 1 ≤ length c.0.0 = omega (arith, leb-true _ _ p.0, s.count) in
      let small : length c.0.0 ≤ 65535 = omega (arith, n.0, s.count) in
      subst (λ (y : List (List ℕ) × List ℕ). IdsTook stop b y) w.1 (record {
        rights = both _ _ (le-leb 1 _ some) (both _ _ (le-leb _ 65535 small) s.rights);
        parts = join b (to_be_bytes w16 (length c.0.0)) a.0.1 (concatenation (map id c.0.0)) c.0.1 (n.1 ∙ ap (λ k. to_be_bytes w16 k ++ a.0.1) (sym s.count)) s.parts;
        are_bytes = s.are_bytes;
        inside = leb-true _ _ p.1;
      })

  -- what a reading of trees promises of each tree that it gives
  abbrev pub Reads : ((room : Room) → List ℕ → Result (Target × Room × List ℕ) Misread) → Type 0
  Reads part = (room : Room) (b : List ℕ) (y : Target × Room × List ℕ) → IsBytes b → part room b ≡ Ok y → TreeTook room b y

  -- a node after its tag, in a room that the tag left
  abbrev NodeTook : ℕ → Room → Room → List ℕ → Target × Room × List ℕ → Type 0
  NodeTook tag room next b y = Entered room next tag → TreeTook room (tag ∷ b) y

  leaf_took : (tag : ℕ) (z : List ℕ → Target) → Leaf tag z → (room next : Room) (b : List ℕ) (y : Target × Room × List ℕ) → IsBytes b
      → (leaf_text next.stop b >>= λ text. Ok (z text.0, next, text.1)) ≡ Ok y → NodeTook tag room next b y
  leaf_took tag z f room next b y h e in_room =
      let a = bind_ok (leaf_text next.stop b) (λ text. Ok (z text.0, next, text.1)) y e in
      let t = leaf_text_took next.stop b a.0 h a.1 in
      let all : Target × Room × List ℕ = (z a.0.0, next, a.0.1) in
      subst (λ (x : Target × Room × List ℕ). TreeTook room (tag ∷ b) x) (ok_is all y a.2) (record {
        rights = f.rights a.0.0 ∙ t.rights;
        parts = ap (λ (r : List ℕ). tag ∷ r) t.parts ∙ ap (λ (r : List ℕ). r ++ a.0.1) (sym (f.spelled a.0.0));
        are_bytes = t.are_bytes;
        node_count = omega (arith, in_room.one, f.one a.0.0);
        pattern_count = ap (λ k. next.patterns + k) (f.pats a.0.0) ∙ in_room.pattern;
        stop = in_room.stop;
        inside = omega (arith, t.inside, in_room.stop);
      })

  list_took : (room next : Room) (b : List ℕ) (y : Target × Room × List ℕ) → IsBytes b → list_node next b ≡ Ok y → NodeTook 3 room next b y
  unfolding list_node
  list_took room next b y h e in_room =
      let a = bind_ok (leaf_ids next.stop b) (λ ids. Ok (t.IdList ids.0, next, ids.1)) y e in
      let s = leaf_ids_took next.stop b a.0 h a.1 in
      let all : Target × Room × List ℕ = (t.IdList a.0.0, next, a.0.1) in
      subst (λ (x : Target × Room × List ℕ). TreeTook room (3 ∷ b) x) (ok_is all y a.2) (record {
        rights = at-IdList right_layer a.0.0 ∙ s.rights;
        parts = ap (λ (r : List ℕ). 3 ∷ r) s.parts ∙ ap (λ (r : List ℕ). r ++ a.0.1) (sym (at-IdList tree_layer a.0.0));
        are_bytes = s.are_bytes;
        node_count = omega (arith, in_room.one, at-IdList nodes_layer a.0.0);
        pattern_count = ap (λ k. next.patterns + k) (at-IdList pattern_count_layer a.0.0) ∙ in_room.pattern;
        stop = in_room.stop;
        inside = omega (arith, s.inside, in_room.stop);
      })

  module _ (part : (room : Room) → List ℕ → Result (Target × Room × List ℕ) Misread) (law : Reads part) where
    not_took : (room next : Room) (b : List ℕ) (y : Target × Room × List ℕ) → IsBytes b → not_node part next b ≡ Ok y → NodeTook 8 room next b y
    unfolding not_node
    not_took room next b y h e in_room =
        let a = bind_ok (part next b) (λ only. Ok (t.Not only.0, only.1, only.2)) y e in
        let x = a.0.0 in
        let s = law next b a.0 h a.1 in
        let all : Target × Room × List ℕ = (t.Not x, a.0.1, a.0.2) in
        subst (λ (z : Target × Room × List ℕ). TreeTook room (8 ∷ b) z) (ok_is all y a.2) (record {
          rights = at-Not right_layer x ∙ s.rights;
          parts = ap (λ (r : List ℕ). 8 ∷ r) s.parts ∙ ap (λ (r : List ℕ). r ++ a.0.2) (sym (at-Not tree_layer x));
          are_bytes = s.are_bytes;
          node_count = omega (arith, in_room.one, at-Not nodes_layer x, s.node_count);
          pattern_count = omega (arith, in_room.pattern, at-Not pattern_count_layer x, s.pattern_count);
          stop = s.stop ∙ in_room.stop;
          inside = omega (arith, s.inside, in_room.stop);
        })

    abbrev after_both : (Target → Target → Target) → Target → Target × Room × List ℕ → Result (Target × Room × List ℕ) Misread
    after_both z x second = Ok (z x second.0, second.1, second.2)

    abbrev after_first : (Target → Target → Target) → Target × Room × List ℕ → Result (Target × Room × List ℕ) Misread
    after_first z first = part first.1 first.2 >>= after_both z first.0

    two_took : (tag : ℕ) (z : Target → Target → Target) → ((x y : Target) → tree_bytes (z x y) ≡ tag ∷ (tree_bytes x ++ tree_bytes y)) → ((x y : Target) → right (z x y) ≡ (right x && right y))
        → ((x y : Target) → nodes (z x y) ≡ 1 + (nodes x + nodes y)) → ((x y : Target) → pattern_count (z x y) ≡ pattern_count x + pattern_count y) → cost tag ≡ 0
        → (room next : Room) (b : List ℕ) (w : Target × Room × List ℕ) → IsBytes b → (part next b >>= after_first z) ≡ Ok w → NodeTook tag room next b w
    two_took tag z spelled rights one pats free room next b w h e in_room =
        let a = bind_ok (part next b) (after_first z) w e in
        let c = bind_ok (part a.0.1 a.0.2) (after_both z a.0.0) w a.2 in
        let x = a.0.0 in
        let y = c.0.0 in
        let s = law next b a.0 h a.1 in
        let u = law a.0.1 a.0.2 c.0 s.are_bytes c.1 in
        let all : Target × Room × List ℕ = (z x y, c.0.1, c.0.2) in
        subst (λ (v : Target × Room × List ℕ). TreeTook room (tag ∷ b) v) (ok_is all w c.2) (record {
          rights = rights x y ∙ both (right x) (right y) s.rights u.rights;
          parts = ap (λ (r : List ℕ). tag ∷ r) (join b (tree_bytes x) a.0.2 (tree_bytes y) c.0.2 s.parts u.parts) ∙ ap (λ (r : List ℕ). r ++ c.0.2) (sym (spelled x y));
          are_bytes = u.are_bytes;
          node_count = omega (arith, in_room.one, one x y, s.node_count, u.node_count);
          pattern_count = omega (arith, in_room.pattern, free, pats x y, s.pattern_count, u.pattern_count);
          stop = u.stop ∙ s.stop ∙ in_room.stop;
          inside = omega (arith, u.inside, s.stop, in_room.stop);
        })

    and_took : (room next : Room) (b : List ℕ) (y : Target × Room × List ℕ) → IsBytes b → and_node part next b ≡ Ok y → NodeTook 9 room next b y
    unfolding and_node
    and_took room next b y h e = two_took 9 t.And (at-And tree_layer) (at-And right_layer) (at-And nodes_layer) (at-And pattern_count_layer) refl room next b y h e

    or_took : (room next : Room) (b : List ℕ) (y : Target × Room × List ℕ) → IsBytes b → or_node part next b ≡ Ok y → NodeTook 10 room next b y
    unfolding or_node
    or_took room next b y h e = two_took 10 t.Or (at-Or tree_layer) (at-Or right_layer) (at-Or nodes_layer) (at-Or pattern_count_layer) refl room next b y h e

  -- one case of a choice by a number
  choose : {C : Type 0} (n k : ℕ) (r s : Result C Misread) (x : C) → cond (eqb n k) r s ≡ Ok x → ((n ≡ k) × (r ≡ Ok x)) ⊎ (s ≡ Ok x)
  choose {C} n k r s x e = by (eqb n k) (eqb-true n k) e where
    by : (b : Bool) → (b ≡ true → n ≡ k) → cond b r s ≡ Ok x → ((n ≡ k) × (r ≡ Ok x)) ⊎ (s ≡ Ok x)
    by true h e = inl (h refl, e)
    by false h e = inr e

  abbrev leaf_made : ℕ → Room → List ℕ × List ℕ → Result (Target × Room × List ℕ) Misread
  leaf_made tag next text = Ok (leaf tag text.0, next, text.1)

  abbrev LeafGives : ℕ → Room → List ℕ → Target × Room × List ℕ → Type 0
  LeafGives tag next b y = (leaf_text next.stop b >>= leaf_made tag next) ≡ Ok y

  text_node_took : (tag : ℕ) (room next : Room) (b : List ℕ) (y : Target × Room × List ℕ) → IsBytes b → text_node tag next b ≡ Ok y → NodeTook tag room next b y
  unfolding text_node
  text_node_took tag room next b y h e =
      let g = tested (is_text_tag tag) _ e in
      elim (or_cases (eqb tag 1) _ g.0) [
        | inl p ↦ of 1 (eqb-true tag 1 p) (λ e. leaf_took 1 t.IdGlob leaf1 room next b y h e) g.1
        | inr q ↦
            elim (or_cases (eqb tag 2) _ q) [
              | inl p ↦ of 2 (eqb-true tag 2 p) (λ e. leaf_took 2 t.IdPcre leaf2 room next b y h e) g.1
              | inr q ↦
                  elim (or_cases (eqb tag 4) _ q) [
                    | inl p ↦ of 4 (eqb-true tag 4 p) (λ e. leaf_took 4 t.GrainGlob leaf4 room next b y h e) g.1
                    | inr q ↦
                        elim (or_cases (eqb tag 5) _ q) [
                          | inl p ↦ of 5 (eqb-true tag 5 p) (λ e. leaf_took 5 t.GrainPcre leaf5 room next b y h e) g.1
                          | inr q ↦
                              elim (or_cases (eqb tag 6) _ q) [
                                | inl p ↦ of 6 (eqb-true tag 6 p) (λ e. leaf_took 6 t.PillarGlob leaf6 room next b y h e) g.1
                                | inr q ↦
                                    of 7 (eqb-true tag 7 q) (λ e. leaf_took 7 t.PillarPcre leaf7 room next b y h e) g.1
                              ]
                        ]
                  ]
            ]
      ]
    where
      tested : (c : Bool) (r : Result (Target × Room × List ℕ) Misread) → cond c r (Err (BadField (suc (length b)))) ≡ Ok y → (c ≡ true) × (r ≡ Ok y)
      tested true r e = (refl, e)
      tested false r e = absurd cc

      of : (n : ℕ) → tag ≡ n → (LeafGives n next b y → NodeTook n room next b y) → LeafGives tag next b y → NodeTook tag room next b y
      of n g f e = subst (λ k. NodeTook k room next b y) (sym g) (f (subst (λ k. LeafGives k next b y) g e))

  node_took : (d : ℕ) → Reads (tree_at d) → (tag : ℕ) (room next : Room) (b : List ℕ) (y : Target × Room × List ℕ) → IsBytes b → node_after (tree_at d) tag next b ≡ Ok y → NodeTook tag room next b y
  unfolding node_after
  node_took d law tag room next b y h e =
      elim (choose tag 3 _ _ y e) [
        | inl g ↦ of 3 g.0 (list_took room next b y h g.1)
        | inr e ↦
            elim (choose tag 8 _ _ y e) [
              | inl g ↦ of 8 g.0 (not_took (tree_at d) law room next b y h g.1)
              | inr e ↦
                  elim (choose tag 9 _ _ y e) [
                    | inl g ↦ of 9 g.0 (and_took (tree_at d) law room next b y h g.1)
                    | inr e ↦
                        elim (choose tag 10 _ _ y e) [ inl g ↦ of 10 g.0 (or_took (tree_at d) law room next b y h g.1) | inr e ↦ text_node_took tag room next b y h e ]
                  ]
            ]
      ]
    where
      of : (n : ℕ) → tag ≡ n → NodeTook n room next b y → NodeTook tag room next b y
      of n g p = subst (λ k. NodeTook k room next b y) (sym g) p

  pub tree_took : (d : ℕ) → Reads (tree_at d)
  unfolding tree_at
  tree_took zero = λ room b y h e. absurd cc
  tree_took (suc d) = λ room b y h e.
      let a = bind_ok (tag_field room b) (λ tag. node_after (tree_at d) tag.0 tag.1 tag.2) y e in
      let g = tag_took room b a.0 h a.1 in
      subst (λ (x : List ℕ). TreeTook room x y) (sym g.parts) (node_took d (tree_took d) a.0.0 room a.0.1 a.0.2 y g.are_bytes a.2 g.room_left)

  whole_took : (b : List ℕ) (x : Target × List ℕ) → IsBytes b → tree_field b ≡ Ok x → Took tree_bytes TreeFits b x
  unfolding tree_field
  whole_took b x h e =
      let a = bind_ok (tree_at 256 (whole_room b) b) (λ tree_bytes. Ok (tree_bytes.0, tree_bytes.2)) x e in
      let g = tree_took 256 (whole_room b) b a.0 h a.1 in
      let len : length b ≡ length (tree_bytes a.0.0) + length a.0.2 = ap length g.parts ∙ length-append (tree_bytes a.0.0) a.0.2 in
      let all : Target × List ℕ = (a.0.0, a.0.2) in
      subst (λ (y : Target × List ℕ). Took tree_bytes TreeFits b y) (ok_is all x a.2) (
        record { few_nodes = omega (arith, g.node_count); few_patterns = omega (arith, g.pattern_count); long = omega (arith, g.inside, len); right_leaves = g.rights },
        g.parts,
        g.are_bytes,
      )

  pub trees : IsReadBack tree_bytes TreeFits tree_field
  trees = record { written = tree_written; took = whole_took }
