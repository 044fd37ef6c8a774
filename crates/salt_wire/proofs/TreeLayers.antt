-- Each definition on trees, at each kind of node.
use Rattle.std.proofs.Common.{◌≡◌, ℕ, true, List, ◌∷◌, ◌++◌, length, map, sym, ap, ◌∙◌}
use Rattle.std.specs.Int.{w16, to_be_bytes}
use Rattle.salt_value.specs.Spelling.{concatenation}
use Rattle.target_tree.specs.declared.target.Target.{Target, fold-Target, fold-roll-Target}
use Rattle.target_tree.specs.declared.target.Target.TheVariants as t
use Rattle.target_tree.specs.declared.target.Target.TheVariants.{rolls-IdGlob, rolls-IdPcre, rolls-IdList, rolls-GrainGlob, rolls-GrainPcre, rolls-PillarGlob, rolls-PillarPcre, rolls-Not, rolls-And, rolls-Or}
use Rattle.target_tree.specs.declared.target.Target.TheOpen.{Target-F}
use Rattle.salt_wire.specs.Spelling.{id, tree_bytes, tree_layer}
use Rattle.salt_wire.specs.Limits.{right, right_layer}
use Rattle.salt_wire.proofs.WriteLemmas.{both_true}

module _ {A : Type 0} (layer : Target-F A → A) where
  abbrev pub of : Target → A
  of = fold-Target A layer

  pub at-IdGlob : (x : List ℕ) → of (t.IdGlob x) ≡ layer (Target-F.IdGlob x)
  at-IdGlob x = ap of (sym (rolls-IdGlob x)) ∙ fold-roll-Target A layer (Target-F.IdGlob x)

  pub at-IdPcre : (x : List ℕ) → of (t.IdPcre x) ≡ layer (Target-F.IdPcre x)
  at-IdPcre x = ap of (sym (rolls-IdPcre x)) ∙ fold-roll-Target A layer (Target-F.IdPcre x)

  pub at-IdList : (x : List (List ℕ)) → of (t.IdList x) ≡ layer (Target-F.IdList x)
  at-IdList x = ap of (sym (rolls-IdList x)) ∙ fold-roll-Target A layer (Target-F.IdList x)

  pub at-GrainGlob : (x : List ℕ) → of (t.GrainGlob x) ≡ layer (Target-F.GrainGlob x)
  at-GrainGlob x = ap of (sym (rolls-GrainGlob x)) ∙ fold-roll-Target A layer (Target-F.GrainGlob x)

  pub at-GrainPcre : (x : List ℕ) → of (t.GrainPcre x) ≡ layer (Target-F.GrainPcre x)
  at-GrainPcre x = ap of (sym (rolls-GrainPcre x)) ∙ fold-roll-Target A layer (Target-F.GrainPcre x)

  pub at-PillarGlob : (x : List ℕ) → of (t.PillarGlob x) ≡ layer (Target-F.PillarGlob x)
  at-PillarGlob x = ap of (sym (rolls-PillarGlob x)) ∙ fold-roll-Target A layer (Target-F.PillarGlob x)

  pub at-PillarPcre : (x : List ℕ) → of (t.PillarPcre x) ≡ layer (Target-F.PillarPcre x)
  at-PillarPcre x = ap of (sym (rolls-PillarPcre x)) ∙ fold-roll-Target A layer (Target-F.PillarPcre x)

  pub at-Not : (x : Target) → of (t.Not x) ≡ layer (Target-F.Not (of x))
  at-Not x = ap of (sym (rolls-Not x)) ∙ fold-roll-Target A layer (Target-F.Not x)

  pub at-And : (x y : Target) → of (t.And x y) ≡ layer (Target-F.And (of x) (of y))
  at-And x y = ap of (sym (rolls-And x y)) ∙ fold-roll-Target A layer (Target-F.And x y)

  pub at-Or : (x y : Target) → of (t.Or x y) ≡ layer (Target-F.Or (of x) (of y))
  at-Or x y = ap of (sym (rolls-Or x y)) ∙ fold-roll-Target A layer (Target-F.Or x y)

-- ---- trees as bytes, and right trees

pub tree-IdList : (z : Target) (x : List (List ℕ)) → z ≡ t.IdList x → tree_bytes z ≡ 3 ∷ (to_be_bytes w16 (length x) ++ concatenation (map id x))
tree-IdList z x e = ap tree_bytes e ∙ at-IdList tree_layer x

pub tree-Not : (z x : Target) → z ≡ t.Not x → tree_bytes z ≡ 8 ∷ tree_bytes x
tree-Not z x e = ap tree_bytes e ∙ at-Not tree_layer x

pub tree-And : (z x y : Target) → z ≡ t.And x y → tree_bytes z ≡ 9 ∷ (tree_bytes x ++ tree_bytes y)
tree-And z x y e = ap tree_bytes e ∙ at-And tree_layer x y

pub tree-Or : (z x y : Target) → z ≡ t.Or x y → tree_bytes z ≡ 10 ∷ (tree_bytes x ++ tree_bytes y)
tree-Or z x y e = ap tree_bytes e ∙ at-Or tree_layer x y

pub right-Not : (z x : Target) → z ≡ t.Not x → right z ≡ true → right x ≡ true
right-Not z x e h = sym (ap right e ∙ at-Not right_layer x) ∙ h

pub right-And : (z x y : Target) → z ≡ t.And x y → right z ≡ true → (right x ≡ true) × (right y ≡ true)
right-And z x y e h = both_true (right x) (right y) (sym (ap right e ∙ at-And right_layer x y) ∙ h)

pub right-Or : (z x y : Target) → z ≡ t.Or x y → right z ≡ true → (right x ≡ true) × (right y ≡ true)
right-Or z x y e h = both_true (right x) (right y) (sym (ap right e ∙ at-Or right_layer x y) ∙ h)
