-- The grammar of a compound, on whole lists of words.
use Rattle.std.specs.Prelude.{◌≡◌, ℕ, false, List, [], ◌∷◌, ◌++◌, Some}
use Rattle.target_tree.specs.Nodegroups.{Group}
use Rattle.target_tree.specs.declared.target.Target.{Target}
use Rattle.target_tree.specs.declared.target.Target.TheVariants.{Not, And, Or}
use Rattle.target_tree.specs.declared.token.Token.{Token}
use Rattle.target_tree.specs.declared.token.Token.TheVariants.{AndWord, OrWord, NotWord, OpenWord, CloseWord, Leaf, Pattern, Nodegroup}
use Rattle.target_tree.specs.Words.{tokens_of}
use Rattle.target_tree.specs.Nodegroups.{text_named, is_among}

-- what words stand for: an operand, operands joined by `and`, and those joined by `or`
pub data Level : Type 0 where
  operand : Level
  conjunction : Level
  compound : Level

-- These words stand for this tree, where the nodegroups with these names are being expanded.
pub data Stands (groups : List Group) : List (List ℕ) → Level → List Token → Target → Type 0 where
  -- a leaf is an operand, with a pattern or not
  one_leaf : {names : List (List ℕ)} {tree : Target} → Stands groups names operand (Leaf tree ∷ []) tree
  one_pattern : {names : List (List ℕ)} {tree : Target} → Stands groups names operand (Pattern tree ∷ []) tree
  -- a nodegroup's word stands for the tree of its own text, unless it is being expanded
  one_group : {names : List (List ℕ)} {name : List ℕ} {tree : Target} → (text : List ℕ) → text_named groups name ≡ Some text → is_among names name ≡ false
      → Stands groups (name ∷ names) compound (tokens_of text) tree → Stands groups names operand (Nodegroup name ∷ []) tree
  -- `not` stands before an operand
  negated : {names : List (List ℕ)} {words : List Token} {tree : Target} → Stands groups names operand words tree → Stands groups names operand (NotWord ∷ words) (Not tree)
  -- a compound in parentheses is an operand
  in_parens : {names : List (List ℕ)} {words : List Token} {tree : Target} → Stands groups names compound words tree → Stands groups names operand (OpenWord ∷ (words ++ CloseWord ∷ [])) tree
  -- `and` joins operands, to the left
  one_operand : {names : List (List ℕ)} {words : List Token} {tree : Target} → Stands groups names operand words tree → Stands groups names conjunction words tree
  joined_by_and : {names : List (List ℕ)} {left right : List Token} {first second : Target} → Stands groups names conjunction left first → Stands groups names operand right second
      → Stands groups names conjunction (left ++ AndWord ∷ right) (And first second)
  -- `or` joins those, to the left
  one_conjunction : {names : List (List ℕ)} {words : List Token} {tree : Target} → Stands groups names conjunction words tree → Stands groups names compound words tree
  joined_by_or : {names : List (List ℕ)} {left right : List Token} {first second : Target} → Stands groups names compound left first → Stands groups names conjunction right second
      → Stands groups names compound (left ++ OrWord ∷ right) (Or first second)
