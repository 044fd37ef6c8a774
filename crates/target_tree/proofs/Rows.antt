-- The definitions on known rows.
use Rattle.std.proofs.Common.{◌≡◌, [], ◌∷◌, Ok, Err, refl}
use Rattle.std.specs.Prelude.{codes}
use Rattle.target_tree.specs.declared.kind.Kind.TheVariants.{Glob, Nodegroup, Compound}
use Rattle.target_tree.specs.declared.target.Target.TheVariants.{IdGlob, IdPcre, GrainGlob, And, Or}
use Rattle.target_tree.specs.declared.fault.TargetFault.TheVariants.{Empty, Word, Unclosed, UnknownGroup, Circle, BadLetter}
use Rattle.target_tree.specs.Words.{token, tokens_of, operand_token, letter_leaf, id_list}
use Rattle.target_tree.specs.Reading.{group_word}
use Rattle.target_tree.specs.Machine.{machine_group, machine_tree}
use Rattle.target_tree.specs.Targets.{reading}
use Rattle.target_tree.specs.Words.{is_id}

tree_of_words : machine_tree Compound [] (codes "web* and G@os:debian or E@db[0-9]") ≡ Ok (Or (And (IdGlob (codes "web*")) (GrainGlob (codes "os:debian"))) (IdPcre (codes "db[0-9]")))
unfolding tokens_of token operand_token letter_leaf machine_group
tree_of_words = refl

word_1 : reading Compound [] (codes "not (L@a,b and not I@role:db)") ≡ Err (Word 1)
unfolding tokens_of token operand_token letter_leaf id_list is_id group_word
word_1 = refl

word_3 : reading Compound [] (codes "( a or") ≡ Err (Word 3)
unfolding tokens_of token operand_token letter_leaf group_word
word_3 = refl

unclosed : reading Compound [] (codes "( a") ≡ Err Unclosed
unfolding tokens_of token operand_token letter_leaf group_word
unclosed = refl

bad_letter : reading Compound [] (codes "R@x") ≡ Err (BadLetter 0)
unfolding tokens_of token operand_token letter_leaf group_word
bad_letter = refl

circle : reading Nodegroup ((codes "a", codes "N@b") ∷ (codes "b", codes "N@a") ∷ []) (codes "a") ≡ Err (Circle 2)
unfolding tokens_of token operand_token letter_leaf group_word
circle = refl

unknown : reading Compound [] (codes "N@c") ≡ Err (UnknownGroup 0)
unfolding tokens_of token operand_token letter_leaf group_word
unknown = refl

empty : reading Glob [] [] ≡ Err Empty
empty = refl
