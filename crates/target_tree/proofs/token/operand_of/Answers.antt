use Rattle.std.proofs.Common.{◌≡◌, Bool, sym, ap, subst, ◌∙◌}
use Rattle.std.specs.Prelude.{if◌then◌else◌, IfOk}
use Rattle.target_tree.specs.declared.target.Target.TheVariants.{IdGlob}
use Rattle.target_tree.specs.declared.token.Token.{Token}
use Rattle.target_tree.specs.declared.token.Token.TheVariants.{Leaf, NoLeaf}
use Rattle.target_tree.proofs.Letters.{operand-plain, some-text, bare-letter, bare-other}
use Rattle.target_tree.proofs.token.operand_of.Goals as goal

pub returns-then-has_paren : goal.returns-then-has_paren
returns-then-has_paren c =
    sym (operand-plain c.args.word.now c.in-None.ensures ∙ ap (λ (b : Bool). if b then NoLeaf else Leaf (IdGlob c.args.word.now)) (sym c.has_paren.ensures ∙ c.if-has_paren.true))

pub returns-in_ok-to_text-in-None : goal.returns-in_ok-to_text-in-None
returns-in_ok-to_text-in-None c =
    subst (λ (x : Token). IfOk c.leaf.result (λ t. t ≡ x))
    (ap (λ t. Leaf (IdGlob t)) c.in_ok-to_text-in-None.ensures
    ∙ sym (operand-plain c.args.word.now c.in-None.ensures ∙ ap (λ (b : Bool). if b then NoLeaf else Leaf (IdGlob c.args.word.now)) (sym c.has_paren.ensures ∙ c.if-has_paren.false)))
    c.leaf.ensures

pub returns-then-not-is_empty : goal.returns-then-not-is_empty
returns-then-not-is_empty c =
    subst (λ (x : Token). IfOk c.lettered_of.result (λ t. t ≡ x))
    (some-text c.args.word.now c.in-Some.letter c.in-Some.text.now c.in-Some.ensures (sym c.is_empty.ensures ∙ c.if-not-is_empty.true)) c.lettered_of.ensures

pub returns-then-is_letter_of : goal.returns-then-is_letter_of
returns-then-is_letter_of c =
    bare-letter c.args.word.now c.in-Some.letter c.in-Some.text.now c.in-Some.ensures (sym c.is_empty.ensures ∙ c.if-not-is_empty.false) (sym c.is_letter_of.ensures ∙ c.if-is_letter_of.true)

pub returns-else-is_letter_of : goal.returns-else-is_letter_of
returns-else-is_letter_of c =
    subst (λ (x : Token). IfOk c.lettered_of-in-Some.result (λ t. t ≡ x))
    (bare-other c.args.word.now c.in-Some.letter c.in-Some.text.now c.in-Some.ensures (sym c.is_empty.ensures ∙ c.if-not-is_empty.false) (sym c.is_letter_of.ensures ∙ c.if-is_letter_of.false)) c.lettered_of-in-Some.ensures
