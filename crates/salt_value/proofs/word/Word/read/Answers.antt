use Rattle.std.proofs.Common.{arith, position, not, None, ◌≡◌, ◌<◌, length}
use Rattle.std.proofs.lemmas.Bool.Decides.{nat_tests}
use Rattle.salt_value.specs.Word.{is_word_byte}
use Rattle.salt_value.proofs.Places.{all_from_none}
use Rattle.salt_value.proofs.word.Word.read.Goals as goal

pub made-requires : goal.made-requires
made-requires c =
    let none : position (λ b. not (is_word_byte b)) c.args.text.now ≡ None = cc in
    let some : 0 < length c.args.text.now = grind (arith, nat_tests, c.is_empty.ensures, c.if-is_empty.false) in
    (some, omega arith, all_from_none is_word_byte c.args.text.now none)
