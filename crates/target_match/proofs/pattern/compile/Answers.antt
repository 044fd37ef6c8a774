use Rattle.std.proofs.Common.{refl}
use Rattle.target_match.proofs.Reading.{readable, refused, too_big}
use Rattle.target_match.proofs.pattern.compile.Goals as goal

pub returns-in-Ok-clause-readable : goal.returns-in-Ok-clause-readable
returns-in-Ok-clause-readable c =
    let made = c.in-Ok.ensures in
    rw made.source at (readable c.in-Ok.regex (made.config, made.read))

pub returns-in-Err-Syntax-clause-fault : goal.returns-in-Err-Syntax-clause-fault
returns-in-Err-Syntax-clause-fault c =
    let made = c.in-Err-Syntax.ensures in
    (refl, refused _ _ (made.by_grammar _ c.in-Err-Syntax.field-0-is) (rw c.in-Err-Syntax.field-0-is at made.kind))

pub returns-in-Err-CompiledTooBig-clause-fault : goal.returns-in-Err-CompiledTooBig-clause-fault
returns-in-Err-CompiledTooBig-clause-fault c =
    let made = c.in-Err-CompiledTooBig.ensures in
    (refl, too_big _ (rw c.in-Err-CompiledTooBig.field-0-is at made.kind))
