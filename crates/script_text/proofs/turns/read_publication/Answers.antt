use Rattle.script_text.proofs.Pairs.{pair_found, no_first, no_second, no_space}
use Rattle.script_text.proofs.Readings.{publication_parts}
use Rattle.script_text.proofs.turns.read_publication.Goals as goal

pub returns-in_default : goal.returns-in_default
returns-in_default c =
    no_space publication_parts c.args.text.now (c.in_default.ensures {u = tt}).none

pub returns-in_default-read_number : goal.returns-in_default-read_number
returns-in_default-read_number c =
    let cut = (c.in-Some.ensures {u = tt}).some in
    no_first publication_parts c.in-Some.digits.now c.in-Some.rest.now c.args.text.now cut.0 cut.1 (rw c.in_default-read_number.is at (c.read_number.ensures))

pub returns-in-Some-2 : goal.returns-in-Some-2
returns-in-Some-2 c =
    let cut = (c.in-Some.ensures {u = tt}).some in
    pair_found publication_parts c.in-Some-read_number.moment c.in-Some-2.tgt c.in-Some.digits.now c.in-Some.rest.now c.args.text.now cut.0 cut.1
    (rw c.in-Some-read_number.is at (c.read_number.ensures)) (rw c.in-Some-2.is at (c.in_ok-tgt.ensures {u = tt}))

pub returns-in-None : goal.returns-in-None
returns-in-None c =
    let cut = (c.in-Some.ensures {u = tt}).some in
    no_second publication_parts c.in-Some.digits.now c.in-Some.rest.now c.args.text.now cut.0 cut.1 (rw c.in-None.is at (c.in_ok-tgt.ensures {u = tt}))
