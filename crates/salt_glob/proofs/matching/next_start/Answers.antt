use Rattle.salt_glob.proofs.Starts.{start_some, start_none}
use Rattle.salt_glob.proofs.matching.next_start.Goals as goal

pub returns-clause-some : goal.returns-clause-some
returns-clause-some c =
    start_some c.args.pattern.now c.args.text.now c.args.after c.args.from c.at-byte.result c.place_of.result c.requires.after c.at-byte.ensures.value c.if-byte-eq42.false c.if-byte-eq63.false
    c.if-byte-eq91.false c.place_of.ensures.some

pub returns-clause-none : goal.returns-clause-none
returns-clause-none c =
    start_none c.args.pattern.now c.args.text.now c.args.after c.args.from c.at-byte.result c.place_of.result c.requires.after c.at-byte.ensures.value c.if-byte-eq42.false c.if-byte-eq63.false
    c.if-byte-eq91.false c.place_of.ensures.none
