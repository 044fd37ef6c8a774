use Rattle.std.proofs.Common.{◌++◌, sym, ap, ◌∙◌, drop, arith}
use Rattle.std.specs.Int.{w32, to_be_bytes}
use Rattle.salt_frame.proofs.FrontLemmas.{head_is, frame_is}
use Rattle.salt_frame.proofs.front.front_of.Goals as goal

pub returns-then-size-gt-LIMIT : goal.returns-then-size-gt-LIMIT
returns-then-size-gt-LIMIT c =
    (c.if-size-gt-LIMIT.true, c.length_of-length.type_inv, (drop 4 c.args.bytes.now, head_is c.args.bytes.now (λ i. omega (arith, c.type_inv.bytes i)) c.if-bytes-lt-LENGTH_SIZE.false ∙ ap (λ n. to_be_bytes w32 n ++ drop 4 c.args.bytes.now) (sym c.length_of-length.ensures)))

pub returns-else-bytes-size : goal.returns-else-bytes-size
returns-else-bytes-size c =
    frame_is c.args.bytes.now c.length_of-length.result (λ i. omega (arith, c.type_inv.bytes i)) c.if-bytes-lt-LENGTH_SIZE.false c.length_of-length.ensures c.if-bytes-size.false c.if-size-gt-LIMIT.false
