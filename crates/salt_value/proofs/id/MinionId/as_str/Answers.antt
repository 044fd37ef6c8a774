use Rattle.std.proofs.Common.{subst, sym}
use Rattle.std.proofs.lemmas.Str.{IsUtf8-from_ascii}
use Rattle.salt_value.specs.Id.{IsId}
use Rattle.salt_value.proofs.IdKept.{IsId-IsAscii}
use Rattle.salt_value.proofs.id.MinionId.as_str.Goals as goal

pub unreachable-requires : goal.unreachable-requires
unreachable-requires c =
    let id : IsId c.as_bytes.result.now = subst IsId (sym c.as_bytes.ensures.value) c.as_bytes.ensures.valid in
    c.in-Err.ensures.cases.0 (IsUtf8-from_ascii c.as_bytes.result.now (IsId-IsAscii c.as_bytes.result.now id.2))
