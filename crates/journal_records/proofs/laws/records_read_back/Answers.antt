use Rattle.std.proofs.Common.{sym, ap, ◌∙◌}
use Rattle.salt_wire.proofs.Codec.{ok_is}
use Rattle.journal_records.specs.Decoding.{whole_record}
use Rattle.journal_records.proofs.laws.records_read_back.Goals as goal

pub returns : goal.returns
returns c = record {
  unique = λ one other h k same. ok_is one other (sym (c.readers_read_back.ensures.written one h) ∙ ap whole_record same ∙ c.readers_read_back.ensures.written other k);
}
