use Rattle.std.proofs.Common.{refl}
use Rattle.yaml_words.proofs.WrittenTexts.{text_node, key_text, key_splits}
use Rattle.yaml_words.proofs.WrittenNumbers.{number_node}
use Rattle.yaml_words.proofs.laws.written_is_read_back.Goals as goal

pub returns : goal.returns
returns c = record {
  scalars = record {
    text = text_node;
    number = number_node;
    null = λ levels line. refl;
    yes = λ levels line. refl;
    no = λ levels line. refl;
  };
  keys = record { parts = key_splits; text = key_text };
}
