use Rattle.std.proofs.Common.{◌∙◌, lit<, sym}
use Rattle.std.proofs.lemmas.Str.Pattern.{strip_prefix_char}
use Rattle.yaml_words.proofs.SpaceLemmas.{unindented-same}
use Rattle.yaml_words.proofs.spaces.unindented.Goals as goal

pub returns-clause-value : goal.returns-clause-value
returns-clause-value c =
    let none = rw c.in_default.is at (strip_prefix_char 32 c.loop-rest.left.now c.strip_prefix.result c.strip_prefix.ensures.cases (lit< tt)) in
    sym (c.loop-rest.invariant.2 ∙ unindented-same c.loop-rest.left.now none)
