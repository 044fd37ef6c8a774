use Rattle.std.proofs.Common.{◌∙◌, lit<, sym, rules}
use Rattle.std.proofs.lemmas.Str.Pattern.{strip_suffix_char}
use Rattle.yaml_words.proofs.SpaceLemmas.{trimmed-space, trimmed-same}
use Rattle.yaml_words.proofs.spaces.trimmed.Goals as goal

pub loop-rest-preserved : goal.loop-rest-preserved
loop-rest-preserved c =
    let cut = rw c.in-Some.is at (strip_suffix_char 32 c.loop-rest.left.now c.strip_suffix.result c.strip_suffix.ensures.cases (lit< tt)) in
    (search rules, c.loop-rest.invariant.1 ∙ trimmed-space c.loop-rest.left.now c.in-Some.rest.now cut)

pub returns : goal.returns
returns c =
    let none = rw c.in_default.is at (strip_suffix_char 32 c.loop-rest.left.now c.strip_suffix.result c.strip_suffix.ensures.cases (lit< tt)) in
    sym (c.loop-rest.invariant.1 ∙ trimmed-same c.loop-rest.left.now none)
