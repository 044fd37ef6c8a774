use Rattle.std.proofs.Common.{ap, ◌∙◌, Some, option_map}
use Rattle.salt_value.specs.Keys.{last_key}
use Rattle.salt_value.proofs.KeyLemmas.{last_key-get}
use Rattle.salt_value.proofs.fields.Pairs.last_key.Goals as goal

pub returns-in-Some : goal.returns-in-Some
returns-in-Some g c = ap Some c.as_bytes.ensures ∙ ap (option_map (λ q. q.0)) c.in-Some.ensures.value ∙ last_key-get c.deref.result.now ∙ ap last_key (c.deref.ensures.value ∙ c.self.view_is)
