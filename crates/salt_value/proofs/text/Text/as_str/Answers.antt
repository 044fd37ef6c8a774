use Rattle.std.proofs.Common.{◌≡◌, true, subst}
use Rattle.std.specs.Str.{is_utf8}
use Rattle.std.proofs.lemmas.Str.{is_utf8-from_IsUtf8}
use Rattle.salt_value.proofs.text.Text.as_str.Goals as goal

pub returns-clause-valid : goal.returns-clause-valid
returns-clause-valid c =
    let same : c.as_str.result.now ≡ c.args.self.now = cc in
    subst (λ l. is_utf8 l ≡ true) same (is_utf8-from_IsUtf8 _ c.as_str.utf8)
