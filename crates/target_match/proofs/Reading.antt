-- From what `Regex::new` and `find` ensure to this crate's own words.
use Rattle.std.proofs.Common.{◌≡◌, ◌≢◌, ◌⊎◌, ℕ, ◌<◌, ◌≤◌, List, length, get_or, Option, None, Some, IsSomeAnd, IfSome, option_map, ap, sym, inl, inr, arith, true, false, refl, ◌==◌}
use Rattle.std.proofs.lemmas.Option.{none-some, same_Some}
use Rattle.regex_syntax.specs.Brackets.{Nested}
use Rattle.regex_syntax.specs.Grammar.{Names, group_count}
use Rattle.regex_syntax.specs.Verdict.{Reads, Refuses, default_config}
use Rattle.regex_syntax.specs.Captures.{SameCaptures}
use Rattle.regex_syntax.specs.declared.error.ErrorKind.{ErrorKind}
use Rattle.regex_syntax.specs.declared.error.ErrorKind.TheVariants.{OutOfMemory, NestLimitExceeded}
use Rattle.regex.specs.Failures.{IsPattern}
use Rattle.regex.specs.Patterns.{Re, Match, find_str, span}
use Rattle.regex.specs.Strings.{regex_pattern, regex_source, regex_names}
use Rattle.regex.specs.declared.string.regex.Regex.{Regex}
use Rattle.regex.proofs.ForCallers.{span_alike}
use Rattle.target_match.specs.Patterns.{IsReadable, IsCompiled, begins, starts, starts_by}

Read : Type 0
Read = Option (Nested Re × Names)

abbrev IsReadAsTree : ℕ → Re → Names → Option (Nested Re × Names) → Type 0
IsReadAsTree most a names o = IsSomeAnd o (λ (re, found). (re.depth ≤ most) × SameCaptures a re.value × (names ≡ found) × (group_count a ≤ length names))

reads : (r : Regex) → IsCompiled r → Reads default_config (regex_source r) (r.pattern.program.hir) (regex_names r)
reads r c = rw (c.0) at c.1

within : (o : Option (Nested Re × Names)) (most : ℕ) (a : Re) (names : Names) → IsReadAsTree most a names o → IsSomeAnd o (λ (re, _). re.depth ≤ most)
within None most a names p = absurd p
within (Some x) most a names p = p.0

pub readable : (r : Regex) → IsCompiled r → IsReadable (regex_source r)
unfolding Reads
readable r c = within _ _ _ _ (reads r c)

not_within : (o : Option (Nested Re × Names)) (most : ℕ) (kind : ErrorKind) →
    (kind ≡ OutOfMemory) ⊎ ((o ≡ None) ⊎ ((kind ≡ NestLimitExceeded) × IfSome o (λ (re, _). most < re.depth))) →
    kind ≢ OutOfMemory → IsSomeAnd o (λ (re, _). re.depth ≤ most) → ⊥
not_within None most kind r ne p = absurd p
not_within (Some x) most kind r ne p = elim r [
  | inl e ↦ ne e
  | inr q ↦ elim q [ inl e ↦ none-some _ (sym e) | inr h ↦ absurd (omega (arith, h.1, p)) ]
]

pub refused : (p : List ℕ) (kind : ErrorKind) → Refuses default_config p kind → kind ≢ OutOfMemory → IsReadable p → ⊥
unfolding Refuses
refused p kind r ne = not_within _ _ kind r ne

pub too_big : (p : List ℕ) → IsPattern default_config p → IsReadable p
unfolding Reads
too_big p h = within _ _ _ _ h.2

begins_alike : (o q : Option Match) → option_map span o ≡ option_map span q → begins o ≡ begins q
begins_alike None None e = refl
begins_alike None (Some y) e = absurd (none-some _ e)
begins_alike (Some x) None e = absurd (none-some _ (sym e))
begins_alike (Some x) (Some y) e = ap (λ (n : ℕ). n == 0) (ap (λ (s : ℕ × ℕ). s.0) (same_Some _ _ e))

alike : (o : Option (Nested Re × Names)) (most : ℕ) (a : Re) (names : Names) (hay : List ℕ) → ((k : ℕ) → get_or hay k 0 < 256) → IsReadAsTree most a names o →
    begins (find_str a hay 0) ≡ starts_by o hay
alike None most a names hay bytes p = absurd p
alike (Some (re, found)) most a names hay bytes p = begins_alike _ _ (span_alike p.1 hay bytes true 0)

pub starts_as : (r : Regex) → IsCompiled r → (hay : List ℕ) → ((k : ℕ) → get_or hay k 0 < 256) → begins (find_str (regex_pattern r) hay 0) ≡ starts (regex_source r) hay
unfolding Reads
starts_as r c hay bytes = alike _ _ _ _ hay bytes (reads r c)

pub begins_at : (o : Option Match) (p : ℕ × ℕ) → Some p ≡ option_map span o → (p.0 == 0) ≡ begins o
begins_at None p e = absurd (none-some _ (sym e))
begins_at (Some m) p e = ap (λ (n : ℕ). n == 0) (ap (λ (s : ℕ × ℕ). s.0) (same_Some _ _ e))

pub begins_nowhere : (o : Option Match) → None ≡ option_map span o → false ≡ begins o
begins_nowhere None e = refl
begins_nowhere (Some m) e = absurd (none-some _ e)
