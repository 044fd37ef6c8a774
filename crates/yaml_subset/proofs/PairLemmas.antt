-- The key that a pair adds to those before it.
use Rattle.std.proofs.Common.{◌≡◌, ℕ, Bool, true, false, not, cond, List, [], ◌∷◌, ◌++◌, refl, sym, ap, ◌∙◌}
use Rattle.std.specs.Prelude.{Result, Ok, Err, IfOk, ◌==◌}
use Rattle.salt_value.specs.Readers.{◌>>=◌}
use Rattle.yaml_words.specs.declared.fault.YamlFault.{YamlFault}
use Rattle.yaml_words.specs.declared.fault.YamlCause.TheVariants.{TooDeep}
use Rattle.yaml_words.specs.Keys.{split_key}
use Rattle.yaml_words.specs.Faults.{GivesYaml, refused}
use Rattle.yaml_subset.specs.declared.tree.Yaml.{Yaml}
use Rattle.yaml_subset.specs.declared.tree.YamlPair.{YamlPair}
use Rattle.yaml_subset.specs.Keys.{has_key, with_key}
use Rattle.yaml_subset.specs.Rows.{Entry}
use Rattle.yaml_subset.specs.Blocks.{BlockReader, pair_under, pair_value, after_key}

abbrev made : ℕ → List ℕ → Yaml → YamlPair
made line key value = record { line = line; key = key; value = value }

abbrev paired : ℕ → List ℕ → Yaml → Result YamlPair YamlFault
paired line key value = Ok (made line key value)

made_key : (x : Result Yaml YamlFault) (line : ℕ) (key : List ℕ) (pair : YamlPair) → (x >>= paired line key) ≡ Ok pair → pair.key ≡ key
made_key (Ok v) line key pair e = let s : made line key v ≡ pair = cc in sym (ap (λ (p : YamlPair). p.key) s)
made_key (Err f) line key pair e = cc

level_key : (x : Result Yaml YamlFault) (line : ℕ) (key : List ℕ) (pair : YamlPair) (none : Bool) → cond none (refused line TooDeep) (x >>= paired line key) ≡ Ok pair → pair.key ≡ key
level_key x line key pair true e = cc
level_key x line key pair false e = made_key x line key pair e

under_key : (levels : ℕ) (deeper : BlockReader) (e : Entry) (key : List ℕ) (pair : YamlPair) → pair_under levels deeper false e key ≡ Ok pair → pair.key ≡ key
under_key levels deeper e key pair h = level_key (pair_value levels deeper e.head (after_key (split_key e.head.text)) e.own) e.head.number key pair (levels == 0) h

adds : (levels : ℕ) (deeper : BlockReader) (e : Entry) (keys : List (List ℕ)) (key : List ℕ) (pair : YamlPair) (found : Bool) → has_key keys key ≡ found
    → pair_under levels deeper (not (not found)) e key ≡ Ok pair → with_key keys key ≡ keys ++ pair.key ∷ []
adds levels deeper e keys key pair true f h = cc
adds levels deeper e keys key pair false f h = rw f (ap (λ (k : List ℕ). keys ++ k ∷ []) (sym (under_key levels deeper e key pair h)))

-- a pair that was read has its key, which is added to those before it
pub pair_adds : (levels : ℕ) (deeper : BlockReader) (e : Entry) (keys now : List (List ℕ)) (key : List ℕ) (fresh : Bool) (r : Result YamlPair YamlFault)
    → GivesYaml r (pair_under levels deeper (not fresh) e key) → fresh ≡ not (has_key keys key) → now ≡ with_key keys key → IfOk r (λ pair. now ≡ keys ++ pair.key ∷ [])
pair_adds levels deeper e keys now key fresh (Err f) g n w = tt
pair_adds levels deeper e keys now key fresh (Ok pair) g n w = w ∙ adds levels deeper e keys key pair (has_key keys key) refl (rw n at g)
