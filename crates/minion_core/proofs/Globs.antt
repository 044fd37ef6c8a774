-- A target that is one glob of ids.
use Rattle.std.proofs.Common.{◌≡◌, ℕ, Bool, List, [], ◌∷◌, Option, None, Some, refl, sym, ap, ◌∙◌}
use Rattle.salt_glob.specs.Globs.{glob}
use Rattle.target_tree.specs.declared.target.Target.{Target, fold-roll-Target}
use Rattle.target_tree.specs.declared.target.Target.TheVariants.{IdGlob, rolls-IdGlob}
use Rattle.target_tree.specs.declared.target.Target.TheOpen.{Target-F}
use Rattle.target_match.specs.Holds.{Data, holds, holds_layer, patterns, patterns_layer}
use Rattle.target_match.specs.Readability.{first_unread, unread_leaf}
use Rattle.salt_wire.specs.declared.message.Job.{Job}
use Rattle.minion_core.specs.Flat.{does_hold}
use Rattle.minion_core.specs.Globs.{IsAnswerById}

glob_holds : (text id : List ℕ) (grains pillar : Data) → holds (IdGlob text) id grains pillar ≡ glob text id
glob_holds text id grains pillar =
    ap (λ t. holds t id grains pillar) (sym (rolls-IdGlob text)) ∙ fold-roll-Target Bool (holds_layer id grains pillar) (Target-F.IdGlob text)

glob_patterns : (text : List ℕ) → patterns (IdGlob text) ≡ None ∷ []
glob_patterns text = ap patterns (sym (rolls-IdGlob text)) ∙ fold-roll-Target (List (Option (List ℕ))) patterns_layer (Target-F.IdGlob text)

none_unread : (target : Target) → patterns target ≡ None ∷ [] → unread_leaf target ≡ None
unfolding unread_leaf
none_unread target e = ap first_unread e

answer_is : (job : Job) (id text : List ℕ) → job.target ≡ IdGlob text → (held : _) → glob text id ≡ does_hold job id held
unfolding does_hold
answer_is job id text e held = sym (ap (λ t. holds t id held.grains held.pillar) e ∙ glob_holds text id held.grains held.pillar)

pub glob_answer : (job : Job) (id text : List ℕ) → job.target ≡ IdGlob text → IsAnswerById job id (glob text id)
glob_answer job id text e = record {
  is = answer_is job id text e;
  readable = none_unread job.target (ap patterns e ∙ glob_patterns text);
}
