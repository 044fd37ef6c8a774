-- Nodegroups by their names.
use Rattle.std.proofs.Common.{◌≡◌, ℕ, Bool, true, false, List, [], ◌∷◌, ◌++◌, Option, None, Some, refl, sym, subst, bytes_eq}
use Rattle.std.specs.Prelude.{cond}
use Rattle.std.proofs.lemmas.Slice.Eq.{bytes_eq-Decides}
use Rattle.salt_value.specs.Id.{IsId}
use Rattle.target_tree.specs.Nodegroups.{Group, HaveIds, text_named}

passed-over : (group : Group) (name : List ℕ) (rest : Option (List ℕ)) → IsId group.0 → (IsId name → ⊥) → rest ≡ None → (b : Bool) → bytes_eq name group.0 ≡ b → cond b (Some group.1) rest ≡ None
passed-over group name rest id bad later true e = absurd (bad (subst (λ (n : List ℕ). IsId n) (sym ((bytes_eq-Decides name group.0).0 e)) id))
passed-over group name rest id bad later false e = later

-- what is no id names no nodegroup
pub not-named : (groups : List Group) (name : List ℕ) → HaveIds groups → (IsId name → ⊥) → text_named groups name ≡ None
not-named [] name ids bad = refl
not-named (group ∷ groups) name ids bad = passed-over group name (text_named groups name) ids.0 bad (not-named groups name ids.1 bad) (bytes_eq name group.0) refl

-- one more keeps the names ids
pub ids-more : (groups : List Group) (name text : List ℕ) → HaveIds groups → IsId name → HaveIds (groups ++ (name, text) ∷ [])
ids-more [] name text ids id = (id, tt)
ids-more (group ∷ groups) name text ids id = (ids.0, ids-more groups name text ids.1 id)
