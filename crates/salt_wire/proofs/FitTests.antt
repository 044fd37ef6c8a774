-- The test of the limits and the limits.
use Rattle.std.proofs.Common.{◌≡◌, Bool, true, false, ◌&&◌, length, refl, sym}
use Rattle.std.specs.Prelude.{IsTrue, ◌↔◌, nat_le}
use Rattle.std.proofs.lemmas.Bool.{le-leb, leb-true}
use Rattle.target_tree.specs.declared.target.Target.{Target}
use Rattle.salt_wire.specs.Spelling.{tree_bytes}
use Rattle.salt_wire.specs.Limits.{TreeFits, nodes, pattern_count, right}
use Rattle.salt_wire.specs.FitTest.{tree_fits}
use Rattle.salt_wire.proofs.WriteLemmas.{both_true}

pub both : (a b : Bool) → a ≡ true → b ≡ true → (a && b) ≡ true
both true b p q = q
both false b p q = absurd cc

fits_is : (t : Target) → TreeFits t → tree_fits t ≡ true
fits_is t h = both _ _ (le-leb _ _ h.few_nodes) (both _ _ (le-leb _ _ h.few_patterns) (both _ _ (le-leb _ _ h.long) h.right_leaves))

is_fit : (t : Target) → tree_fits t ≡ true → TreeFits t
is_fit t e =
    let a = both_true (nat_le (nodes t) 256) _ e in
    let b = both_true (nat_le (pattern_count t) 16) _ a.1 in
    let c = both_true (nat_le (length (tree_bytes t)) 65536) (right t) b.1 in
    record { few_nodes = leb-true _ _ a.0; few_patterns = leb-true _ _ b.0; long = leb-true _ _ c.0; right_leaves = c.1 }

-- what a test that tells the limits answers
pub fits_by : (t : Target) (answer : Bool) → IsTrue answer ↔ TreeFits t → answer ≡ tree_fits t
fits_by t true h = sym (fits_is t (h.0 refl))
fits_by t false h = by (tree_fits t) refl where
  by : (b : Bool) → tree_fits t ≡ b → false ≡ tree_fits t
  by true q = absurd (let x : false ≡ true = h.1 (is_fit t q) in cc)
  by false q = sym q
