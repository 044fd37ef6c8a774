-- What `==` tells of a line and a word.
use Rattle.std.proofs.Common.{◌≡◌, Bool, true, false, ℕ, List, sym, ◌∙◌}
use Rattle.std.proofs.lemmas.Slice.Eq.{slice_eq-Decides}
use Rattle.std.proofs.lemmas.Bool.Decides.{Decides-eqb}
use lib.Pointwise.{pointwise}
use lib.Dec.{eqb}

not_both : (b : Bool) → b ≡ false → b ≡ true → ⊥
not_both b e f = cc

pub is_word : (line slice word : List ℕ) (r : Bool) → r ≡ pointwise eqb line slice → slice ≡ word → r ≡ true → line ≡ word
is_word line slice word r e w t = (slice_eq-Decides Decides-eqb line slice r e).0 t ∙ w

pub is_other : (line slice word : List ℕ) (r : Bool) → r ≡ pointwise eqb line slice → slice ≡ word → r ≡ false → line ≡ word → ⊥
is_other line slice word r e w f h = not_both r f ((slice_eq-Decides Decides-eqb line slice r e).1 (h ∙ sym w))
