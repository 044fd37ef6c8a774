-- The target that a ready tree stands for.
use Rattle.target_tree.specs.declared.target.Target.{Target}
use Rattle.target_tree.specs.declared.target.Target.TheVariants.{IdGlob, IdPcre, IdList, GrainGlob, GrainPcre, PillarGlob, PillarPcre, Not, And, Or}
use Rattle.std.specs.Prelude.{ℕ, List, Option}
use Rattle.target_match.specs.declared.ready.Ready.{Ready, fold-Ready}
use Rattle.target_match.specs.declared.ready.Ready.TheOpen.{Ready-F}
use Rattle.target_match.specs.Holds.{patterns}

-- a leaf as its text, an operator over its operands
abbrev pub target_layer : Ready-F Target → Target
target_layer (Ready-F.IdGlob text) = IdGlob text
target_layer (Ready-F.IdPcre text) = IdPcre text
target_layer (Ready-F.IdList ids) = IdList ids
target_layer (Ready-F.GrainGlob text) = GrainGlob text
target_layer (Ready-F.GrainPcre text) = GrainPcre text
target_layer (Ready-F.PillarGlob text) = PillarGlob text
target_layer (Ready-F.PillarPcre text) = PillarPcre text
target_layer (Ready-F.Not one) = Not one
target_layer (Ready-F.And left right) = And left right
target_layer (Ready-F.Or left right) = Or left right

-- the same tree, with the texts of its leaves
abbrev pub target_of : Ready → Target
target_of = fold-Ready Target target_layer

-- The patterns of its leaves. No public contract cites it.
abbrev pub ready_patterns : Ready → List (Option (List ℕ))
ready_patterns tree = patterns (target_of tree)
