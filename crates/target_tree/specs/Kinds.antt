-- The kinds of targets, by one table.
use Rattle.std.specs.Prelude.{◌≡◌, ℕ, List as Texts, codes, Option, None, Some}
use Rattle.target_tree.specs.declared.kind.Kind.{Kind}
use Rattle.target_tree.specs.declared.kind.Kind.TheVariants.{Glob, Pcre, List, Grain, GrainPcre, Pillar, PillarPcre, Nodegroup, Compound}

-- one row of the table: the code of a kind, and its name in texts
pub record Row : Type 0 where
  pub code : ℕ
  pub name : Texts ℕ

-- the table
abbrev pub row : Kind → Row
row Glob = record { code = 1; name = codes "glob" }
row Pcre = record { code = 2; name = codes "pcre" }
row List = record { code = 3; name = codes "list" }
row Grain = record { code = 4; name = codes "grain" }
row GrainPcre = record { code = 5; name = codes "grain_pcre" }
row Pillar = record { code = 6; name = codes "pillar" }
row PillarPcre = record { code = 7; name = codes "pillar_pcre" }
row Nodegroup = record { code = 8; name = codes "nodegroup" }
row Compound = record { code = 9; name = codes "compound" }

-- the code of a kind
abbrev pub kind_code : Kind → ℕ
kind_code kind = (row kind).code

-- the name of a kind
abbrev pub name_of : Kind → Texts ℕ
name_of kind = (row kind).name

-- the one kind that is so, and None only where no kind is
abbrev pub TheKind : (Kind → Type 0) → Option Kind → Type 0
TheKind is None = (kind : Kind) → is kind → ⊥
TheKind is (Some kind) = is kind × ((other : Kind) → is other → other ≡ kind)
