use Rattle.std.proofs.Common.{sym, ap, ◌∙◌}
use Rattle.std.specs.Prelude.{Some, bytes_eq}
use Rattle.std.specs.List.{list_any}
use Rattle.salt_glob.specs.Globs.{glob}
use Rattle.target_match.specs.ById as spec
use Rattle.target_match.specs.Holds.{decision_by_id}
use Rattle.target_match.specs.Ready.{target_of}
use Rattle.target_match.proofs.Readied as R
use Rattle.target_match.proofs.ids.+by_id.Goals as goal

pub returns-in-Not : goal.returns-in-Not
returns-in-Not t c = λ grains pillar.
    let id = c.args.id.now in
    let one = c.by_id.ensures grains pillar ∙ ap (λ x. decision_by_id (target_of x) id grains pillar) c.get.ensures in
    c.not.ensures ∙ ap spec.negation one ∙ sym (R.decided-Not c.in-Not.one id grains pillar) ∙ ap (λ x. decision_by_id (target_of x) id grains pillar) (sym c.in-Not.is)

pub returns-in-And : goal.returns-in-And
returns-in-And t c = λ grains pillar.
    let id = c.args.id.now in
    let left = c.by_id-in-And.ensures grains pillar ∙ ap (λ x. decision_by_id (target_of x) id grains pillar) c.get-in-And.ensures in
    let right = c.by_id-in-And-2.ensures grains pillar ∙ ap (λ x. decision_by_id (target_of x) id grains pillar) c.get-in-And-2.ensures in
    c.both.ensures ∙ ap (λ x. spec.both x c.by_id-in-And-2.result) left ∙ ap (spec.both (decision_by_id (target_of c.in-And.left) id grains pillar)) right
    ∙ sym (R.decided-And c.in-And.left c.in-And.right id grains pillar) ∙ ap (λ x. decision_by_id (target_of x) id grains pillar) (sym c.in-And.is)

pub returns-in-Or : goal.returns-in-Or
returns-in-Or t c = λ grains pillar.
    let id = c.args.id.now in
    let left = c.by_id-in-Or.ensures grains pillar ∙ ap (λ x. decision_by_id (target_of x) id grains pillar) c.get-in-Or.ensures in
    let right = c.by_id-in-Or-2.ensures grains pillar ∙ ap (λ x. decision_by_id (target_of x) id grains pillar) c.get-in-Or-2.ensures in
    c.either.ensures ∙ ap (λ x. spec.either x c.by_id-in-Or-2.result) left ∙ ap (spec.either (decision_by_id (target_of c.in-Or.left) id grains pillar)) right
    ∙ sym (R.decided-Or c.in-Or.left c.in-Or.right id grains pillar) ∙ ap (λ x. decision_by_id (target_of x) id grains pillar) (sym c.in-Or.is)

pub returns-in-IdGlob : goal.returns-in-IdGlob
returns-in-IdGlob t c = λ grains pillar.
    let id = c.args.id.now in
    ap (λ b. Some b) (c.glob.ensures.exact ∙ ap (λ x. glob x id) c.as_bytes.ensures) ∙ sym (R.decided-IdGlob c.in-IdGlob.text id grains pillar)
    ∙ ap (λ x. decision_by_id (target_of x) id grains pillar) (sym c.in-IdGlob.is)

pub returns-in-IdList : goal.returns-in-IdList
returns-in-IdList t c = λ grains pillar.
    let id = c.args.id.now in
    ap (λ b. Some b) (c.contains.ensures ∙ ap (list_any (λ other. bytes_eq other id)) c.as_slice.ensures) ∙ sym (R.decided-IdList c.in-IdList.ids id grains pillar)
    ∙ ap (λ x. decision_by_id (target_of x) id grains pillar) (sym c.in-IdList.is)

pub returns-in-IdPcre : goal.returns-in-IdPcre
returns-in-IdPcre t c = R.undecided c.args.tree.now c.args.id.now c.in-IdPcre.is

pub returns-in-IdPcre-2 : goal.returns-in-IdPcre-2
returns-in-IdPcre-2 t c = R.undecided c.args.tree.now c.args.id.now c.in-IdPcre.is

pub returns-in-IdPcre-3 : goal.returns-in-IdPcre-3
returns-in-IdPcre-3 t c = R.undecided c.args.tree.now c.args.id.now c.in-IdPcre.is

pub returns-in-IdPcre-4 : goal.returns-in-IdPcre-4
returns-in-IdPcre-4 t c = R.undecided c.args.tree.now c.args.id.now c.in-IdPcre.is

pub returns-in-IdPcre-5 : goal.returns-in-IdPcre-5
returns-in-IdPcre-5 t c = R.undecided c.args.tree.now c.args.id.now c.in-IdPcre.is
