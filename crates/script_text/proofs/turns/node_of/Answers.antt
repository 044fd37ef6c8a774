use Rattle.std.proofs.Common.{◌≡◌, ℕ, List, subst, sym, ◌∙◌}
use Rattle.std.specs.Prelude.{Some}
use Rattle.salt_value.specs.Id.{IsId}
use Rattle.salt_value.specs.Reading.{Decodes}
use Rattle.fleet_config.specs.Tree.{id_of}
use Rattle.script_text.specs.Fleet.{tree_by}
use Rattle.script_text.specs.Turns.{IsPlaceIn}
use Rattle.script_text.proofs.Ids.{name_of_node, found_at, not_found, same_node}
use Rattle.script_text.proofs.turns.node_of.Goals as goal

pub returns-in_default : goal.returns-in_default
returns-in_default c =
    λ x h e.
    let P : List ℕ → Type 0 = IsId in
    let no = (c.in_default.ensures {u = tt}).complete (subst P e (name_of_node c.args.ids.now.keys x c.requires h)) in
    cc

pub returns-in-Some : goal.returns-in-Some
returns-in-Some c =
    let at = found_at c.args.ids.now.keys c.in-Ok.id c.in-Some.place (sym (c.in-Some.ensures {u = tt}).index) in
    let is : c.in-Ok.id ≡ c.args.word.now = (c.in-Ok.ensures {u = tt}).ok.0 in
    let t = tree_by c.args.ids.now.keys in
    let found : Decodes (IsPlaceIn t) (id_of t) c.args.word.now (Some c.in-Some.place) =
    (at.0, at.1 ∙ is, λ y h e. same_node c.args.ids.now.keys y c.in-Some.place c.requires h at.0 (e ∙ sym (at.1 ∙ is))) in
    subst (λ (n : ℕ). Decodes (IsPlaceIn t) (id_of t) c.args.word.now (Some n)) (sym c.new.ensures) found

pub returns-in-None : goal.returns-in-None
returns-in-None c =
    λ x h e.
    not_found c.args.ids.now.keys c.in-Ok.id x (sym (c.in-None.ensures {u = tt}).index) h (e ∙ sym (c.in-Ok.ensures {u = tt}).ok.0)
