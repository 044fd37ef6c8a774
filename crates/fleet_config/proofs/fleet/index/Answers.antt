use Rattle.std.proofs.Common.{◌∙◌, sym, ap, cond, Some, bytes_eq, Option, ℕ}
use Rattle.indexmap.specs.IndexMap.{get}
use Rattle.std.proofs.lemmas.Option.{slice_get-get_or}
use Rattle.fleet_config.specs.declared.fleet.Member.{Member}
use Rattle.fleet_config.proofs.Places.{place_more}
use Rattle.fleet_config.proofs.fleet.index.Goals as goal

pub loop-i-preserved : goal.loop-i-preserved
loop-i-preserved c = λ id.
    c.in-Ok.ensures.updates.0 id
    ∙ ap (λ (n : ℕ). cond (bytes_eq c.index-members-i.result.id id) (Some n) (get bytes_eq c.loop-i.places id)) c.new.ensures
    ∙ ap (λ (o : Option ℕ). cond (bytes_eq c.index-members-i.result.id id) (Some c.loop-i.i) o) (c.loop-i.invariant id)
    ∙ sym (place_more c.args.members.now c.loop-i.i id c.index-members-i.result (slice_get-get_or c.args.members.now c.loop-i.i c.index-members-i.result c.loop-i-test.true ∙ ap (λ (m : Member). Some m) (sym c.index-members-i.is)) c.requires.distinct)
