use Rattle.std.proofs.Common.{List, ℕ, ◌∙◌, sym, ap, cond, Some, Option, bytes_eq}
use Rattle.std.proofs.lemmas.Option.{slice_get-get_or}
use Rattle.master_core.proofs.Places.{place_more}
use Rattle.master_core.proofs.master.index.Goals as goal

pub loop-i-preserved : goal.loop-i-preserved
loop-i-preserved c = λ id.
    c.in-Ok.ensures.updates.0 id
    ∙ ap (λ (o : Option ℕ). cond (bytes_eq c.index-ids-i.result id) (Some c.loop-i.i) o) (c.loop-i.invariant id)
    ∙ sym (place_more c.args.ids.now c.loop-i.i id c.index-ids-i.result (slice_get-get_or c.args.ids.now c.loop-i.i c.index-ids-i.result c.loop-i-test.true ∙ ap (λ (x : List ℕ). Some x) (sym c.index-ids-i.is)) c.requires.distinct)
