use Rattle.std.proofs.Common.{rules, ◌≡◌, ◌<◌, ◌∙◌, sym, subst, true, Bool, List, [], ℕ, length}
use Rattle.std.specs.Prelude.{slice_index_or}
use Rattle.std.proofs.lemmas.Option.{slice_get-get_or}
use Rattle.journalled_node.specs.Starts.{AddsPayload, FindsRoom}
use Rattle.journalled_node.proofs.Payloads.{node_more, finds_room}
use Rattle.journalled_node.proofs.loading.add_payloads.Goals as goal

-- the payload that is found at a place of a list, whatever is answered where there is none
payload_at : (payloads : List (List ℕ)) (i : ℕ) (found : List ℕ) → i < length payloads → (payload : List ℕ) → payload ≡ slice_index_or payloads i found
    → payload ≡ slice_index_or payloads i []
payload_at payloads i found within payload is =
    let one = slice_get-get_or payloads i found within in
    let other = slice_get-get_or payloads i [] within in
    let same : slice_index_or payloads i found ≡ slice_index_or payloads i [] = cc in
    is ∙ same

pub loop-i-preserved : goal.loop-i-preserved
loop-i-preserved c =
    let old = c.loop-i.node in
    let new = c.add_payload.new.node in
    let within : c.loop-i.i < length c.args.payloads.now = c.loop-i-test.true in
    let payload = payload_at c.args.payloads.now c.loop-i.i c.index-payloads-i.result within c.as_slice.result.now (c.as_slice.ensures ∙ c.index-payloads-i.is) in
    let yes : c.in_ok-add_payload.field-0 ≡ true = search rules in
    node_more c.args.node.now.fleet c.args.node.now.me c.args.payloads.now c.loop-i.i old new within c.loop-i.invariant
    (subst (λ (p : List ℕ). AddsPayload p old new true) payload
    (subst (λ (b : Bool). AddsPayload c.as_slice.result.now old new b) yes c.in_ok-add_payload.ensures.ok))

pub add_payload-requires : goal.add_payload-requires
add_payload-requires c =
    let within : c.loop-i.i < length c.args.payloads.now = c.loop-i-test.true in
    let payload = payload_at c.args.payloads.now c.loop-i.i c.index-payloads-i.result within c.as_slice.result.now (c.as_slice.ensures ∙ c.index-payloads-i.is) in
    subst (λ (p : List ℕ). FindsRoom p c.loop-i.node) (sym payload)
    (finds_room c.args.node.now.fleet c.args.node.now.me c.args.payloads.now c.loop-i.i c.loop-i.node c.requires.small within c.loop-i.invariant)
