use Rattle.std.proofs.Common.{◌≡◌, [], ◌∷◌, ◌++◌}
use Rattle.std.specs.Int.{w64, to_be_bytes}
use Rattle.salt_value.specs.Spelling.{bytes, text}
use Rattle.salt_value.specs.declared.value.Value.TheVariants as v
use Rattle.target_tree.specs.Kinds.{kind_code}
use Rattle.salt_wire.specs.Spelling.{tree_bytes, word}
use Rattle.salt_wire.proofs.WriteLemmas.{onto}
use Rattle.salt_wire.proofs.writing.put_job.Goals as goal

pub returns-clause-ok : goal.returns-clause-ok
returns-clause-ok c =
    let j = c.args.job.now in
    let o = c.args.out.now.items in
    let o1 = c.put_u64.new.out.items in
    let o2 = c.push.new.self.items in
    let o3 = c.put_text.new.out.items in
    let o4 = c.put_tree.new.out.items in
    let all = c.put_call.new.out.items in
    let e1 : o1 ≡ o ++ to_be_bytes w64 j.jid = rw c.micros.ensures.value at c.in_ok-put_u64.ensures.ok in
    let e2 : o2 ≡ o1 ++ kind_code j.kind ∷ [] = rw c.code.ensures at c.in_ok-push.ensures.items in
    let e3 : o3 ≡ o2 ++ text j.tgt = rw c.as_bytes.ensures at c.in_ok-put_text.ensures.ok in
    let e4 : o4 ≡ o3 ++ tree_bytes j.target = rw c.get.ensures at c.in_ok-put_tree.ensures.ok in
    let e5 : all ≡ o4 ++ (word j.fun ++ bytes (v.List j.args)) = rw c.as_slice.ensures at c.in_ok-put_call.ensures.ok in
    onto o o1 all (to_be_bytes w64 j.jid) _ e1 (onto o1 o2 all (kind_code j.kind ∷ []) _ e2 (onto o2 o3 all (text j.tgt) _ e3 (onto o3 o4 all (tree_bytes j.target) _ e4 e5)))
