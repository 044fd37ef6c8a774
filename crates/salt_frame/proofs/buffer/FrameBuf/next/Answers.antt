use Rattle.std.proofs.Common.{◌≡◌, ◌+◌, ◌++◌, length, drop, refl, sym, ap, ◌∙◌, subst, arith}
use Rattle.std.proofs.lemmas.List.{length-drop}
use Rattle.salt_frame.specs.Frames.{length_at, frame, IsBody}
use Rattle.salt_frame.proofs.FrontLemmas.{at_start, seen, body_seen, rest_at, others_at}
use Rattle.salt_frame.proofs.HoldLemmas.{taken}
use Rattle.salt_frame.proofs.buffer.FrameBuf.next.Goals as goal

pub length_of-requires : goal.length_of-requires
length_of-requires c =
    let a = c.self.inside in
    let f = at_start a.start a.ready a.bytes.items c.self.invariant.ordered c.if-self.false c.self.invariant.within c.self.invariant.frames in
    let s = ap length (seen a.start c.deref.result.now a.bytes.items c.deref.ensures.value) in
    omega (arith, s, f.1.inside, length-drop a.start a.bytes.items, c.self.invariant.within, c.self.invariant.ordered)

pub overflow_add-to : goal.overflow_add-to
overflow_add-to c =
    let a = c.self.inside in
    let f = at_start a.start a.ready a.bytes.items c.self.invariant.ordered c.if-self.false c.self.invariant.within c.self.invariant.frames in
    let n : c.length_of.result ≡ length f.0 = c.length_of.ensures ∙ ap length_at (seen a.start c.deref.result.now a.bytes.items c.deref.ensures.value) ∙ f.1.told in
    omega (arith, n, f.1.inside, c.self.invariant.within, c.self.invariant.ordered, a.bytes.ok.0, a.bytes.ok.1, a.bytes.small, c.self.ranges)

pub invariant_of-self-2 : goal.invariant_of-self-2
invariant_of-self-2 c =
    let a = c.self.inside in
    let f = at_start a.start a.ready a.bytes.items c.self.invariant.ordered c.if-self.false c.self.invariant.within c.self.invariant.frames in
    let n : c.length_of.result ≡ length f.0 = c.length_of.ensures ∙ ap length_at (seen a.start c.deref.result.now a.bytes.items c.deref.ensures.value) ∙ f.1.told in
    record {
      ordered = omega (arith, n, f.1.inside, c.self.invariant.ordered);
      within = c.self.invariant.within;
      frames = others_at a.start a.ready c.length_of.result a.bytes.items f.0 n f.1.others;
      tail = c.self.invariant.tail;
    }

pub slice_bounds-result-end : goal.slice_bounds-result-end
slice_bounds-result-end c =
    let a = c.self.inside in
    let f = at_start a.start a.ready a.bytes.items c.self.invariant.ordered c.if-self.false c.self.invariant.within c.self.invariant.frames in
    let n : c.length_of.result ≡ length f.0 = c.length_of.ensures ∙ ap length_at (seen a.start c.deref.result.now a.bytes.items c.deref.ensures.value) ∙ f.1.told in
    omega (arith, n, f.1.inside, c.self.invariant.within, c.self.invariant.ordered, ap length c.deref-2.ensures.value)

pub returns : goal.returns
returns c =
    let a = c.self.inside in
    let f = at_start a.start a.ready a.bytes.items c.self.invariant.ordered c.if-self.false c.self.invariant.within c.self.invariant.frames in
    let n : c.length_of.result ≡ length f.0 = c.length_of.ensures ∙ ap length_at (seen a.start c.deref.result.now a.bytes.items c.deref.ensures.value) ∙ f.1.told in
    let x = body_seen a.start c.length_of.result c.deref-2.result.now a.bytes.items f.0 c.deref-2.ensures.value n f.1.is in
    let whole : drop a.start a.bytes.items ≡ frame f.0 ++ drop (a.start + 4 + c.length_of.result) a.bytes.items = f.1.whole ∙ ap (λ l. frame f.0 ++ l) (rest_at a.start c.length_of.result a.bytes.items f.0 n) in
    let kept = ap (λ h. h.kept) (sym c.self.view_is) ∙ whole ∙ ap (λ b. frame b ++ drop (a.start + 4 + c.length_of.result) a.bytes.items) (sym x) in
    let t = taken c.args.self.now _ (drop (a.start + 4 + c.length_of.result) a.bytes.items) a.over (subst IsBody (sym x) f.1.fits) kept (ap (λ h. h.over) c.self.view_is) in
    ((refl, λ _. tt, t), record { after = tt })
