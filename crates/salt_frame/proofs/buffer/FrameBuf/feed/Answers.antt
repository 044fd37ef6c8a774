use Rattle.std.proofs.Common.{◌≡◌, ◌≤◌, ◌+◌, ◌-◌, ◌++◌, inl, inr, ℕ, List, length, take, drop, Some, None, Err, sym, ap, subst, ◌∙◌, arith}
use Rattle.std.proofs.lemmas.List.{length-take}
use Rattle.salt_frame.specs.declared.fault.FeedFault.TheVariants as faults
use Rattle.salt_frame.specs.Buffer.{BufferState}
use Rattle.salt_frame.specs.BufferFields.{AreFrames, IsTail}
use Rattle.salt_frame.proofs.FeedLemmas.{fed, ok_of, over_of, partial_of, over_room, cut_ready, cut_last, over_held, partial_held, only_over, same_over, no_over}
use Rattle.salt_frame.proofs.HoldLemmas.{again, added}
use Rattle.salt_frame.proofs.buffer.FrameBuf.feed.Goals as goal

pub invariant_of-self-in-Some-over : goal.invariant_of-self-in-Some-over
invariant_of-self-in-Some-over c =
    let a = c.self-2.inside in
    let v = c.self-2.invariant in
    let w = c.scan-ready.result.0 in
    let d = c.extend_from_slice.new.self.items in
    let f = fed a.start a.ready w c.scan-ready.result.1 a.bytes.items c.args.piece.now d c.deref.result.now _ c.extend_from_slice.ensures.items (ok_of c.extend_from_slice.result (sym c.is_err.ensures.value ∙ c.if-is_err.false)) c.deref.ensures.value v.ordered v.within v.frames c.scan-ready.ensures.within c.scan-ready.ensures.frames c.scan-ready.ensures.last in
    let o = over_of w c.in-Some-over.length c.scan-ready.result.1 d c.in-Some-over.is f.last in
    let room = over_room w c.in-Some-over.length d f.within o in
    let le : a.start ≤ w = omega (arith, f.ordered, f.next) in
    record {
      ordered = le;
      within = omega (arith, ap length c.truncate.ensures.items, length-take (w + 4) d, room);
      frames = subst (λ (l : List ℕ). AreFrames (take (w - a.start) (drop a.start l))) (sym c.truncate.ensures.items) (cut_ready a.start w c.in-Some-over.length d le f.within o f.ready);
      tail = subst (λ (l : List ℕ). IsTail (Some c.in-Some-over.length) (drop w l)) (sym c.truncate.ensures.items) (cut_last w c.in-Some-over.length d f.within o);
    }

pub returns-in-Some-over-clause-too_large : goal.returns-in-Some-over-clause-too_large
returns-in-Some-over-clause-too_large c = λ n h none.
    let a = c.self-2.inside in
    let v = c.self-2.invariant in
    let w = c.scan-ready.result.0 in
    let d = c.extend_from_slice.new.self.items in
    let f = fed a.start a.ready w c.scan-ready.result.1 a.bytes.items c.args.piece.now d c.deref.result.now _ c.extend_from_slice.ensures.items (ok_of c.extend_from_slice.result (sym c.is_err.ensures.value ∙ c.if-is_err.false)) c.deref.ensures.value v.ordered v.within v.frames c.scan-ready.ensures.within c.scan-ready.ensures.frames c.scan-ready.ensures.last in
    let same : record { kept = drop a.start a.bytes.items; over = a.over } ≡ c.args.self.now = c.self-2.view_is ∙ c.compact.ensures in
    let kept : drop a.start a.bytes.items ≡ c.args.self.now.kept = ap (λ (h : BufferState). h.kept) same in
    let m : c.in-Some-over.length ≡ n = cc in
    (ap (λ (k : ℕ). Some k) m, over_held a.start a.ready w c.in-Some-over.length c.scan-ready.result.1 a.bytes.items c.args.piece.now d c.truncate.new.self.items c.args.self.now.kept f c.in-Some-over.is kept c.truncate.ensures.items)

pub returns-in-Some-over-clause-complete : goal.returns-in-Some-over-clause-complete
returns-in-Some-over-clause-complete c = λ n none has.
    let a = c.self-2.inside in
    let v = c.self-2.invariant in
    let w = c.scan-ready.result.0 in
    let d = c.extend_from_slice.new.self.items in
    let f = fed a.start a.ready w c.scan-ready.result.1 a.bytes.items c.args.piece.now d c.deref.result.now _ c.extend_from_slice.ensures.items (ok_of c.extend_from_slice.result (sym c.is_err.ensures.value ∙ c.if-is_err.false)) c.deref.ensures.value v.ordered v.within v.frames c.scan-ready.ensures.within c.scan-ready.ensures.frames c.scan-ready.ensures.last in
    let same : record { kept = drop a.start a.bytes.items; over = a.over } ≡ c.args.self.now = c.self-2.view_is ∙ c.compact.ensures in
    let kept : drop a.start a.bytes.items ≡ c.args.self.now.kept = ap (λ (h : BufferState). h.kept) same in
    let all = over_held a.start a.ready w c.in-Some-over.length c.scan-ready.result.1 a.bytes.items c.args.piece.now d c.truncate.new.self.items c.args.self.now.kept f c.in-Some-over.is kept c.truncate.ensures.items in
    let m : c.in-Some-over.length ≡ n = same_over c.in-Some-over.length n (only_over n (c.args.self.now.kept ++ c.args.piece.now) _ has all) in
    inl (ap (λ (k : ℕ). Err (faults.TooLarge k)) m)

pub invariant_of-self-in_default-over : goal.invariant_of-self-in_default-over
invariant_of-self-in_default-over c =
    let a = c.self-2.inside in
    let v = c.self-2.invariant in
    let w = c.scan-ready.result.0 in
    let d = c.extend_from_slice.new.self.items in
    let f = fed a.start a.ready w c.scan-ready.result.1 a.bytes.items c.args.piece.now d c.deref.result.now _ c.extend_from_slice.ensures.items (ok_of c.extend_from_slice.result (sym c.is_err.ensures.value ∙ c.if-is_err.false)) c.deref.ensures.value v.ordered v.within v.frames c.scan-ready.ensures.within c.scan-ready.ensures.frames c.scan-ready.ensures.last in
    let same : record { kept = drop a.start a.bytes.items; over = a.over } ≡ c.args.self.now = c.self-2.view_is ∙ c.compact.ensures in
    let kept : drop a.start a.bytes.items ≡ c.args.self.now.kept = ap (λ (h : BufferState). h.kept) same in
    let none : a.over ≡ None = ap (λ (h : BufferState). h.over) (same ∙ sym c.self.view_is) ∙ c.in_default.is in
    record {
      ordered = omega (arith, f.ordered, f.next);
      within = f.within;
      frames = f.ready;
      tail = subst (λ o. IsTail o (drop w d)) (sym none) (partial_of w c.scan-ready.result.1 d c.in_default-over.is f.last);
    }

pub returns-clause-ok : goal.returns-clause-ok
returns-clause-ok c =
    let a = c.self-2.inside in
    let v = c.self-2.invariant in
    let w = c.scan-ready.result.0 in
    let d = c.extend_from_slice.new.self.items in
    let f = fed a.start a.ready w c.scan-ready.result.1 a.bytes.items c.args.piece.now d c.deref.result.now _ c.extend_from_slice.ensures.items (ok_of c.extend_from_slice.result (sym c.is_err.ensures.value ∙ c.if-is_err.false)) c.deref.ensures.value v.ordered v.within v.frames c.scan-ready.ensures.within c.scan-ready.ensures.frames c.scan-ready.ensures.last in
    let same : record { kept = drop a.start a.bytes.items; over = a.over } ≡ c.args.self.now = c.self-2.view_is ∙ c.compact.ensures in
    let kept : drop a.start a.bytes.items ≡ c.args.self.now.kept = ap (λ (h : BufferState). h.kept) same in
    let none : a.over ≡ None = ap (λ (h : BufferState). h.over) (same ∙ sym c.self.view_is) ∙ c.in_default.is in
    let all = partial_held a.start a.ready w c.scan-ready.result.1 a.bytes.items c.args.piece.now d c.args.self.now.kept a.over f c.in_default-over.is kept none in
    (ap (λ (h : BufferState). h.over) (sym c.self.view_is) ∙ c.in_default.is, all.0, all.1)

pub returns-clause-complete : goal.returns-clause-complete
returns-clause-complete c = λ n empty has.
    let a = c.self-2.inside in
    let v = c.self-2.invariant in
    let w = c.scan-ready.result.0 in
    let d = c.extend_from_slice.new.self.items in
    let f = fed a.start a.ready w c.scan-ready.result.1 a.bytes.items c.args.piece.now d c.deref.result.now _ c.extend_from_slice.ensures.items (ok_of c.extend_from_slice.result (sym c.is_err.ensures.value ∙ c.if-is_err.false)) c.deref.ensures.value v.ordered v.within v.frames c.scan-ready.ensures.within c.scan-ready.ensures.frames c.scan-ready.ensures.last in
    let same : record { kept = drop a.start a.bytes.items; over = a.over } ≡ c.args.self.now = c.self-2.view_is ∙ c.compact.ensures in
    let kept : drop a.start a.bytes.items ≡ c.args.self.now.kept = ap (λ (h : BufferState). h.kept) same in
    let none : a.over ≡ None = ap (λ (h : BufferState). h.over) (same ∙ sym c.self.view_is) ∙ c.in_default.is in
    let all = partial_held a.start a.ready w c.scan-ready.result.1 a.bytes.items c.args.piece.now d c.args.self.now.kept a.over f c.in_default-over.is kept none in
    absurd (no_over n a.over none (only_over n (c.args.self.now.kept ++ c.args.piece.now) _ has all.1))

pub returns-in-Some-clause-stream : goal.returns-in-Some-clause-stream
returns-in-Some-clause-stream c = inr (λ s taken h. again s c.args.piece.now taken c.args.self.now c.in-Some.length (ap (λ (h : BufferState). h.over) (sym c.self.view_is) ∙ c.in-Some.is) h)

pub returns-in-Some-over-clause-stream : goal.returns-in-Some-over-clause-stream
returns-in-Some-over-clause-stream c =
    let a = c.self-2.inside in
    let v = c.self-2.invariant in
    let w = c.scan-ready.result.0 in
    let d = c.extend_from_slice.new.self.items in
    let f = fed a.start a.ready w c.scan-ready.result.1 a.bytes.items c.args.piece.now d c.deref.result.now _ c.extend_from_slice.ensures.items (ok_of c.extend_from_slice.result (sym c.is_err.ensures.value ∙ c.if-is_err.false)) c.deref.ensures.value v.ordered v.within v.frames c.scan-ready.ensures.within c.scan-ready.ensures.frames c.scan-ready.ensures.last in
    let same : record { kept = drop a.start a.bytes.items; over = a.over } ≡ c.args.self.now = c.self-2.view_is ∙ c.compact.ensures in
    let kept : drop a.start a.bytes.items ≡ c.args.self.now.kept = ap (λ (h : BufferState). h.kept) same in
    let none : c.args.self.now.over ≡ None = ap (λ (h : BufferState). h.over) (sym c.self.view_is) ∙ c.in_default.is in
    inr (λ s taken h. added s c.args.piece.now taken c.args.self.now _ none h (over_held a.start a.ready w c.in-Some-over.length c.scan-ready.result.1 a.bytes.items c.args.piece.now d c.truncate.new.self.items c.args.self.now.kept f c.in-Some-over.is kept c.truncate.ensures.items))

pub returns-clause-stream : goal.returns-clause-stream
returns-clause-stream c =
    let a = c.self-2.inside in
    let v = c.self-2.invariant in
    let w = c.scan-ready.result.0 in
    let d = c.extend_from_slice.new.self.items in
    let f = fed a.start a.ready w c.scan-ready.result.1 a.bytes.items c.args.piece.now d c.deref.result.now _ c.extend_from_slice.ensures.items (ok_of c.extend_from_slice.result (sym c.is_err.ensures.value ∙ c.if-is_err.false)) c.deref.ensures.value v.ordered v.within v.frames c.scan-ready.ensures.within c.scan-ready.ensures.frames c.scan-ready.ensures.last in
    let same : record { kept = drop a.start a.bytes.items; over = a.over } ≡ c.args.self.now = c.self-2.view_is ∙ c.compact.ensures in
    let kept : drop a.start a.bytes.items ≡ c.args.self.now.kept = ap (λ (h : BufferState). h.kept) same in
    let none : a.over ≡ None = ap (λ (h : BufferState). h.over) (same ∙ sym c.self.view_is) ∙ c.in_default.is in
    let all = partial_held a.start a.ready w c.scan-ready.result.1 a.bytes.items c.args.piece.now d c.args.self.now.kept a.over f c.in_default-over.is kept none in
    inr (λ s taken h. added s c.args.piece.now taken c.args.self.now _ (ap (λ (h : BufferState). h.over) (sym c.self.view_is) ∙ c.in_default.is) h all.1)
