-- What a buffer holds of a stream, once more comes and once a body is taken.
use Rattle.std.proofs.Common.{◌≡◌, ℕ, List, [], ◌∷◌, ◌++◌, Option, Some, None, refl, sym, ap, subst, ◌∙◌, append_assoc}
use Rattle.std.specs.Int.{w32, to_be_bytes}
use Rattle.std.specs.List.{AllByRecursion}
use Rattle.std.proofs.lemmas.List.{append-nil}
use Rattle.std.proofs.lemmas.List.Concat.{flat_map-cons}
use Rattle.salt_frame.specs.Frames.{frame, frames, IsBody, IsOver, Ends, Reads}
use Rattle.salt_frame.specs.Buffer.{BufferState, kept_of, HoldsRest, Lends, TakesNext}
use Rattle.salt_frame.proofs.Readings.{prefix_free, not_ends}
use Rattle.salt_frame.proofs.FeedLemmas.{frames_join, all_join, all_first}

-- more bytes after all frames
more_over : (n : ℕ) (x p : List ℕ) → IsOver n x → IsOver n (x ++ p)
more_over n x p o = (o.0, o.1, (o.2.0 ++ p, ap (λ l. l ++ p) o.2.1 ∙ append_assoc (to_be_bytes w32 n) o.2.0 p))

ends_more : (over : Option ℕ) (n : ℕ) (x p : List ℕ) → over ≡ Some n → Ends over x → Ends over (x ++ p)
ends_more None n x p e h = absurd cc
ends_more (Some m) n x p e h = more_over m x p h

kept_more : (over : Option ℕ) (n : ℕ) (x p : List ℕ) → over ≡ Some n → kept_of over x ≡ kept_of over (x ++ p)
kept_more None n x p e = absurd cc
kept_more (Some m) n x p e = refl

kept_none : (over : Option ℕ) (x : List ℕ) → over ≡ None → kept_of over x ≡ x
kept_none None x e = refl
kept_none (Some m) x e = absurd cc

pub again : (s p : List ℕ) (taken : List (List ℕ)) (old : BufferState) (n : ℕ) → old.over ≡ Some n → HoldsRest s taken old → HoldsRest (s ++ p) taken old
again s p taken old n e h = record {
  others = h.others;
  rest = h.rest ++ p;
  reads = record {
    splits = record {
      whole = ap (λ l. l ++ p) h.reads.splits.whole ∙ append_assoc (frames (taken ++ h.others)) h.rest p;
      each = h.reads.splits.each;
    };
    ends = ends_more old.over n h.rest p e h.reads.ends;
  };
  kept = h.kept ∙ ap (λ l. frames h.others ++ l) (kept_more old.over n h.rest p e);
}

-- the stream is what was taken and what is kept
all_kept : (s : List ℕ) (taken : List (List ℕ)) (old : BufferState) → old.over ≡ None → HoldsRest s taken old → s ≡ frames taken ++ old.kept
all_kept s taken old e h =
    h.reads.splits.whole ∙ ap (λ l. l ++ h.rest) (frames_join taken h.others) ∙ append_assoc (frames taken) (frames h.others) h.rest
    ∙ ap (λ l. frames taken ++ l) (ap (λ l. frames h.others ++ l) (sym (kept_none old.over h.rest e)) ∙ sym h.kept)

pub added : (s p : List ℕ) (taken : List (List ℕ)) (old new : BufferState) → old.over ≡ None → HoldsRest s taken old → HoldsRest (old.kept ++ p) [] new → HoldsRest (s ++ p) taken new
added s p taken old new e h g = record {
  others = g.others;
  rest = g.rest;
  reads = record {
    splits = record {
      whole = ap (λ l. l ++ p) (all_kept s taken old e h) ∙ append_assoc (frames taken) old.kept p ∙ ap (λ l. frames taken ++ l) g.reads.splits.whole
          ∙ sym (append_assoc (frames taken) (frames g.others) g.rest) ∙ ap (λ l. l ++ g.rest) (sym (frames_join taken g.others));
      each = all_join taken g.others (all_first taken h.others h.reads.splits.each) g.reads.splits.each;
    };
    ends = g.reads.ends;
  };
  kept = g.kept;
}

-- what is kept of the rest begins with no frame
not_kept : (over : Option ℕ) (x b y : List ℕ) → Ends over x → IsBody b → kept_of over x ≡ frame b ++ y → ⊥
not_kept None x b y e h same = not_ends None b y h (subst (Ends None) same e)
not_kept (Some n) x b y e h same = not_ends (Some n) b y h (subst (Ends (Some n)) same (e.0, e.1, ([], sym (append-nil (to_be_bytes w32 n)))))

one_taken : (s : List ℕ) (taken : List (List ℕ)) (new : BufferState) (others : List (List ℕ)) (rest b : List ℕ) → Reads s (taken ++ others) new.over rest → IsBody b
    → frames others ++ kept_of new.over rest ≡ frame b ++ new.kept → HoldsRest s (taken ++ b ∷ []) new
one_taken s taken new [] rest b r h e = absurd (not_kept new.over rest b new.kept r.ends h e)
one_taken s taken new (c ∷ cs) rest b r h e =
    let all = all_other taken (c ∷ cs) r.splits.each in
    let front : frame c ++ (frames cs ++ kept_of new.over rest) ≡ frame b ++ new.kept
    = sym (append_assoc (frame c) (frames cs) (kept_of new.over rest)) ∙ ap (λ l. l ++ kept_of new.over rest) (sym (flat_map-cons frame c cs)) ∙ e in
    let same = prefix_free c b (frames cs ++ kept_of new.over rest) new.kept all.0 h front in
    let list : taken ++ c ∷ cs ≡ (taken ++ b ∷ []) ++ cs = ap (λ l. taken ++ l ∷ cs) same.0 ∙ sym (append_assoc taken (b ∷ []) cs) in
    record {
      others = cs;
      rest = rest;
      reads = subst (λ l. Reads s l new.over rest) list r;
      kept = sym same.1;
    } where
      all_other : (xs ys : List (List ℕ)) → AllByRecursion IsBody (xs ++ ys) → AllByRecursion IsBody ys
      all_other [] ys h = h
      all_other (x ∷ xs) ys h = all_other xs ys h.1

lent : (old new : BufferState) (b : List ℕ) → IsBody b → old.kept ≡ frame b ++ new.kept → new.over ≡ old.over → Lends old b new
lent old new b fits k o s taken h =
    one_taken s taken new h.others h.rest b (subst (λ o. Reads s (taken ++ h.others) o h.rest) (sym o) h.reads) fits
    (ap (λ o. frames h.others ++ kept_of o h.rest) o ∙ sym h.kept ∙ k)

pub taken : (old : BufferState) (x more : List ℕ) (over : Option ℕ) → IsBody x → old.kept ≡ frame x ++ more → over ≡ old.over → TakesNext old (Some x) (record { kept = more; over = over })
taken old x more over h k o = record {
  some = λ body e. let s : x ≡ body = cc in (subst IsBody s h, k ∙ ap (λ b. frame b ++ more) s, o);
  none = λ e. absurd cc;
  stream = λ body e. let s : x ≡ body = cc in subst (λ (b : List ℕ). Lends old b (record { kept = more; over = over })) s (lent old (record { kept = more; over = over }) x h k o);
  whole = λ body others g e. let p = prefix_free x body more others h g (sym k ∙ e) in (ap (λ (l : List ℕ). Some l) p.0, p.1);
}
