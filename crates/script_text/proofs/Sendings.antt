-- Two nodes and a count.
use Rattle.std.proofs.Common.{◌≡◌, ℕ, ◌<◌, ◌^◌, List, ◌∷◌, ◌++◌, sym, ap, ◌∙◌}
use Rattle.std.specs.Prelude.{decimal, None, Some}
use Rattle.salt_value.specs.Reading.{Decodes}
use Rattle.fleet_config.specs.Tree.{id_of}
use Rattle.script_text.specs.Lines.{Lacks}
use Rattle.script_text.specs.Fleet.{tree_by, AreFleetIds}
use Rattle.script_text.specs.Turns.{IsPlaceIn, node_text, IsSending, sending_text}
use Rattle.script_text.proofs.Words.{cut_once, no_cut}
use Rattle.script_text.proofs.Ids.{name_of_node, same_node, solid_id}

module _ (ids : List (List ℕ)) (are : AreFleetIds ids) where
  solid : (n : ℕ) → IsPlaceIn (tree_by ids) n → Lacks 32 (id_of (tree_by ids) n)
  solid n h = solid_id _ (name_of_node ids n are h)

  -- no word before a space, or one that is no id
  pub no_word : (text : List ℕ) → Lacks 32 text → (n : ℕ) (rest : List ℕ) → IsPlaceIn (tree_by ids) n → text ≡ node_text (tree_by ids) n rest → ⊥
  no_word text w n rest h e = no_cut 32 text (id_of (tree_by ids) n) rest w (sym e)

  pub no_id : (word after text : List ℕ) → text ≡ word ++ 32 ∷ after → Lacks 32 word → Decodes (IsPlaceIn (tree_by ids)) (id_of (tree_by ids)) word None
      → (n : ℕ) (rest : List ℕ) → IsPlaceIn (tree_by ids) n → text ≡ node_text (tree_by ids) n rest → ⊥
  no_id word after text e w none n rest h f = none n h (cut_once 32 (id_of (tree_by ids) n) rest word after (solid n h) w (sym f ∙ e)).0

  -- a node is written in one way
  node_once : (n m : ℕ) (r s : List ℕ) → IsPlaceIn (tree_by ids) n → IsPlaceIn (tree_by ids) m → node_text (tree_by ids) n r ≡ node_text (tree_by ids) m s → (n ≡ m) × (r ≡ s)
  node_once n m r s h k e =
      let c = cut_once 32 (id_of (tree_by ids) n) r (id_of (tree_by ids) m) s (solid n h) (solid m k) e in
      (same_node ids n m are h k c.0, c.1)

  pub sending_found : (from to count : ℕ) (text rest digits : List ℕ) → IsPlaceIn (tree_by ids) from → text ≡ node_text (tree_by ids) from rest
      → IsPlaceIn (tree_by ids) to → rest ≡ node_text (tree_by ids) to digits → Decodes (λ n. n < 2 ^ 64) decimal digits (Some count)
      → Decodes (IsSending (tree_by ids)) (sending_text (tree_by ids)) text (Some (from, (to, count)))
  sending_found from to count text rest digits h e k f d = (
    (h, (k, d.0)),
    ap (λ l. node_text (tree_by ids) from (node_text (tree_by ids) to l)) d.1 ∙ ap (node_text (tree_by ids) from) (sym f) ∙ sym e,
    λ y v q.
        let a = node_once y.0 from _ rest v.0 h (q ∙ e) in
        let b = node_once y.1.0 to _ digits v.1.0 k (a.1 ∙ f) in
        ap (λ (n : ℕ). (n, y.1)) a.0 ∙ ap (λ (n : ℕ). (from, (n, y.1.1))) b.0 ∙ ap (λ (n : ℕ). (from, (to, n))) (d.2 y.1.1 v.1.1 b.1),
  )

  pub no_count : (from to : ℕ) (text rest digits : List ℕ) → IsPlaceIn (tree_by ids) from → text ≡ node_text (tree_by ids) from rest
      → IsPlaceIn (tree_by ids) to → rest ≡ node_text (tree_by ids) to digits → Decodes (λ n. n < 2 ^ 64) decimal digits None
      → Decodes (IsSending (tree_by ids)) (sending_text (tree_by ids)) text None
  no_count from to text rest digits h e k f d = λ y v q.
      let a = node_once y.0 from _ rest v.0 h (q ∙ e) in
      let b = node_once y.1.0 to _ digits v.1.0 k (a.1 ∙ f) in
      d y.1.1 v.1.1 b.1

  pub no_receiver : (from : ℕ) (text rest : List ℕ) → IsPlaceIn (tree_by ids) from → text ≡ node_text (tree_by ids) from rest
      → ((n : ℕ) (more : List ℕ) → IsPlaceIn (tree_by ids) n → rest ≡ node_text (tree_by ids) n more → ⊥)
      → Decodes (IsSending (tree_by ids)) (sending_text (tree_by ids)) text None
  no_receiver from text rest h e none = λ y v q.
      let a = node_once y.0 from _ rest v.0 h (q ∙ e) in
      none y.1.0 (decimal y.1.1) v.1.0 (sym a.1)

  pub no_sender : (text : List ℕ) → ((n : ℕ) (more : List ℕ) → IsPlaceIn (tree_by ids) n → text ≡ node_text (tree_by ids) n more → ⊥)
      → Decodes (IsSending (tree_by ids)) (sending_text (tree_by ids)) text None
  no_sender text none = λ y v q. none y.0 _ v.0 (sym q)
