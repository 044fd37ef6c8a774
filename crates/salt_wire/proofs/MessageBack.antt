-- Entries, jobs and messages: what is written is read again, and what is read was written so.
use Rattle.std.proofs.Common.{◌≡◌, ℕ, suc, ◌<◌, ◌≤◌, Bool, true, false, cond, eqb, List, [], ◌∷◌, ◌++◌, length, Result, Ok, refl, sym, ap, subst, ◌∙◌, arith, ◌⊎◌, inl, inr}
use Rattle.std.proofs.lemmas.Bool.{eqb-true}
use Rattle.std.proofs.lemmas.Bool.Decides.{nat_tests}
use Rattle.salt_value.specs.Readers.{when}
use Rattle.salt_value.specs.Id.{IsId}
use Rattle.salt_value.specs.Word.{IsWord}
use Rattle.salt_value.specs.Jid.{greatest_jid}
use Rattle.salt_value.specs.Spelling.{bytes, text}
use Rattle.salt_value.specs.WellFormed.{ValueFits}
use Rattle.salt_value.specs.Decoding.{IsBytes}
use Rattle.salt_value.specs.declared.value.Value.{Value}
use Rattle.salt_value.specs.declared.value.Value.TheVariants as v
use Rattle.target_tree.specs.declared.kind.Kind.{Kind}
use Rattle.salt_wire.specs.declared.fault.Misread.{Misread}
use Rattle.salt_wire.specs.declared.message.Job.{Job}
use Rattle.salt_wire.specs.declared.message.Entry.{Entry}
use Rattle.salt_wire.specs.declared.message.Entry.TheVariants as en
use Rattle.salt_wire.specs.declared.message.Message.{Message}
use Rattle.salt_wire.specs.declared.message.Message.TheVariants as m
use Rattle.salt_wire.specs.Spelling.{number, id, word, tree_bytes, job, entry, kind_and_fields as spelled}
use Rattle.salt_wire.specs.Limits.{IsNumber, IsText, TreeFits, JobFits, EntryFits, is_status, Within}
use Rattle.salt_wire.specs.Decoding.{misreading, byte_field, number_field, text_field, short_text, id_field, word_field, jid_field, kind_field, value_field, items_field, fields_field, return_at, fired_at, start_at, mine_at, entry_after, entry_field, tree_field, job_field, pub_fields, have_fields, up_fields, up_have_fields, hello_fields, ask_publish_fields, ask_report_fields, ask_mine_fields, status_field, answer_fields, client_fields, message_fields, kind_and_fields}
use Rattle.salt_wire.specs.RoundTrip.{Took, IsReadBack}
use Rattle.salt_wire.proofs.Codec.{Lower, one_byte, IsByte, code, AnyKind, micros, IsJid, list_bytes, ListFits, map_bytes, MapFits, IsShortText, bind_ok, ok_is, when_ok, join, step, again, again_last, numbers, a_byte, texts, short_texts, ids, words, jids, kinds, values, lists, maps}

-- one case of a choice by a number
choose : {C : Type 0} (n k : ℕ) (r s : Result C Misread) (x : C) → cond (eqb n k) r s ≡ Ok x → ((n ≡ k) × (r ≡ Ok x)) ⊎ (s ≡ Ok x)
choose {C} n k r s x e = by (eqb n k) (eqb-true n k) e where
  by : (b : Bool) → (b ≡ true → n ≡ k) → cond b r s ≡ Ok x → ((n ≡ k) × (r ≡ Ok x)) ⊎ (s ≡ Ok x)
  by true h e = inl (h refl, e)
  by false h e = inr e

module _ (l : Lower) (trees : IsReadBack tree_bytes TreeFits tree_field) where
  -- ---- entries

  return_took : (b : List ℕ) (x : Entry × List ℕ) → IsBytes b → return_at b ≡ Ok x → Took entry EntryFits (1 ∷ b) x
  unfolding return_at
  return_took b x h e =
      let s1 = step number IsNumber number_field (numbers l) _ b x h e in
      let s2 = step one_byte IsByte byte_field (a_byte l) _ s1.rest x s1.are_bytes s1.gives in
      let s3 = step bytes ValueFits value_field (values l) _ s2.rest x s2.are_bytes s2.gives in
      let made : Entry × List ℕ = (en.Return s1.it (record { retcode = s2.it; value = s3.it }), s3.rest) in
      subst (Took entry EntryFits (1 ∷ b)) {x = made} (ok_is made x s3.gives) ((s1.right, s2.right, s3.right), ap (λ (r : List ℕ). 1 ∷ r) (join b (number s1.it) s1.rest (one_byte s2.it ++ (bytes s3.it)) s3.rest s1.parts (join s1.rest (one_byte s2.it) s2.rest (bytes s3.it) s3.rest s2.parts s3.parts)), s3.are_bytes)

  fired_took : (b : List ℕ) (x : Entry × List ℕ) → IsBytes b → fired_at b ≡ Ok x → Took entry EntryFits (2 ∷ b) x
  unfolding fired_at
  fired_took b x h e =
      let s1 = step word IsWord word_field (words l) _ b x h e in
      let s2 = step bytes ValueFits value_field (values l) _ s1.rest x s1.are_bytes s1.gives in
      let made : Entry × List ℕ = (en.Fired (record { tag = s1.it; body = s2.it }), s2.rest) in
      subst (Took entry EntryFits (2 ∷ b)) {x = made} (ok_is made x s2.gives) ((s1.right, s2.right), ap (λ (r : List ℕ). 2 ∷ r) (join b (word s1.it) s1.rest (bytes s2.it) s2.rest s1.parts s2.parts), s2.are_bytes)

  start_took : (b : List ℕ) (x : Entry × List ℕ) → IsBytes b → start_at b ≡ Ok x → Took entry EntryFits (3 ∷ b) x
  start_took b x h e =
      let s1 = step number IsNumber number_field (numbers l) _ b x h e in
      let made : Entry × List ℕ = (en.Start s1.it, s1.rest) in
      subst (Took entry EntryFits (3 ∷ b)) {x = made} (ok_is made x s1.gives) (s1.right, ap (λ (r : List ℕ). 3 ∷ r) s1.parts, s1.are_bytes)

  mine_took : (b : List ℕ) (x : Entry × List ℕ) → IsBytes b → mine_at b ≡ Ok x → Took entry EntryFits (4 ∷ b) x
  unfolding mine_at
  mine_took b x h e =
      let s1 = step number IsNumber number_field (numbers l) _ b x h e in
      let s2 = step map_bytes MapFits fields_field (maps l) _ s1.rest x s1.are_bytes s1.gives in
      let s3 = step map_bytes MapFits fields_field (maps l) _ s2.rest x s2.are_bytes s2.gives in
      let s4 = step map_bytes MapFits fields_field (maps l) _ s3.rest x s3.are_bytes s3.gives in
      let made : Entry × List ℕ = (en.Mine s1.it s2.it s3.it s4.it, s4.rest) in
      subst (Took entry EntryFits (4 ∷ b)) {x = made} (ok_is made x s4.gives) ((s1.right, s2.right, s3.right, s4.right), ap (λ (r : List ℕ). 4 ∷ r) (join b (number s1.it) s1.rest (map_bytes s2.it ++ (map_bytes s3.it ++ (map_bytes s4.it))) s4.rest s1.parts (join s1.rest (map_bytes s2.it) s2.rest (map_bytes s3.it ++ (map_bytes s4.it)) s4.rest s2.parts (join s2.rest (map_bytes s3.it) s3.rest (map_bytes s4.it) s4.rest s3.parts s4.parts))), s4.are_bytes)

  entry_after_took : (tag : ℕ) (b : List ℕ) (x : Entry × List ℕ) → IsBytes b → entry_after tag b ≡ Ok x → Took entry EntryFits (tag ∷ b) x
  unfolding entry_after
  entry_after_took tag b x h e =
      elim (choose tag 1 _ _ x e) [
        | inl g ↦ of 1 g.0 (return_took b x h g.1)
        | inr e ↦
            elim (choose tag 2 _ _ x e) [
              | inl g ↦ of 2 g.0 (fired_took b x h g.1)
              | inr e ↦
                  elim (choose tag 3 _ _ x e) [
                    | inl g ↦ of 3 g.0 (start_took b x h g.1)
                    | inr e ↦
                        elim (choose tag 4 _ _ x e) [ inl g ↦ of 4 g.0 (mine_took b x h g.1) | inr e ↦ absurd cc ]
                  ]
            ]
      ]
    where
      of : (n : ℕ) → tag ≡ n → Took entry EntryFits (n ∷ b) x → Took entry EntryFits (tag ∷ b) x
      of n g p = subst (λ k. Took entry EntryFits (k ∷ b) x) (sym g) p

  entry_took : (b : List ℕ) (x : Entry × List ℕ) → IsBytes b → entry_field b ≡ Ok x → Took entry EntryFits b x
  unfolding entry_field
  entry_took b x h e =
      let s = step one_byte IsByte byte_field (a_byte l) _ b x h e in
      let t = entry_after_took s.it s.rest x s.are_bytes s.gives in
      (t.0, s.parts ∙ t.1, t.2)

  return_written : (seq : ℕ) (code : ℕ) (w : Value) (rest : List ℕ) → IsNumber seq × (code < 256) × ValueFits w → return_at (((number seq) ++ ((one_byte code) ++ (bytes w))) ++ rest) ≡ Ok (en.Return seq (record { retcode = code; value = w }), rest)
  unfolding return_at
  return_written seq code w rest h =
      again number IsNumber number_field (numbers l) _ seq ((one_byte code) ++ (bytes w)) rest h.0
      ∙ again one_byte IsByte byte_field (a_byte l) _ code (bytes w) rest h.1
      ∙ again_last bytes ValueFits value_field (values l) _ w rest h.2

  fired_written : (tag : List ℕ) (w : Value) (rest : List ℕ) → IsWord tag × ValueFits w → fired_at (((word tag) ++ (bytes w)) ++ rest) ≡ Ok (en.Fired (record { tag = tag; body = w }), rest)
  unfolding fired_at
  fired_written tag w rest h =
      again word IsWord word_field (words l) _ tag (bytes w) rest h.0
      ∙ again_last bytes ValueFits value_field (values l) _ w rest h.1

  start_written : (boot : ℕ) (rest : List ℕ) → IsNumber boot → start_at ((number boot) ++ rest) ≡ Ok (en.Start boot, rest)
  start_written boot rest h =
      again_last number IsNumber number_field (numbers l) _ boot rest h

  mine_written : (seq : ℕ) (mine : List (List ℕ × Value)) (grains : List (List ℕ × Value)) (pillar : List (List ℕ × Value)) (rest : List ℕ) → IsNumber seq × ValueFits (v.Map mine) × ValueFits (v.Map grains) × ValueFits (v.Map pillar) → mine_at (((number seq) ++ ((map_bytes mine) ++ ((map_bytes grains) ++ (map_bytes pillar)))) ++ rest) ≡ Ok (en.Mine seq mine grains pillar, rest)
  unfolding mine_at
  mine_written seq mine grains pillar rest h =
      again number IsNumber number_field (numbers l) _ seq ((map_bytes mine) ++ ((map_bytes grains) ++ (map_bytes pillar))) rest h.0
      ∙ again map_bytes MapFits fields_field (maps l) _ mine ((map_bytes grains) ++ (map_bytes pillar)) rest h.1
      ∙ again map_bytes MapFits fields_field (maps l) _ grains (map_bytes pillar) rest h.2
      ∙ again_last map_bytes MapFits fields_field (maps l) _ pillar rest h.3

  entry_by : (tag : ℕ) (more : List ℕ) (x : Entry × List ℕ) → tag < 256 → entry_after tag more ≡ Ok x → entry_field (tag ∷ more) ≡ Ok x
  unfolding entry_field
  entry_by tag more x lt e = again_last one_byte IsByte byte_field (a_byte l) (λ t. entry_after t.0 t.1) tag more lt ∙ e

  entry_written : (x : Entry) (rest : List ℕ) → EntryFits x → entry_field (entry x ++ rest) ≡ Ok (x, rest)
  unfolding entry_after
  entry_written (en.Return seq o) rest h = entry_by 1 _ (en.Return seq o, rest) (omega arith) (return_written seq o.retcode o.value rest h)
  entry_written (en.Fired event) rest h = entry_by 2 _ (en.Fired event, rest) (omega arith) (fired_written event.tag event.body rest h)
  entry_written (en.Start boot) rest h = entry_by 3 _ (en.Start boot, rest) (omega arith) (start_written boot rest h)
  entry_written (en.Mine seq mine grains pillar) rest h = entry_by 4 _ (en.Mine seq mine grains pillar, rest) (omega arith) (mine_written seq mine grains pillar rest h)

  pub entries : IsReadBack entry EntryFits entry_field
  entries = record { written = entry_written; took = entry_took }

  -- ---- jobs

  job_took : (b : List ℕ) (x : Job × List ℕ) → IsBytes b → job_field b ≡ Ok x → Took job JobFits b x
  unfolding job_field
  job_took b x h e =
      let s1 = step micros IsJid jid_field (jids l) _ b x h e in
      let s2 = step code AnyKind kind_field (kinds l) _ s1.rest x s1.are_bytes s1.gives in
      let s3 = step text (IsShortText 4096) (short_text 4096) (short_texts l 4096) _ s2.rest x s2.are_bytes s2.gives in
      let s4 = step tree_bytes TreeFits tree_field trees _ s3.rest x s3.are_bytes s3.gives in
      let s5 = step word IsWord word_field (words l) _ s4.rest x s4.are_bytes s4.gives in
      let s6 = step list_bytes ListFits items_field (lists l) _ s5.rest x s5.are_bytes s5.gives in
      let made : Job × List ℕ = (record { jid = s1.it; kind = s2.it; tgt = s3.it; target = s4.it; fun = s5.it; args = s6.it }, s6.rest) in
      subst (Took job JobFits b) {x = made} (ok_is made x s6.gives) (record { jid = s1.right; tgt = s3.right.0; tgt_long = s3.right.1; target = s4.right; fun = s5.right; args = s6.right }, (join b (micros s1.it) s1.rest (code s2.it ++ (text s3.it ++ (tree_bytes s4.it ++ (word s5.it ++ (list_bytes s6.it))))) s6.rest s1.parts (join s1.rest (code s2.it) s2.rest (text s3.it ++ (tree_bytes s4.it ++ (word s5.it ++ (list_bytes s6.it)))) s6.rest s2.parts (join s2.rest (text s3.it) s3.rest (tree_bytes s4.it ++ (word s5.it ++ (list_bytes s6.it))) s6.rest s3.parts (join s3.rest (tree_bytes s4.it) s4.rest (word s5.it ++ (list_bytes s6.it)) s6.rest s4.parts (join s4.rest (word s5.it) s5.rest (list_bytes s6.it) s6.rest s5.parts s6.parts))))), s6.are_bytes)

  job_written : (j : Job) (rest : List ℕ) → JobFits j → job_field (((micros j.jid) ++ ((code j.kind) ++ ((text j.tgt) ++ ((tree_bytes j.target) ++ ((word j.fun) ++ (list_bytes j.args)))))) ++ rest) ≡ Ok (j, rest)
  unfolding job_field
  job_written j rest h =
      again micros IsJid jid_field (jids l) _ j.jid ((code j.kind) ++ ((text j.tgt) ++ ((tree_bytes j.target) ++ ((word j.fun) ++ (list_bytes j.args))))) rest h.jid
      ∙ again code AnyKind kind_field (kinds l) _ j.kind ((text j.tgt) ++ ((tree_bytes j.target) ++ ((word j.fun) ++ (list_bytes j.args)))) rest tt
      ∙ again text (IsShortText 4096) (short_text 4096) (short_texts l 4096) _ j.tgt ((tree_bytes j.target) ++ ((word j.fun) ++ (list_bytes j.args))) rest (h.tgt, h.tgt_long)
      ∙ again tree_bytes TreeFits tree_field trees _ j.target ((word j.fun) ++ (list_bytes j.args)) rest h.target
      ∙ again word IsWord word_field (words l) _ j.fun (list_bytes j.args) rest h.fun
      ∙ again_last list_bytes ListFits items_field (lists l) _ j.args rest h.args

  pub jobs : IsReadBack job JobFits job_field
  jobs = record { written = job_written; took = job_took }

  -- ---- messages

  abbrev pub IsStatus : ℕ → Type 0
  IsStatus n = is_status n ≡ true

  pub statuses : IsReadBack one_byte IsStatus status_field
  unfolding status_field
  statuses = record {
    written = λ n rest h. rw ((a_byte l).written n rest (status_low n h), h) refl;
    took = λ b x h e.
        let a = bind_ok (byte_field b) (λ status. when (is_status status.0) (misreading b) status) x e in
        let w = when_ok (is_status a.0.0) (misreading b) a.0 x a.2 in
        let t = (a_byte l).took b a.0 h a.1 in
        subst (λ (y : ℕ × List ℕ). Took one_byte IsStatus b y) w.1 (w.0, t.1, t.2);
  } where
    status_low : (n : ℕ) → is_status n ≡ true → n < 256
    status_low n h = grind (arith, nat_tests)

  pub_took : (b : List ℕ) (x : Message × List ℕ) → IsBytes b → pub_fields b ≡ Ok x → Took spelled Within (1 ∷ b) x
  unfolding pub_fields
  pub_took b x h e =
      let s1 = step number IsNumber number_field (numbers l) _ b x h e in
      let s2 = step job JobFits job_field jobs _ s1.rest x s1.are_bytes s1.gives in
      let made : Message × List ℕ = (m.Pub s1.it s2.it, s2.rest) in
      subst (Took spelled Within (1 ∷ b)) {x = made} (ok_is made x s2.gives) ((s1.right, s2.right), ap (λ (r : List ℕ). 1 ∷ r) (join b (number s1.it) s1.rest (job s2.it) s2.rest s1.parts s2.parts), s2.are_bytes)

  have_took : (b : List ℕ) (x : Message × List ℕ) → IsBytes b → have_fields b ≡ Ok x → Took spelled Within (2 ∷ b) x
  unfolding have_fields
  have_took b x h e =
      let s1 = step number IsNumber number_field (numbers l) _ b x h e in
      let made : Message × List ℕ = (m.Have s1.it, s1.rest) in
      subst (Took spelled Within (2 ∷ b)) {x = made} (ok_is made x s1.gives) (s1.right, ap (λ (r : List ℕ). 2 ∷ r) s1.parts, s1.are_bytes)

  up_took : (b : List ℕ) (x : Message × List ℕ) → IsBytes b → up_fields b ≡ Ok x → Took spelled Within (3 ∷ b) x
  unfolding up_fields
  up_took b x h e =
      let s1 = step id IsId id_field (ids l) _ b x h e in
      let s2 = step number IsNumber number_field (numbers l) _ s1.rest x s1.are_bytes s1.gives in
      let s3 = step entry EntryFits entry_field entries _ s2.rest x s2.are_bytes s2.gives in
      let made : Message × List ℕ = (m.Up s1.it s2.it s3.it, s3.rest) in
      subst (Took spelled Within (3 ∷ b)) {x = made} (ok_is made x s3.gives) ((s1.right, s2.right, s3.right), ap (λ (r : List ℕ). 3 ∷ r) (join b (id s1.it) s1.rest (number s2.it ++ (entry s3.it)) s3.rest s1.parts (join s1.rest (number s2.it) s2.rest (entry s3.it) s3.rest s2.parts s3.parts)), s3.are_bytes)

  up_have_took : (b : List ℕ) (x : Message × List ℕ) → IsBytes b → up_have_fields b ≡ Ok x → Took spelled Within (4 ∷ b) x
  unfolding up_have_fields
  up_have_took b x h e =
      let s1 = step id IsId id_field (ids l) _ b x h e in
      let s2 = step number IsNumber number_field (numbers l) _ s1.rest x s1.are_bytes s1.gives in
      let made : Message × List ℕ = (m.UpHave s1.it s2.it, s2.rest) in
      subst (Took spelled Within (4 ∷ b)) {x = made} (ok_is made x s2.gives) ((s1.right, s2.right), ap (λ (r : List ℕ). 4 ∷ r) (join b (id s1.it) s1.rest (number s2.it) s2.rest s1.parts s2.parts), s2.are_bytes)

  hello_took : (b : List ℕ) (x : Message × List ℕ) → IsBytes b → hello_fields b ≡ Ok x → Took spelled Within (5 ∷ b) x
  unfolding hello_fields
  hello_took b x h e =
      let s1 = step id IsId id_field (ids l) _ b x h e in
      let made : Message × List ℕ = (m.Hello s1.it, s1.rest) in
      subst (Took spelled Within (5 ∷ b)) {x = made} (ok_is made x s1.gives) (s1.right, ap (λ (r : List ℕ). 5 ∷ r) s1.parts, s1.are_bytes)

  ask_publish_took : (b : List ℕ) (x : Message × List ℕ) → IsBytes b → ask_publish_fields b ≡ Ok x → Took spelled Within (16 ∷ b) x
  unfolding ask_publish_fields
  ask_publish_took b x h e =
      let s1 = step code AnyKind kind_field (kinds l) _ b x h e in
      let s2 = step text IsText text_field (texts l) _ s1.rest x s1.are_bytes s1.gives in
      let s3 = step word IsWord word_field (words l) _ s2.rest x s2.are_bytes s2.gives in
      let s4 = step list_bytes ListFits items_field (lists l) _ s3.rest x s3.are_bytes s3.gives in
      let made : Message × List ℕ = (m.AskPublish s1.it s2.it s3.it s4.it, s4.rest) in
      subst (Took spelled Within (16 ∷ b)) {x = made} (ok_is made x s4.gives) ((s2.right, s3.right, s4.right), ap (λ (r : List ℕ). 16 ∷ r) (join b (code s1.it) s1.rest (text s2.it ++ (word s3.it ++ (list_bytes s4.it))) s4.rest s1.parts (join s1.rest (text s2.it) s2.rest (word s3.it ++ (list_bytes s4.it)) s4.rest s2.parts (join s2.rest (word s3.it) s3.rest (list_bytes s4.it) s4.rest s3.parts s4.parts))), s4.are_bytes)

  ask_report_took : (b : List ℕ) (x : Message × List ℕ) → IsBytes b → ask_report_fields b ≡ Ok x → Took spelled Within (17 ∷ b) x
  unfolding ask_report_fields
  ask_report_took b x h e =
      let s1 = step micros IsJid jid_field (jids l) _ b x h e in
      let made : Message × List ℕ = (m.AskReport s1.it, s1.rest) in
      subst (Took spelled Within (17 ∷ b)) {x = made} (ok_is made x s1.gives) (s1.right, ap (λ (r : List ℕ). 17 ∷ r) s1.parts, s1.are_bytes)

  ask_mine_took : (b : List ℕ) (x : Message × List ℕ) → IsBytes b → ask_mine_fields b ≡ Ok x → Took spelled Within (19 ∷ b) x
  unfolding ask_mine_fields
  ask_mine_took b x h e =
      let s1 = step code AnyKind kind_field (kinds l) _ b x h e in
      let s2 = step text IsText text_field (texts l) _ s1.rest x s1.are_bytes s1.gives in
      let s3 = step word IsWord word_field (words l) _ s2.rest x s2.are_bytes s2.gives in
      let made : Message × List ℕ = (m.AskMine s1.it s2.it s3.it, s3.rest) in
      subst (Took spelled Within (19 ∷ b)) {x = made} (ok_is made x s3.gives) ((s2.right, s3.right), ap (λ (r : List ℕ). 19 ∷ r) (join b (code s1.it) s1.rest (text s2.it ++ (word s3.it)) s3.rest s1.parts (join s1.rest (text s2.it) s2.rest (word s3.it) s3.rest s2.parts s3.parts)), s3.are_bytes)

  answer_took : (b : List ℕ) (x : Message × List ℕ) → IsBytes b → answer_fields b ≡ Ok x → Took spelled Within (20 ∷ b) x
  unfolding answer_fields
  answer_took b x h e =
      let s1 = step one_byte IsStatus status_field statuses _ b x h e in
      let s2 = step text (IsShortText 1000000) (short_text 1000000) (short_texts l 1000000) _ s1.rest x s1.are_bytes s1.gives in
      let made : Message × List ℕ = (m.Answer s1.it s2.it, s2.rest) in
      subst (Took spelled Within (20 ∷ b)) {x = made} (ok_is made x s2.gives) ((s1.right, s2.right.0, s2.right.1), ap (λ (r : List ℕ). 20 ∷ r) (join b (one_byte s1.it) s1.rest (text s2.it) s2.rest s1.parts s2.parts), s2.are_bytes)

  bare_took : (kind : ℕ) (x : Message) (b : List ℕ) (y : Message × List ℕ) → IsBytes b → Within x → spelled x ≡ kind ∷ [] → ◌≡◌ {A = Result (Message × List ℕ) Misread} (Ok (x, b)) (Ok y) → Took spelled Within (kind ∷ b) y
  bare_took kind x b y h fits s e = let made : Message × List ℕ = (x, b) in subst (Took spelled Within (kind ∷ b)) (ok_is made y e) (fits, ap (λ (r : List ℕ). r ++ b) (sym s), h)

  of_kind : (kind n : ℕ) (b : List ℕ) (x : Message × List ℕ) → kind ≡ n → Took spelled Within (n ∷ b) x → Took spelled Within (kind ∷ b) x
  of_kind kind n b x g p = subst (λ k. Took spelled Within (k ∷ b) x) (sym g) p

  client_took : (kind : ℕ) (b : List ℕ) (x : Message × List ℕ) → IsBytes b → client_fields kind b ≡ Ok x → Took spelled Within (kind ∷ b) x
  unfolding client_fields
  client_took kind b x h e =
      elim (choose kind 16 _ _ x e) [
        | inl g ↦ of_kind kind 16 b x g.0 (ask_publish_took b x h g.1)
        | inr e ↦
            elim (choose kind 17 _ _ x e) [
              | inl g ↦ of_kind kind 17 b x g.0 (ask_report_took b x h g.1)
              | inr e ↦
                  elim (choose kind 18 _ _ x e) [
                    | inl g ↦ of_kind kind 18 b x g.0 (bare_took 18 m.AskJobs b x h tt refl g.1)
                    | inr e ↦
                        elim (choose kind 19 _ _ x e) [
                          | inl g ↦ of_kind kind 19 b x g.0 (ask_mine_took b x h g.1)
                          | inr e ↦
                              elim (choose kind 20 _ _ x e) [ inl g ↦ of_kind kind 20 b x g.0 (answer_took b x h g.1) | inr e ↦ absurd cc ]
                        ]
                  ]
            ]
      ]

  fields_took : (kind : ℕ) (b : List ℕ) (x : Message × List ℕ) → IsBytes b → message_fields kind b ≡ Ok x → Took spelled Within (kind ∷ b) x
  unfolding message_fields
  fields_took kind b x h e =
      elim (choose kind 1 _ _ x e) [
        | inl g ↦ of_kind kind 1 b x g.0 (pub_took b x h g.1)
        | inr e ↦
            elim (choose kind 2 _ _ x e) [
              | inl g ↦ of_kind kind 2 b x g.0 (have_took b x h g.1)
              | inr e ↦
                  elim (choose kind 3 _ _ x e) [
                    | inl g ↦ of_kind kind 3 b x g.0 (up_took b x h g.1)
                    | inr e ↦
                        elim (choose kind 4 _ _ x e) [
                          | inl g ↦ of_kind kind 4 b x g.0 (up_have_took b x h g.1)
                          | inr e ↦
                              elim (choose kind 5 _ _ x e) [
                                | inl g ↦ of_kind kind 5 b x g.0 (hello_took b x h g.1)
                                | inr e ↦
                                    elim (choose kind 6 _ _ x e) [ inl g ↦ of_kind kind 6 b x g.0 (bare_took 6 m.End b x h tt refl g.1) | inr e ↦ client_took kind b x h e ]
                              ]
                        ]
                  ]
            ]
      ]

  messages_took : (b : List ℕ) (x : Message × List ℕ) → IsBytes b → kind_and_fields b ≡ Ok x → Took spelled Within b x
  unfolding kind_and_fields
  messages_took [] x h e = absurd cc
  messages_took (kind ∷ b) x h e = fields_took kind b x (λ i. h (suc i)) e

  pub_written : (seq : ℕ) (j : Job) (rest : List ℕ) → IsNumber seq × JobFits j → pub_fields (((number seq) ++ (job j)) ++ rest) ≡ Ok (m.Pub seq j, rest)
  unfolding pub_fields
  pub_written seq j rest h =
      again number IsNumber number_field (numbers l) _ seq (job j) rest h.0
      ∙ again_last job JobFits job_field jobs _ j rest h.1

  have_written : (n : ℕ) (rest : List ℕ) → IsNumber n → have_fields ((number n) ++ rest) ≡ Ok (m.Have n, rest)
  unfolding have_fields
  have_written n rest h =
      again_last number IsNumber number_field (numbers l) _ n rest h

  up_written : (minion : List ℕ) (n : ℕ) (x : Entry) (rest : List ℕ) → IsId minion × IsNumber n × EntryFits x → up_fields (((id minion) ++ ((number n) ++ (entry x))) ++ rest) ≡ Ok (m.Up minion n x, rest)
  unfolding up_fields
  up_written minion n x rest h =
      again id IsId id_field (ids l) _ minion ((number n) ++ (entry x)) rest h.0
      ∙ again number IsNumber number_field (numbers l) _ n (entry x) rest h.1
      ∙ again_last entry EntryFits entry_field entries _ x rest h.2

  up_have_written : (minion : List ℕ) (n : ℕ) (rest : List ℕ) → IsId minion × IsNumber n → up_have_fields (((id minion) ++ (number n)) ++ rest) ≡ Ok (m.UpHave minion n, rest)
  unfolding up_have_fields
  up_have_written minion n rest h =
      again id IsId id_field (ids l) _ minion (number n) rest h.0
      ∙ again_last number IsNumber number_field (numbers l) _ n rest h.1

  hello_written : (name : List ℕ) (rest : List ℕ) → IsId name → hello_fields ((id name) ++ rest) ≡ Ok (m.Hello name, rest)
  unfolding hello_fields
  hello_written name rest h =
      again_last id IsId id_field (ids l) _ name rest h

  ask_publish_written : (kind : Kind) (tgt : List ℕ) (fun : List ℕ) (args : List Value) (rest : List ℕ) → IsText tgt × IsWord fun × ValueFits (v.List args) → ask_publish_fields (((code kind) ++ ((text tgt) ++ ((word fun) ++ (list_bytes args)))) ++ rest) ≡ Ok (m.AskPublish kind tgt fun args, rest)
  unfolding ask_publish_fields
  ask_publish_written kind tgt fun args rest h =
      again code AnyKind kind_field (kinds l) _ kind ((text tgt) ++ ((word fun) ++ (list_bytes args))) rest tt
      ∙ again text IsText text_field (texts l) _ tgt ((word fun) ++ (list_bytes args)) rest h.0
      ∙ again word IsWord word_field (words l) _ fun (list_bytes args) rest h.1
      ∙ again_last list_bytes ListFits items_field (lists l) _ args rest h.2

  ask_report_written : (jid : ℕ) (rest : List ℕ) → jid ≤ greatest_jid → ask_report_fields ((micros jid) ++ rest) ≡ Ok (m.AskReport jid, rest)
  unfolding ask_report_fields
  ask_report_written jid rest h =
      again_last micros IsJid jid_field (jids l) _ jid rest h

  ask_mine_written : (kind : Kind) (tgt : List ℕ) (fun : List ℕ) (rest : List ℕ) → IsText tgt × IsWord fun → ask_mine_fields (((code kind) ++ ((text tgt) ++ (word fun))) ++ rest) ≡ Ok (m.AskMine kind tgt fun, rest)
  unfolding ask_mine_fields
  ask_mine_written kind tgt fun rest h =
      again code AnyKind kind_field (kinds l) _ kind ((text tgt) ++ (word fun)) rest tt
      ∙ again text IsText text_field (texts l) _ tgt (word fun) rest h.0
      ∙ again_last word IsWord word_field (words l) _ fun rest h.1

  answer_written : (status : ℕ) (report : List ℕ) (rest : List ℕ) → (is_status status ≡ true) × IsText report × (length report ≤ 1000000) → answer_fields (((one_byte status) ++ (text report)) ++ rest) ≡ Ok (m.Answer status report, rest)
  unfolding answer_fields
  answer_written status report rest h =
      again one_byte IsStatus status_field statuses _ status (text report) rest h.0
      ∙ again_last text (IsShortText 1000000) (short_text 1000000) (short_texts l 1000000) _ report rest (h.1, h.2)

  messages_written : (x : Message) (rest : List ℕ) → Within x → kind_and_fields (spelled x ++ rest) ≡ Ok (x, rest)
  unfolding kind_and_fields message_fields client_fields
  messages_written (m.Pub seq j) rest h = pub_written seq j rest h
  messages_written (m.Have n) rest h = have_written n rest h
  messages_written (m.Up minion n x) rest h = up_written minion n x rest h
  messages_written (m.UpHave minion n) rest h = up_have_written minion n rest h
  messages_written (m.Hello name) rest h = hello_written name rest h
  messages_written m.End rest h = refl
  messages_written (m.AskPublish kind tgt fun args) rest h = ask_publish_written kind tgt fun args rest h
  messages_written (m.AskReport jid) rest h = ask_report_written jid rest h
  messages_written m.AskJobs rest h = refl
  messages_written (m.AskMine kind tgt fun) rest h = ask_mine_written kind tgt fun rest h
  messages_written (m.Answer status report) rest h = answer_written status report rest h

  pub messages : IsReadBack spelled Within kind_and_fields
  messages = record { written = messages_written; took = messages_took }
