-- A list of calls, one after the other.
use Rattle.std.proofs.Common.{◌≡◌, ℕ, ◌+◌, ◌<◌, ◌≤◌, List, [], ◌∷◌, ◌++◌, map, length, get_or, drop, sym, ap, ◌∙◌, append_assoc}
use Rattle.std.proofs.lemmas.List.{map_push, drop_all, drop_more, append-nil}
use Rattle.protocol.specs.Machine.{Protocol}
use Rattle.protocol.specs.Table as model
use Rattle.protocol.specs.Table.{Session, session, replied, preceded}
use Rattle.table.specs.Views.{reply}
use Rattle.sessions.specs.Calls.{Answer, call_of, answer_of}
use Rattle.sessions.specs.declared.call.Call.{Call}

-- the answers so far, and then a session
abbrev pub prepended : List model.Answer → Session → Session
prepended answers s = record { answers = answers ++ s.answers; table = s.table; bytes = s.bytes }

-- what all the calls come to, from what those so far have come to
abbrev pub Going : Protocol → Session → List Answer → model.Table → List ℕ → List Call → Type 0
Going p whole done t bytes left = whole ≡ prepended (map answer_of done) (session p t bytes (map call_of left))

module _ (p : Protocol) (whole : Session) where
  first_call : (t after : model.Table) (bytes bytes_after : List ℕ) (call : Call) (more : List Call) (a : Answer)
      → replied p t bytes (call_of call) ≡ reply (answer_of a) after bytes_after
      → session p t bytes (map call_of (call ∷ more)) ≡ preceded (answer_of a) (session p after bytes_after (map call_of more))
  unfolding session
  first_call t after bytes bytes_after call more a e =
      ap (λ (r : model.Reply). preceded r.answer (session p r.table r.bytes (map call_of more))) e

  one_more : (done : List Answer) (a : Answer) (s : Session)
      → prepended (map answer_of done) (preceded (answer_of a) s) ≡ prepended (map answer_of (done ++ a ∷ [])) s
  one_more done a s =
      ap (λ (list : List model.Answer). record { answers = list; table = s.table; bytes = s.bytes })
      (sym (ap (λ (list : List model.Answer). list ++ s.answers) (map_push answer_of done a) ∙ append_assoc (map answer_of done) (answer_of a ∷ []) s.answers))

  pub going_on : (done then : List Answer) (t after : model.Table) (bytes bytes_after : List ℕ) (calls : List Call) (i : ℕ) (d : Call) (a : Answer)
      → i < length calls → replied p t bytes (call_of (get_or calls i d)) ≡ reply (answer_of a) after bytes_after → then ≡ done ++ a ∷ []
      → Going p whole done t bytes (drop i calls) → Going p whole then after bytes_after (drop (i + 1) calls)
  going_on done then t after bytes bytes_after calls i d a h e n w =
      let more : List Call = drop (i + 1) calls in
      w
      ∙ ap (λ (cs : List Call). prepended (map answer_of done) (session p t bytes (map call_of cs))) (drop_more calls i d h)
      ∙ ap (prepended (map answer_of done)) (first_call t after bytes bytes_after (get_or calls i d) more a e)
      ∙ one_more done a (session p after bytes_after (map call_of more))
      ∙ ap (λ (list : List Answer). prepended (map answer_of list) (session p after bytes_after (map call_of more))) (sym n)

  pub gone : (done : List Answer) (t : model.Table) (bytes : List ℕ) (calls : List Call) (i : ℕ) → length calls ≤ i
      → Going p whole done t bytes (drop i calls) → (map answer_of done ≡ whole.answers) × (bytes ≡ whole.bytes)
  unfolding session
  gone done t bytes calls i h w =
      let e : whole ≡ prepended (map answer_of done) (session p t bytes []) =
      w ∙ ap (λ (cs : List Call). prepended (map answer_of done) (session p t bytes (map call_of cs))) (drop_all i calls h) in
      (sym (ap (λ (s : Session). s.answers) e ∙ append-nil (map answer_of done)), sym (ap (λ (s : Session). s.bytes) e))
