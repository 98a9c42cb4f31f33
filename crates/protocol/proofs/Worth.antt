-- What a list of calls is worth: the sum, over all fillings of its draws, of any function of the answers, the table and
-- the record at the end. Two inputs of one class make it worth the same.
use Rattle.std.proofs.Common.{◌≡◌, ℕ, ◌-◌, Bool, true, false, cond, ltb, List, [], ◌∷◌, length, Some, None, Option, sym, refl, ap, ◌∙◌, subst}
use mathlib.Core.Path.{fun_ext}
use Rattle.cards.specs.declared.reading.Reading.{Reading}
use Rattle.cards.specs.declared.reading.Reading.TheVariants.{Zero, One, Neither}
use Rattle.script.specs.Model.{Action, permute, shuffle, turn, committed, opened, none}
use Rattle.protocol.specs.Machine.{Protocol, action_at, Run, acted, given, sum_below, one_if, count}
use Rattle.protocol.specs.Table.{Phase, empty, running, ended, Table, Call, lay, step, turn_up, finish, where_now, Answer, Reply, refuse, run_of, after_step, after_turn, after_finish, step_at, turn_at, finish_at, when_running, lay_at, replied, session, Asked, lay_own, lay_other, lay_same, ask_turn, ask_finish, ask_where, Planned, step_drawn, asked, call_of, steps_in, filled}
use Rattle.protocol.proofs.Sums.{sum_below_zero}

-- a function of the answers, the table and the record after a list of calls
abbrev pub After : Type 0
After = List Answer → Table → List ℕ → ℕ

abbrev pub then_worth : (After → Table → List ℕ → ℕ) → After → Reply → ℕ
then_worth rest after r = rest (λ answers. after (r.answer ∷ answers)) r.table r.bytes

abbrev pub worth : ℕ → Protocol → ℕ → ℕ → List Planned → After → Table → List ℕ → ℕ
worth n p own other [] after t bytes = after [] t bytes
worth n p own other (step_drawn ∷ cs) after t bytes =
    sum_below n (λ d. then_worth (worth n p own other cs) after (replied p t bytes (step d)))
worth n p own other (asked a ∷ cs) after t bytes =
    then_worth (worth n p own other cs) after (replied p t bytes (call_of own other a))

-- the fillings that a test passes are what the list is worth
pub count_worth : (n : ℕ) (p : Protocol) (own other : ℕ) (plan : List Planned) (test : List Answer → List ℕ → Bool) (t : Table) (bytes : List ℕ) → count n (steps_in plan) (λ draws. test (session p t bytes (filled own other draws plan)).answers (session p t bytes (filled own other draws plan)).bytes) ≡ worth n p own other plan (λ answers t final. one_if (test answers final)) t bytes
unfolding count session
count_worth n p own other [] test t bytes = refl
count_worth n p own other (step_drawn ∷ cs) test t bytes =
    ap (sum_below n) (fun_ext (λ d.
    let r = replied p t bytes (step d) in count_worth n p own other cs (λ answers. test (r.answer ∷ answers)) r.table r.bytes))
count_worth n p own other (asked a ∷ cs) test t bytes =
    let r = replied p t bytes (call_of own other a) in
    count_worth n p own other cs (λ answers. test (r.answer ∷ answers)) r.table r.bytes

-- nothing comes of nothing
pub worth_zero : (n : ℕ) (p : Protocol) (own other : ℕ) (plan : List Planned) (after : After) → ((answers : List Answer) (t : Table) (bytes : List ℕ) → after answers t bytes ≡ 0) → (t : Table) (bytes : List ℕ) → worth n p own other plan after t bytes ≡ 0
worth_zero n p own other [] after h t bytes = h [] t bytes
worth_zero n p own other (step_drawn ∷ cs) after h t bytes =
    ap (sum_below n) (fun_ext (λ d.
    let r = replied p t bytes (step d) in
    worth_zero n p own other cs (λ answers. after (r.answer ∷ answers)) (λ answers. h (r.answer ∷ answers)) r.table r.bytes))
    ∙ sum_below_zero n
worth_zero n p own other (asked a ∷ cs) after h t bytes =
    let r = replied p t bytes (call_of own other a) in
    worth_zero n p own other cs (λ answers. after (r.answer ∷ answers)) (λ answers. h (r.answer ∷ answers)) r.table r.bytes

-- On a table that is not empty every lay is refused, so the inputs no longer matter.

abbrev pub Laid : Phase → Type 0
Laid empty = ⊥
Laid running = Unit
Laid ended = Unit

pub lay_refused : (p : Protocol) (t : Table) (bytes : List ℕ) (x : ℕ) (phase : Phase) → Laid phase → lay_at p t bytes x phase ≡ refuse t bytes 25
lay_refused p t bytes x empty h = absurd h
lay_refused p t bytes x running h = refl
lay_refused p t bytes x ended h = refl

after_step_laid : (t : Table) (bytes : List ℕ) (k : ℕ) (o : Option Run) → Laid t.phase → Laid (after_step t bytes k o).table.phase
after_step_laid t bytes k None h = h
after_step_laid t bytes k (Some r) h = tt

after_turn_laid : (t : Table) (bytes : List ℕ) (k : ℕ) (o : Option Run) → Laid t.phase → Laid (after_turn t bytes k o).table.phase
after_turn_laid t bytes k None h = h
after_turn_laid t bytes k (Some r) h = tt

after_finish_laid : (t : Table) (bytes : List ℕ) (k : ℕ) (r : Reading) → Laid t.phase → Laid (after_finish t bytes k r).table.phase
after_finish_laid t bytes k Zero h = tt
after_finish_laid t bytes k One h = tt
after_finish_laid t bytes k Neither h = h

cond_laid : (b : Bool) (r s : Reply) → Laid r.table.phase → Laid s.table.phase → Laid (cond b r s).table.phase
cond_laid true r s h k = h
cond_laid false r s h k = k

step_laid : (p : Protocol) (t : Table) (bytes : List ℕ) (d : ℕ) (action : Action) → Laid t.phase → Laid (step_at p t bytes d action).table.phase
step_laid p t bytes d (permute images next) h =
    cond_laid (ltb d 1) (after_step t bytes 29 (acted p (run_of t []) (permute images next))) (refuse t bytes 29) tt h
step_laid p t bytes d (shuffle total next) h = after_step_laid t bytes 29 (acted p (run_of t (d ∷ [])) (shuffle total next)) h
step_laid p t bytes d (turn places branches) h = h
step_laid p t bytes d (committed left right) h = h
step_laid p t bytes d (opened output) h = h
step_laid p t bytes d none h = h

turn_laid : (p : Protocol) (t : Table) (bytes : List ℕ) (action : Action) → Laid t.phase → Laid (turn_at p t bytes action).table.phase
turn_laid p t bytes (permute images next) h = h
turn_laid p t bytes (shuffle total next) h = h
turn_laid p t bytes (turn places branches) h =
    cond_laid (ltb (length bytes - t.written) (length places)) (refuse t bytes 30)
    (after_turn t bytes 31 (acted p (run_of t []) (turn places branches))) h
    (after_turn_laid t bytes 31 (acted p (run_of t []) (turn places branches)) h)
turn_laid p t bytes (committed left right) h = h
turn_laid p t bytes (opened output) h = h
turn_laid p t bytes none h = h

finish_laid : (p : Protocol) (t : Table) (bytes : List ℕ) (action : Action) → Laid t.phase → Laid (finish_at p t bytes action).table.phase
finish_laid p t bytes (permute images next) h = h
finish_laid p t bytes (shuffle total next) h = h
finish_laid p t bytes (turn places branches) h = h
finish_laid p t bytes (committed left right) h = after_finish_laid t bytes 31 (given p.deck t.cards (committed left right)) h
finish_laid p t bytes (opened output) h = after_finish_laid t bytes 31 (given p.deck t.cards (opened output)) h
finish_laid p t bytes none h = h

when_laid : (t : Table) (bytes : List ℕ) (phase : Phase) (r : Reply) → Laid t.phase → Laid r.table.phase → Laid (when_running t bytes phase r).table.phase
when_laid t bytes empty r h k = h
when_laid t bytes running r h k = k
when_laid t bytes ended r h k = h

pub replied_laid : (p : Protocol) (t : Table) (bytes : List ℕ) (c : Call) → Laid t.phase → Laid (replied p t bytes c).table.phase
replied_laid p t bytes (lay x) h =
    subst (λ (r : Reply). Laid r.table.phase) (sym (lay_refused p t bytes x t.phase h)) h
replied_laid p t bytes (step d) h =
    when_laid t bytes t.phase (step_at p t bytes d (action_at p t.line)) h (step_laid p t bytes d (action_at p t.line) h)
replied_laid p t bytes turn_up h =
    when_laid t bytes t.phase (turn_at p t bytes (action_at p t.line)) h (turn_laid p t bytes (action_at p t.line) h)
replied_laid p t bytes finish h =
    when_laid t bytes t.phase (finish_at p t bytes (action_at p t.line)) h (finish_laid p t bytes (action_at p t.line) h)
replied_laid p t bytes where_now h = h

-- a call by its kind is answered alike, whatever the inputs
asked_alike : (p : Protocol) (b c x y : ℕ) (t : Table) (bytes : List ℕ) (a : Asked) → Laid t.phase → replied p t bytes (call_of b c a) ≡ replied p t bytes (call_of x y a)
asked_alike p b c x y t bytes lay_own h = lay_refused p t bytes b t.phase h ∙ sym (lay_refused p t bytes x t.phase h)
asked_alike p b c x y t bytes lay_other h = lay_refused p t bytes c t.phase h ∙ sym (lay_refused p t bytes y t.phase h)
asked_alike p b c x y t bytes (lay_same z) h = refl
asked_alike p b c x y t bytes ask_turn h = refl
asked_alike p b c x y t bytes ask_finish h = refl
asked_alike p b c x y t bytes ask_where h = refl

pub worth_own : (n : ℕ) (p : Protocol) (b c x y : ℕ) (plan : List Planned) (after : After) (t : Table) (bytes : List ℕ) → Laid t.phase → worth n p b c plan after t bytes ≡ worth n p x y plan after t bytes
worth_own n p b c x y [] after t bytes h = refl
worth_own n p b c x y (step_drawn ∷ cs) after t bytes h =
    ap (sum_below n) (fun_ext (λ d.
    let r = replied p t bytes (step d) in
    worth_own n p b c x y cs (λ answers. after (r.answer ∷ answers)) r.table r.bytes (replied_laid p t bytes (step d) h)))
worth_own n p b c x y (asked a ∷ cs) after t bytes h =
    let r = replied p t bytes (call_of b c a) in
    worth_own n p b c x y cs (λ answers. after (r.answer ∷ answers)) r.table r.bytes (replied_laid p t bytes (call_of b c a) h)
    ∙ ap (then_worth (worth n p x y cs) after) (asked_alike p b c x y t bytes a h)
