-- What the calls and answers of the code are in the model, and what it is to make them on a table.
use Rattle.std.specs.Prelude.{◌≡◌, ℕ, List, map, Result}
use Rattle.cards.specs.Decks.{DeckMeaning}
use Rattle.cards.specs.Shuffles.{ShuffleMeaning}
use Rattle.protocol.specs.Table as model
use Rattle.protocol.specs.Table.{replied, session}
use Rattle.table.specs.Views.{table_of, where_of, answered, reply}
use Rattle.table.specs.declared.fault.TableFault.{TableFault}
use Rattle.table.specs.declared.table.Table.{Table}
use Rattle.tree.specs.Walks.{playing}
use Rattle.sessions.specs.declared.call.Call.{Call}
use Rattle.sessions.specs.declared.call.Call.TheVariants.{Lay, Step, Turn, Finish, Where}
use Rattle.sessions.specs.declared.call.Reply.{Reply}
use Rattle.sessions.specs.declared.call.Reply.TheVariants.{Began, Stepped, Turned, Finished, Stands}

abbrev pub call_of : Call → model.Call
call_of (Lay number) = model.lay number
call_of (Step draw) = model.step draw
call_of Turn = model.turn_up
call_of Finish = model.finish
call_of Where = model.where_now

abbrev pub Answer : Type 0
Answer = Result Reply TableFault

abbrev pub reply_of : Reply → model.Answer
reply_of (Began line) = model.began line
reply_of (Stepped line) = model.stepped line
reply_of (Turned line written) = model.turned line written
reply_of (Finished output) = model.finished output
reply_of (Stands at) = model.stands_at (where_of at)

abbrev pub answer_of : Answer → model.Answer
answer_of a = answered reply_of a

-- one call: the answer, the table and the record after it are the model's
abbrev pub CallMade : DeckMeaning → (ℕ → ShuffleMeaning) → Table → List ℕ → Call → Answer → Table → List ℕ → Type 0
CallMade deck bank t bytes call answer after bytes_after =
    replied (playing t.script.script deck bank) (table_of t) bytes (call_of call)
    ≡ reply (answer_of answer) (table_of after) bytes_after

-- a list of calls: all the answers and the record at the end are the model's
pub record CallsMade (deck : DeckMeaning) (bank : ℕ → ShuffleMeaning) (t : Table) (bytes : List ℕ) (calls : List Call) (answers : List Answer) (bytes_after : List ℕ) : Type 0 where
  pub answered : map answer_of answers ≡ (session (playing t.script.script deck bank) (table_of t) bytes (map call_of calls)).answers
  pub recorded : bytes_after ≡ (session (playing t.script.script deck bank) (table_of t) bytes (map call_of calls)).bytes
