use Rattle.std.proofs.Common.{◌≡◌, ◌≤◌, map, length, drop, vec_items, vec_len, vec_capacity}
use Rattle.protocol.specs.Table.{session}
use Rattle.table.specs.Views.{table_of}
use Rattle.tree.specs.Walks.{playing}
use Rattle.sessions.specs.Calls.{call_of}
use Rattle.sessions.proofs.Going.{Going}
use Rattle.sessions.proofs.calls.make_calls.Given as goal

abbrev pub invariant-loop-call : goal.invariant-loop-call
invariant-loop-call g l = record {
  going : Going (playing l.table.script.script (g.D.Deck.means l.deck) (g.B.Bank.at l.bank))
      (session (playing l.initial.table.script.script (g.D.Deck.means l.deck) (g.B.Bank.at l.bank)) (table_of l.initial.table) l.initial.record (map call_of l.calls))
      (vec_items l.answers) (table_of l.table) l.record (drop l.call-index l.calls);
  count : vec_len l.answers ≡ l.call-index;
  room : length l.calls ≤ vec_capacity l.answers;
}
