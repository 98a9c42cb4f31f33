use Rattle.std.proofs.Common.{map, vec_items, rules}
use Rattle.certifier.specs.declared.certified.CertifiedScript.{CertifiedScript}
use Rattle.protocol.specs.Machine.{Protocol}
use Rattle.protocol.specs.Table.{Session, session}
use Rattle.table.specs.Views.{table_of}
use Rattle.tree.specs.Walks.{playing}
use Rattle.sessions.specs.Calls.{call_of}
use Rattle.sessions.proofs.Going.{going_on, gone}
use Rattle.sessions.proofs.calls.make_calls.Goals as goal

pub loop-call-preserved : goal.loop-call-preserved
loop-call-preserved g c =
    let by : CertifiedScript → Protocol = λ s. playing s.script (g.D.Deck.means c.args.deck.now) (g.B.Bank.at c.args.bank.now) in
    let whole : Session = session (by c.args.table.now.script) (table_of c.args.table.now) c.args.record.now (map call_of c.args.calls.now) in
    record {
      going = rw c.make_call.ensures.kept (going_on (by c.loop-call.table.script) whole (vec_items c.loop-call.answers) (vec_items c.push_reserved.new.self)
          (table_of c.loop-call.table) (table_of c.make_call.new.table) c.loop-call.record c.make_call.new.record c.args.calls.now c.loop-call.call-index _ c.make_call.result
          c.loop-call-test.true c.make_call.ensures.made c.push_reserved.ensures.items c.loop-call.invariant.going);
      count = search rules;
      room = search rules;
    }

pub returns : goal.returns
returns g c =
    let by : CertifiedScript → Protocol = λ s. playing s.script (g.D.Deck.means c.args.deck.now) (g.B.Bank.at c.args.bank.now) in
    let done = gone (by c.loop-call.table.script) (session (by c.args.table.now.script) (table_of c.args.table.now) c.args.record.now (map call_of c.args.calls.now))
    (vec_items c.loop-call.answers) (table_of c.loop-call.table) c.loop-call.record c.args.calls.now c.loop-call.call-index c.loop-call-test.false c.loop-call.invariant.going in
    record { answered = done.0; recorded = done.1 }
