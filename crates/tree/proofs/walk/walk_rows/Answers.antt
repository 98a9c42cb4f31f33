use Rattle.std.proofs.Common.{◌≡◌, ℕ, ◌≤◌, length, Ok, Err, Result, sym, ap, ◌∙◌, subst, arith, rules}
use Rattle.std.proofs.lemmas.Result.{err_from_is_err_and}
use Rattle.heads.specs.declared.head.Head.{Head}
use Rattle.protocol.specs.Machine.{Protocol}
use Rattle.protocol.specs.States.{start_state}
use Rattle.protocol.specs.Tree.{events, bench_rows}
use Rattle.tree.specs.declared.fault.TreeFault.{TreeFault}
use Rattle.tree.specs.Walks.{playing, counted, faulted, Walked}
use Rattle.tree.proofs.Arriving.{held}
use Rattle.line_parts.proofs.Acting.{lawful}
use Rattle.tree.proofs.Rooting.{laid, entered_start, root_walked}
use Rattle.tree.proofs.walk.walk_rows.Goals as goal
use Rattle.tree.proofs.walk.walk_rows.Goals.{After-enter}
use Rattle.tree.proofs.walk.walk_rows.Given.{Over}

pub start-made-requires-clause-players : goal.start-made-requires-clause-players
start-made-requires-clause-players g c =
    subst (λ (x : Head). x.players ≤ 3) (sym c.head-players.ensures) (lawful c.args.script.now).few_players

pub start-made-requires-clause-codes : goal.start-made-requires-clause-codes
start-made-requires-clause-codes g c =
    let l = lawful c.args.script.now in
    let k = l.laid in
    let f = l.few_cards in
    let e = ap length c.codes-codes.ensures in
    omega arith

pub enter-requires-clause-entered : goal.enter-requires-clause-entered
enter-requires-clause-entered g c =
    let p : Protocol = playing c.args.script.now (g.D.Deck.means c.args.deck.now) (g.B.Bank.at c.args.bank.now) in
    entered_start c.args.script.now c.start-made.result (start_state p) c.split_at_mut-room.result.0.now c.start-made.new.room (c.start-made.ensures.put p (laid c.args.script.now (g.D.Deck.means c.args.deck.now) (g.B.Bank.at c.args.bank.now) c.head-players.result c.codes-codes.result.now c.head-players.ensures c.codes-codes.ensures)) c.start-made.auto.room c.head-players.result.players
    (λ m b f k. c.start-made.ensures.totals m b f k)

-- the walk from the root
walked : (g : Over) (c : After-enter g) → Walked (g.V.Visitor.visits (playing c.args.script.now (g.D.Deck.means c.args.deck.now) (g.B.Bank.at c.args.bank.now))) (length c.args.bench.now) (events (playing c.args.script.now (g.D.Deck.means c.args.deck.now) (g.B.Bank.at c.args.bank.now))) 0
    c.args.visitor.now c.enter.new.self.visitor.now (faulted (counted c.enter.new.self.nodes c.enter.result))
walked g c =
    let p : Protocol = playing c.args.script.now (g.D.Deck.means c.args.deck.now) (g.B.Bank.at c.args.bank.now) in
    let room : length c.start-made.new.room ≡ bench_rows (length c.args.bench.now) =
    (let least = c.min-len.ensures in let front = c.split_at_mut-room.ensures.front_len in let kept = c.start-made.auto.room in omega arith) in
    root_walked g.V.Visitor.visits p (length c.args.bench.now) (length c.start-made.new.room) c.new.result.items c.args.visitor.now c.enter.new.self.visitor.now (counted c.enter.new.self.nodes c.enter.result) room c.new.ensures
    (c.enter.ensures.walked (start_state p) (held c.start-made.result (start_state p) c.split_at_mut-room.result.0.now c.start-made.new.room (c.start-made.ensures.put p (laid c.args.script.now (g.D.Deck.means c.args.deck.now) (g.B.Bank.at c.args.bank.now) c.head-players.result c.codes-codes.result.now c.head-players.ensures c.codes-codes.ensures)) c.start-made.auto.room))

-- the visitor that the walk leaves behind the caller's reference
left_behind : {V : Type 0} (P : V → Type 0) (v w : V) → v ≡ w → P w → P v
left_behind P v w e h = subst P (sym e) h

pub returns-in_err-enter-clause-walked : goal.returns-in_err-enter-clause-walked
returns-in_err-enter-clause-walked g c =
    let p : Protocol = playing c.args.script.now (g.D.Deck.means c.args.deck.now) (g.B.Bank.at c.args.bank.now) in
    let exit = err_from_is_err_and c.from_residual.result c.from_residual.ensures.1 in
    let err : TreeFault → Result ℕ TreeFault = λ f. Err f in
    left_behind (λ v. Walked (g.V.Visitor.visits p) (length c.args.bench.now) (events p) 0 c.args.visitor.now v (faulted c.from_residual.result)) _ c.enter.new.self.visitor.now (search rules)
    (subst (λ (r : Result ℕ TreeFault). Walked (g.V.Visitor.visits p) (length c.args.bench.now) (events p) 0 c.args.visitor.now c.enter.new.self.visitor.now (faulted r))
    (ap (counted c.enter.new.self.nodes) c.in_err-enter.was ∙ sym (exit.1 ∙ ap err exit.2)) (walked g (goal.at.returns-in_err-enter-clause-walked g c).After-enter))

pub returns-clause-walked : goal.returns-clause-walked
returns-clause-walked g c =
    let p : Protocol = playing c.args.script.now (g.D.Deck.means c.args.deck.now) (g.B.Bank.at c.args.bank.now) in
    left_behind (λ v. Walked (g.V.Visitor.visits p) (length c.args.bench.now) (events p) 0 c.args.visitor.now v (Ok c.enter.new.self.nodes)) _ c.enter.new.self.visitor.now (search rules)
    (subst (λ (r : Result ℕ TreeFault). Walked (g.V.Visitor.visits p) (length c.args.bench.now) (events p) 0 c.args.visitor.now c.enter.new.self.visitor.now (faulted r))
    (ap (counted c.enter.new.self.nodes) c.in_ok-enter.was) (walked g (goal.at.returns-clause-walked g c).After-enter))
