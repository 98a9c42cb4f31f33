use Rattle.std.proofs.Common.{◌≤◌, take, refl, rules, arith}
use Rattle.std.proofs.lemmas.List.{length-take-le}
use Rattle.rows.proofs.Order.{parted}
use Rattle.rows.proofs.Holdings.{settled_already, turned_holding, turned_shorter, turned_settled}
use Rattle.rows.proofs.batch.+settle.Goals as goal
use Rattle.rows.proofs.batch.+settle.Goals.{then-len-eq0-via-then-len-eq0, then-len-eq0-via-else-len-eq0+then-len-end, then-len-eq0-via-else-len-eq0+else-len-end+then-rows-len}

pub returns-then-len-eq0 : goal.returns-then-len-eq0
returns-then-len-eq0 t c =
    settled_already c.args.rows.now c.args.len c.requires.holding (λ l m.
    elim c.then-len-eq0.branch [
      | then-len-eq0-via-then-len-eq0 w ↦ absurd (let e = w.if-len-eq0.true in omega arith)
      | then-len-eq0-via-else-len-eq0+then-len-end w ↦ absurd (let e = w.if-len-end.true in omega arith)
      | then-len-eq0-via-else-len-eq0+else-len-end+then-rows-len w ↦ w.if-rows-len.true
    ])

pub settle-requires : goal.settle-requires
settle-requires t c =
    let long = length-take-le c.args.len c.args.rows.now c.requires.holding.order in
    let within : c.partition_point-at.result ≤ c.args.len = (let b = c.partition_point-at.ensures.bound in omega arith) in
    let p = parted (take c.args.len c.args.rows.now) _ c.partition_point-at.result c.partition_point-at.ensures.partitioned c.requires.holding.run (λ a r f k. search rules) in
    let h = turned_holding c.args.rows.now c.args.len c.partition_point-at.result c.requires.holding (let o = c.requires.holding.order in let e = c.if-len-end.false in omega arith) within p _ (c.rotate_right.new.self) refl c.rotate_right.ensures.after in
    let l = turned_shorter c.args.rows.now c.args.len c.partition_point-at.result c.requires.holding (let o = c.requires.holding.order in let e = c.if-len-end.false in omega arith) within p _ c.rotate_right.new.self refl c.rotate_right.ensures.after in
    let d = c.decreases in
    (omega arith, h)

pub returns : goal.returns
returns t c =
    let long = length-take-le c.args.len c.args.rows.now c.requires.holding.order in
    let within : c.partition_point-at.result ≤ c.args.len = (let b = c.partition_point-at.ensures.bound in omega arith) in
    let p = parted (take c.args.len c.args.rows.now) _ c.partition_point-at.result c.partition_point-at.ensures.partitioned c.requires.holding.run (λ a r f k. search rules) in
    turned_settled c.args.rows.now c.args.len c.partition_point-at.result c.requires.holding (let o = c.requires.holding.order in let e = c.if-len-end.false in omega arith) within p _ c.rotate_right.new.self refl c.rotate_right.ensures.after _ c.settle.ensures
