use Rattle.std.proofs.Common.{◌≡◌, ℕ, ◌+◌, ◌-◌, ◌<◌, ◌≤◌, List, length, get_or, take, drop, set, refl, ap, arith, rules}
use borrow.Rule.Slice.PartMut.{put_mid}
use Rattle.std.proofs.lemmas.List.{length-take-le, get_or-take}
use Rattle.rows.specs.declared.row.Row as code
use Rattle.rows.specs.Views.{sequence_at}
use Rattle.rows.proofs.Order.{parted}
use Rattle.rows.proofs.Runs.{past, apart, written_same, written_new, joined_length}
use Rattle.rows.proofs.Totals.{weight_le}
use Rattle.rows.proofs.join.join.Goals as goal
use Rattle.rows.proofs.join.join.Goals.{else-at-len-via-then-at-len+else-rows-at, else-at-len-via-else-at-len}

pub add-requires : goal.add-requires
add-requires c =
    λ b h.
    let i : ℕ = c.partition_point-at.result in
    let long : length (take c.args.len c.args.rows.now) ≡ c.args.len = length-take-le c.args.len c.args.rows.now c.requires.within in
    let e : get_or (take c.args.len c.args.rows.now) i past ≡ get_or c.args.rows.now i past = get_or-take c.args.len c.args.rows.now i past c.if-at-len.true in
    let w = weight_le (take c.args.len c.args.rows.now) i past b (omega arith) in
    let f : get_or (get_or (take c.args.len c.args.rows.now) i past).weights b 0 ≡ get_or (get_or c.args.rows.now i past).weights b 0 = ap (λ (x : code.Row). get_or x.weights b 0) e in
    let s = c.requires.small b h in
    omega arith

pub returns-then-rows-at-clause-put : goal.returns-then-rows-at-clause-put
returns-then-rows-at-clause-put c =
    let p = parted (take c.args.len c.args.rows.now) c.args.row.now.sequence c.partition_point-at.result c.partition_point-at.ensures.partitioned c.requires.ascending (λ a r f k. search rules) in
    written_same c.args.rows.now c.args.len c.partition_point-at.result c.args.row.now (take c.args.len c.args.rows.now) refl p.below
    c.add.new.sums c.requires.within c.if-at-len.true c.if-rows-at.true c.add.ensures

pub returns-then-len-rows-clause-put : goal.returns-then-len-rows-clause-put
returns-then-len-rows-clause-put c =
    let p = parted (take c.args.len c.args.rows.now) c.args.row.now.sequence c.partition_point-at.result c.partition_point-at.ensures.partitioned c.requires.ascending (λ a r f k. search rules) in
    let i : ℕ = c.partition_point-at.result in
    let rows : List code.Row = c.args.rows.now in
    let within : i ≤ c.args.len = (let n = length-take-le c.args.len rows c.requires.within in omega arith) in
    let above : i < c.args.len → c.args.row.now.sequence < sequence_at (take c.args.len rows) i = λ h.
    elim c.else-at-len.branch [
      | else-at-len-via-then-at-len+else-rows-at w ↦ apart rows c.args.len i c.args.row.now (take c.args.len rows) refl p.below p.above c.requires.within h w.if-rows-at.false
      | else-at-len-via-else-at-len w ↦ absurd (let f = w.if-at-len.false in omega arith)
    ] in
    let n = joined_length rows c.args.len i c.args.row.now (take c.args.len rows) refl p.below c.requires.within within above in
    omega arith

pub returns-clause-put : goal.returns-clause-put
returns-clause-put c =
    let p = parted (take c.args.len c.args.rows.now) c.args.row.now.sequence c.partition_point-at.result c.partition_point-at.ensures.partitioned c.requires.ascending (λ a r f k. search rules) in
    let i : ℕ = c.partition_point-at.result in
    let rows : List code.Row = c.args.rows.now in
    let within : i ≤ c.args.len = (let n = length-take-le c.args.len rows c.requires.within in omega arith) in
    let above : i < c.args.len → c.args.row.now.sequence < sequence_at (take c.args.len rows) i = λ h.
    elim c.else-at-len.branch [
      | else-at-len-via-then-at-len+else-rows-at w ↦ apart rows c.args.len i c.args.row.now (take c.args.len rows) refl p.below p.above c.requires.within h w.if-rows-at.false
      | else-at-len-via-else-at-len w ↦ absurd (let f = w.if-at-len.false in omega arith)
    ] in
    written_new rows c.args.len i c.args.row.now (take c.args.len rows) refl p.below c.requires.within within above
    (take (c.args.len + 1 - i) (drop i rows)) _ c.if-len-rows.false refl
    (ap (λ (xs : List code.Row). set (put_mid i (c.args.len + 1 - i) rows xs) i c.args.row.now) c.rotate_right.ensures.after)
