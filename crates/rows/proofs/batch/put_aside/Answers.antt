use Rattle.std.proofs.Common.{◌≡◌, ℕ, ◌+◌, ◌-◌, ◌<◌, List, ◌++◌, length, take, drop, sym, ap, ◌∙◌, subst, arith}
use Rattle.protocol.specs.States.{Row, join, total_of}
use Rattle.rows.specs.declared.row.Row as code
use Rattle.rows.specs.Views.{row_view, rows_view, sequence_at, Written}
use Rattle.rows.specs.Batches.{held_state, Held}
use Rattle.rows.proofs.Asides.{aside_run, aside_batch, aside_more, aside_none, batch_ascends, batch_state, batch_put, total_held}
use Rattle.rows.proofs.batch.put_aside.Goals as goal

pub add_same-requires-clause-small : goal.add_same-requires-clause-small
add_same-requires-clause-small c =
    λ b h.
    let e : total_of b (rows_view c.split_at_mut-run.result.0.now) ≡ total_of b (rows_view (take c.args.len c.args.room.now)) = ap (λ (zs : List code.Row). total_of b (rows_view zs)) c.split_at_mut-run.ensures.front in
    let s = c.requires.small b h in
    let t = total_held c.args.len c.args.end c.args.room.now b h in
    omega arith

pub join-requires-2-clause-small : goal.join-requires-2-clause-small
join-requires-2-clause-small c =
    λ b h.
    let e : total_of b (rows_view (take (c.args.end - c.args.len) c.split_at_mut-run.result.1.now)) ≡ total_of b (rows_view (take (c.args.end - c.args.len) (drop c.args.len c.args.room.now))) = ap (λ (zs : List code.Row). total_of b (rows_view (take (c.args.end - c.args.len) zs))) c.split_at_mut-run.ensures.back in
    let s = c.requires.small b h in
    let t = total_held c.args.len c.args.end c.args.room.now b h in
    omega arith

pub returns-then-add_same : goal.returns-then-add_same
returns-then-add_same c =
    let r : code.Row = c.args.row.now in
    let room : List code.Row = c.args.room.now in
    let S : List Row = join (row_view r) (held_state c.args.len c.args.end room) in
    let h = aside_run c.args.len c.args.end room c.requires.holding r c.add_same.new.run (c.add_same.auto.run ∙ c.split_at_mut-run.ensures.front_len)
    (c.add_same.ensures.joined c.if-add_same.true ∙ ap (λ (zs : List code.Row). join (row_view r) (rows_view zs)) c.split_at_mut-run.ensures.front)
    (λ i. c.add_same.ensures.sequences i ∙ ap (λ (zs : List code.Row). sequence_at zs i) c.split_at_mut-run.ensures.front) in
    record { put = (omega arith, subst (λ (zs : List code.Row). Held c.args.len c.args.end S room (c.add_same.new.run ++ zs)) (sym c.split_at_mut-run.ensures.back) h) }

pub returns-in_err-count : goal.returns-in_err-count
returns-in_err-count c =
    let r : code.Row = c.args.row.now in
    let room : List code.Row = c.args.room.now in
    let none = subst (λ (zs : List code.Row). (i : ℕ) → i < length zs → sequence_at zs i ≡ r.sequence → ⊥) c.split_at_mut-run.ensures.front (c.add_same.ensures.none c.if-add_same.false) in
    let l = subst (λ (zs : List code.Row). length zs < length (join (row_view r) (rows_view (take (c.args.end - c.args.len) zs)))) c.split_at_mut-run.ensures.back c.in_err-count.ensures.put in
    rw c.from_residual.ensures (record { put = aside_none c.args.len c.args.end room c.requires.holding r none l })

pub returns : goal.returns
returns c =
    let r : code.Row = c.args.row.now in
    let room : List code.Row = c.args.room.now in
    let m : ℕ = c.in_ok-count.count in
    let S : List Row = join (row_view r) (held_state c.args.len c.args.end room) in
    let none = subst (λ (zs : List code.Row). (i : ℕ) → i < length zs → sequence_at zs i ≡ r.sequence → ⊥) c.split_at_mut-run.ensures.front (c.add_same.ensures.none c.if-add_same.false) in
    let w : Written m (join (row_view r) (rows_view (take (c.args.end - c.args.len) (drop c.args.len room)))) (drop c.args.len room) c.join-2.new.rows =
    subst (λ (zs : List code.Row). Written m (join (row_view r) (rows_view (take (c.args.end - c.args.len) zs))) zs c.join-2.new.rows) c.split_at_mut-run.ensures.back c.in_ok-count.ensures.put in
    let k : c.add_same.new.run ≡ take c.args.len room = c.add_same.ensures.kept c.if-add_same.false ∙ c.split_at_mut-run.ensures.front in
    record {
      put = (
        aside_more c.args.len c.args.end room c.requires.holding r none m w.count,
        subst (λ (zs : List code.Row). Held c.args.len (c.args.len + m) S room (zs ++ c.join-2.new.rows)) (sym k) (aside_batch c.args.len c.args.end room c.requires.holding r none m c.join-2.new.rows w),
      );
    }

pub join-requires-clause-ascending : goal.join-requires-clause-ascending
join-requires-clause-ascending c = batch_ascends c.args.len c.args.end c.args.room.now c.requires.holding c.if-len-eq0.true

pub join-requires-clause-small : goal.join-requires-clause-small
join-requires-clause-small c =
    λ b h.
    let e = ap (total_of b) (batch_state c.args.len c.args.end c.args.room.now c.requires.holding c.if-len-eq0.true) in
    let s = c.requires.small b h in
    omega arith

pub returns-then-len-eq0 : goal.returns-then-len-eq0
returns-then-len-eq0 c = record { put = batch_put c.args.len c.args.end c.args.room.now c.requires.holding c.if-len-eq0.true c.args.row.now _ _ c.join.ensures.put c.join.auto.rows }
