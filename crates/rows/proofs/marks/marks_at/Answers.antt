use Rattle.std.proofs.Common.{◌≡◌, ◌≤◌, length, ap, ◌∙◌, arith}
use Rattle.std.proofs.ByRecursion.{All-get_or}
use Rattle.protocol.specs.Machine.{card_at}
use Rattle.rows.proofs.Showing.{mark_set, marks_first, none_after}
use Rattle.rows.proofs.marks.marks_at.Goals as goal

pub at-requires : goal.at-requires
at-requires c = All-get_or (λ p. (1 ≤ p) × (p ≤ 12)) c.args.places.now c.loop-i.i 0 (omega arith) c.requires.places

pub loop-i-preserved : goal.loop-i-preserved
loop-i-preserved c =
    mark_set c.args.row c.args.places.now c.loop-i.marks c.loop-i.i c.requires.few c.loop-i.invariant c.card_at.result (omega arith)
    (c.card_at.ensures ∙ ap (card_at c.args.row) c.at.ensures)

pub returns : goal.returns
returns c =
    let all : c.loop-i.i ≡ length c.args.places.now = omega arith in
    record {
      shown = marks_first c.args.row c.args.places.now c.loop-i.marks c.loop-i.i c.requires.few c.loop-i.invariant all;
      past = none_after c.args.row c.args.places.now c.loop-i.marks c.loop-i.i c.requires.few c.loop-i.invariant all;
    }
